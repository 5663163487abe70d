use Rattle.std.proofs.Common.{sym, ◌∙◌}
use Rattle.std.specs.Arc.{arc_value}
use Rattle.std.proofs.lemmas.List.{length-map}
use Rattle.std.proofs.lemmas.Map.Entries.{length-keys_of}
use Rattle.snb_graph_maps.proofs.ZipLemmas.{zip-sides}
use Rattle.snb_graph_maps.proofs.layered_map.LayeredMap.frozen.Goals as goal

pub over-requires : goal.over-requires
over-requires g c = rw (c.values.ensures, c.keys.ensures, c.deref.ensures, c.deref-in-Some.ensures) (length-map (arc_value c.in-Some.frozen) _ ∙ sym (length-keys_of (arc_value c.in-Some.frozen)))

pub returns-in-Some-clause-lent : goal.returns-in-Some-clause-lent
returns-in-Some-clause-lent g c = rw (← c.self.view_is, c.in-Some.is, c.over.ensures, c.values.ensures, c.keys.ensures, c.deref.ensures, c.deref-in-Some.ensures) (zip-sides (arc_value c.in-Some.frozen))
