use Rattle.std.proofs.Common.{refl}
use Rattle.snb_graph_maps.specs.Merged.{entries_of}
use Rattle.snb_graph_maps.proofs.MergedLemmas.{merged-insert}
use Rattle.snb_graph_maps.proofs.PartLemmas.{none_in_parts, stored_more}
use Rattle.snb_graph_maps.proofs.layered_map.LayeredMap.insert.Goals as goal

pub insert-requires : goal.insert-requires
insert-requires g c = (none_in_parts g.K.Ord.cmp g.met.K.Ord.total g.met.K.Apart.same_key (entries_of c.self.inside.frozen) c.self.inside.added c.args.key (rw (← c.self.view_is) at c.requires.new)).0

pub invariant_of-self-2 : goal.invariant_of-self-2
invariant_of-self-2 g c =
    stored_more g.K.Ord.cmp g.met.K.Ord.total g.met.K.Apart.same_key (entries_of c.self.inside.frozen) c.self.inside.added c.insert.new.self c.args.key c.args.value _ c.self.invariant (rw (← c.self.view_is) at c.requires.new) c.in_ok-insert.ensures.ok refl (rw (← c.self.view_is) at c.requires.room)

pub returns-clause-ok : goal.returns-clause-ok
returns-clause-ok g c = rw (c.in_ok-insert.ensures.ok, ← c.self.view_is) (merged-insert g.K.Ord.cmp g.met.K.Ord.total g.met.K.Apart.same_key (entries_of c.self.inside.frozen) c.self.inside.added c.args.key c.args.value c.self.invariant.parts.frozen_rises)
