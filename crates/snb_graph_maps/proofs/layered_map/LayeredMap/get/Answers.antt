use Rattle.std.proofs.Common.{ap, sym, ◌∙◌}
use Rattle.snb_graph_maps.specs.Merged.{entries_of, value_at}
use Rattle.snb_graph_maps.proofs.PartLemmas.{found_added_first, found_frozen_else, found_frozen_first}
use Rattle.snb_graph_maps.proofs.layered_map.LayeredMap.get.Goals as goal

pub returns-in-Some : goal.returns-in-Some
returns-in-Some g c = rw (← c.self.view_is) (sym (found_frozen_first g.K.Ord.cmp g.met.K.Ord.total g.met.K.Apart.same_key (entries_of c.self.inside.frozen) c.self.inside.added c.args.key.now _ c.self.invariant.parts (rw (← c.self.view_is) at c.in-Some.ensures)))

pub returns-in-Some-get : goal.returns-in-Some-get
returns-in-Some-get g c = rw (← c.self.view_is) (sym (found_added_first g.K.Ord.cmp g.met.K.Ord.total g.met.K.Apart.same_key (entries_of c.self.inside.frozen) c.self.inside.added c.args.key.now _ (sym c.in-Some-get.ensures)))

pub returns-in-None : goal.returns-in-None
returns-in-None g c =
    rw (← c.self.view_is) (c.find.ensures ∙ ap (λ es. value_at g.K.Ord.cmp es c.args.key.now) (rw (← c.self.view_is) at c.frozen.ensures.lent) ∙ sym (found_frozen_else g.K.Ord.cmp g.met.K.Ord.total g.met.K.Apart.same_key (entries_of c.self.inside.frozen) c.self.inside.added c.args.key.now (sym c.in-None.ensures)))
