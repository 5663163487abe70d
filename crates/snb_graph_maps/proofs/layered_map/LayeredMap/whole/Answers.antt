use Rattle.std.proofs.Common.{◌≡◌, Option, Some, None, List, [], false, is_some, refl, sym}
use mathlib.Core.Bool.{false≢true}
use Rattle.std.specs.declared.sync.Arc.{Arc}
use Rattle.snb_graph_maps.specs.Merged.{entries_of}
use Rattle.snb_graph_maps.proofs.PendingLemmas.{all_added}
use Rattle.snb_graph_maps.proofs.layered_map.LayeredMap.whole.Goals as goal
use Rattle.std.proofs.lemmas.Result.{IfOk-weaker}

nothing : {K X Z : Type 0} (frozen : Option (Arc (List (K × X)) Z)) → is_some frozen ≡ false → entries_of frozen ≡ []
nothing None e = refl
nothing (Some x) e = absurd (false≢true (sym e))

pub returns-then-is_loaded-clause-ok : goal.returns-then-is_loaded-clause-ok
returns-then-is_loaded-clause-ok g c = rw (← c.self.view_is) (IfOk-weaker c.take_sorted.result _ _ (λ all is. all_added g.K.Ord.cmp g.met.K.Ord.total g.met.K.Apart.same_key (entries_of c.self.inside.frozen) c.self.inside.added all (nothing c.self.inside.frozen c.if-is_none.ensures) c.self.invariant.parts.added_rises is) c.take_sorted.ensures.ok)
