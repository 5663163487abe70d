use Rattle.std.proofs.Common.{ℕ, List, [], ◌∷◌, ◌++◌, ap, ◌∙◌, arith, rules}
use Rattle.std.proofs.lemmas.List.Elements.{Contains-get_or}
use Rattle.snb_reach.proofs.FewLemmas.{all_visited, first_visiting, visited}
use Rattle.snb_reach.proofs.few.near_ids.Goals as goal

pub loop-one-init : goal.loop-one-init
loop-one-init c =
    first_visiting c.args.graph.now c.args.start c.args.level c.args.met.now _ _ _ c.requires.from (c.in_ok-push.ensures.items ∙ ap (λ (l : List ℕ). l ++ c.args.start ∷ []) c.new-ids.ensures.items)
    (c.in_ok-noted.ensures.items_if_clones_equal (λ y h. search rules))

pub visit-requires-clause-below : goal.visit-requires-clause-below
visit-requires-clause-below c =
    let (at, low) = c.requires.met.told _ _ (Contains-get_or c.args.met.now c.loop-one.one-index (0, 0) c.loop-one-test.true) in
    omega (arith, low, c.requires.above)

pub loop-one-preserved : goal.loop-one-preserved
loop-one-preserved c =
    let after = c.in_ok-visit.ensures in
    visited c.args.graph.now c.args.start c.args.level c.args.met.now c.loop-one.one-index c.loop-one.noted.items c.loop-one.ids.items c.visit.new.noted.items c.visit.new.ids.items (0, 0) c.loop-one-test.true c.loop-one.invariant
    after.noted after.ids after.stays after.own after.friends

pub returns : goal.returns
returns c = all_visited c.args.graph.now c.args.start c.args.level c.args.met.now c.loop-one.one-index c.loop-one.noted.items c.loop-one.ids.items c.loop-one-test.false c.loop-one.invariant
