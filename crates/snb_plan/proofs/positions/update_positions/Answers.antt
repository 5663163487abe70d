use Rattle.std.proofs.Common.{◌↔◌, ◌∙◌, List, ap, length, subst, sym, Contains}
use Rattle.std.proofs.lemmas.List.Sorted.{length_permutation}
use Rattle.snb_plan.specs.declared.positions.Position.{Position}
use Rattle.snb_plan.specs.Merging.{numbered_lanes}
use Rattle.snb_plan.specs.Positions.{IsUpdatePosition}
use Rattle.snb_plan.proofs.Ordered.{Distinct}
use Rattle.snb_plan.proofs.Positioning.{all_distinct, all_length, all_those, positions_sorted}
use Rattle.snb_plan.proofs.positions.update_positions.Goals as goal

pub returns-clause-updates : goal.returns-clause-updates
returns-clause-updates c =
    let is = sym c.in_ok-positions.ensures in
    let sorted = positions_sorted (IsUpdatePosition c.args.lanes.now) c.in_ok-positions.positions.items c.sort.new.self.items
    (subst Distinct is (all_distinct c.args.lanes.now))
    (subst (λ (xs : List Position). (s : Position) → Contains xs s ↔ IsUpdatePosition c.args.lanes.now s) is (all_those c.args.lanes.now))
    c.in_ok-sort.ensures.permutation c.in_ok-sort.ensures.sorted in
    record { ordered = sorted.0; those = sorted.1 }

pub returns-clause-counted : goal.returns-clause-counted
returns-clause-counted c =
    length_permutation c.in_ok-positions.positions.items c.sort.new.self.items c.in_ok-sort.ensures.permutation
    ∙ ap (λ (xs : List Position). length xs) c.in_ok-positions.ensures ∙ all_length 0 (numbered_lanes c.args.lanes.now)
