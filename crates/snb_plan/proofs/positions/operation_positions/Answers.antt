use Rattle.std.proofs.Common.{◌≡◌, ◌↔◌, ◌⊎◌, ◌∙◌, ◌++◌, List, ℕ, ap, arith, length, length-append, subst, sym, Contains}
use Rattle.std.proofs.lemmas.List.Sorted.{length_permutation}
use Rattle.snb_plan.specs.declared.positions.Position.{Position}
use Rattle.snb_plan.specs.Merging.{read_lane}
use Rattle.snb_plan.specs.Positions.{IsReadPosition, IsUpdatePosition}
use Rattle.snb_plan.specs.Instances.{read_positions}
use Rattle.snb_plan.proofs.Ordered.{Distinct}
use Rattle.snb_plan.proofs.Positioning.{both_distinct, both_those, reads_length, positions_sorted}
use Rattle.snb_plan.proofs.positions.operation_positions.Goals as goal

pub returns-clause-positions : goal.returns-clause-positions
returns-clause-positions c =
    let lanes = c.args.lanes.now in
    let updates = c.args.updates.now in
    let reads = c.args.reads.now in
    let is : updates ++ read_positions updates (read_lane lanes) 0 reads ≡ c.push_reads.new.positions.items =
    sym (c.in_ok-push_reads.ensures
    ∙ ap (λ (us : List Position). us ++ read_positions us c.read_lane.result 0 reads) c.in_ok-positions.ensures.items
    ∙ ap (λ (lane : ℕ). updates ++ read_positions updates lane 0 reads) c.read_lane.ensures.value) in
    let sorted = positions_sorted (λ s. IsUpdatePosition lanes s ⊎ IsReadPosition lanes updates reads s) c.push_reads.new.positions.items c.sort.new.self.items
    (subst Distinct is (both_distinct lanes updates reads c.requires.updates))
    (subst (λ (xs : List Position). (s : Position) → Contains xs s ↔ (IsUpdatePosition lanes s ⊎ IsReadPosition lanes updates reads s)) is (both_those lanes updates reads c.requires.updates))
    c.in_ok-sort.ensures.permutation c.in_ok-sort.ensures.sorted in
    record { ordered = sorted.0; those = sorted.1 }

pub returns-clause-counted : goal.returns-clause-counted
returns-clause-counted c =
    let lanes = c.args.lanes.now in
    let updates = c.args.updates.now in
    let reads = c.args.reads.now in
    let sorted = length_permutation c.push_reads.new.positions.items c.sort.new.self.items c.in_ok-sort.ensures.permutation in
    let all = ap (λ (xs : List Position). length xs) c.in_ok-push_reads.ensures in
    let old = ap (λ (xs : List Position). length xs) c.in_ok-positions.ensures.items in
    let both = length-append c.in_ok-positions.positions.items (read_positions c.in_ok-positions.positions.items c.read_lane.result 0 reads) in
    let more = reads_length c.in_ok-positions.positions.items c.read_lane.result 0 reads in
    omega (arith, sorted, all, old, both, more)
