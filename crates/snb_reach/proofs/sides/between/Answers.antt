use Rattle.std.proofs.Common.{◌≡◌, ◌+◌, ◌-◌, ◌<◌, ◌^◌, arith, inl, inr, nat_eq, refl, rules}
use Rattle.std.specs.HashMap.{get, hash_map_len}
use Rattle.snb_reach.proofs.SideLemmas.{ready, search_ends, search_grown, search_meets, search_starts, two_keys, two_len}
use Rattle.snb_reach.proofs.sides.between.Goals as goal

pub steps-init : goal.steps-init
steps-init c =
    let held = two_keys c.new-met.result c.insert.new.self c.insert-2.new.self c.args.from c.args.to c.new-met.ensures.empty c.in_ok-insert.ensures.updates.0 c.in_ok-insert-2.ensures.updates.0 in
    let long = two_len c.new-met.result c.insert.new.self c.insert-2.new.self c.args.from c.args.to c.new-met.ensures.empty c.in_ok-insert.ensures.updates.0 c.in_ok-insert.field-0 c.in_ok-insert-2.field-0 c.requires.apart
    c.in_ok-insert.ensures.old c.in_ok-insert.ensures.len c.in_ok-insert-2.ensures.old c.in_ok-insert-2.ensures.len in
    record {
      search = search_starts c.args.graph.now c.args.from c.args.to _ _ _ _ _ _ _ _ _ c.requires.apart c.requires.from_held c.requires.to_held held c.in_ok-near.ensures c.in_ok-far.ensures;
      low = rw (c.in_ok-near.ensures.2, c.in_ok-far.ensures.2, c.in_ok-near.ensures.3, c.in_ok-far.ensures.3) (omega (arith, long));
    }

pub returns-then-is_over : goal.returns-then-is_over
returns-then-is_over c =
    let none = rw c.if-is_over.true at c.is_over.ensures in
    inr (search_ends c.args.graph.now c.args.from c.args.to _ _ _ _ _ _ _ _ _ c.steps.invariant.search none, refl)

pub grow-requires-clause-side : goal.grow-requires-clause-side
grow-requires-clause-side c =
    let left = rw c.if-is_over.false at c.is_over.ensures in
    let on = ready c.args.graph.now c.args.from c.args.to c.steps.near c.steps.far c.smaller_first.new.near c.smaller_first.new.far (get nat_eq c.steps.met) (hash_map_len c.steps.met) c.smaller_first.ensures c.steps.invariant.search
    c.steps.invariant.low left.0 left.1 in
    let same : c.smaller_first.new.near.level + 1 - 1 ≡ c.smaller_first.new.near.level = omega arith in
    rw (same, c.deref.ensures.value) on.search_is.near

pub steps-preserved : goal.steps-preserved
steps-preserved c =
    let left = rw c.if-is_over.false at c.is_over.ensures in
    let on = ready c.args.graph.now c.args.from c.args.to c.steps.near c.steps.far c.smaller_first.new.near c.smaller_first.new.far (get nat_eq c.steps.met) (hash_map_len c.steps.met) c.smaller_first.ensures c.steps.invariant.search
    c.steps.invariant.low left.0 left.1 in
    let grown = rw c.in-Some.is at c.in_ok-next.ensures.met in
    let long = rw c.in-Some.is at c.in_ok-next.ensures.len in
    record {
      search = search_grown c.args.graph.now c.args.from c.args.to _ _ _ _ _ _ _ _ (get nat_eq c.steps.met) on.search_is (c.smaller_first.new.near.level + 1) (get nat_eq c.grow.new.met) c.in-Some.next.items refl grown;
      low = omega (arith, on.small, long);
    }

pub returns-in-None : goal.returns-in-None
returns-in-None c =
    let left = rw c.if-is_over.false at c.is_over.ensures in
    let on = ready c.args.graph.now c.args.from c.args.to c.steps.near c.steps.far c.smaller_first.new.near c.smaller_first.new.far (get nat_eq c.steps.met) (hash_map_len c.steps.met) c.smaller_first.ensures c.steps.invariant.search
    c.steps.invariant.low left.0 left.1 in
    let meeting = rw c.in-None.is at c.in_ok-next.ensures.met in
    let at = search_meets c.args.graph.now c.args.from c.args.to _ _ _ _ _ _ _ _ (get nat_eq c.steps.met) on.search_is (c.smaller_first.new.near.level + 1) refl meeting in
    let fits : c.smaller_first.new.near.level + 1 + c.smaller_first.new.far.level < 2 ^ 63 = omega (arith, on.small, c.len-count.ensures.small, c.len-count.ensures.len) in
    inl (c.smaller_first.new.near.level + 1 + c.smaller_first.new.far.level, at, search rules)
