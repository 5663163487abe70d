use Rattle.std.proofs.Common.{ℕ}
use Rattle.std.specs.Ordering.{nat_cmp}
use Rattle.std.specs.Cmp.{nat_cmp_total}
use Rattle.snb_graph_links.proofs.links.LinksIterator.next.Goals as goal
use Rattle.snb_graph_maps.proofs.Laws.{takes_from_added, takes_from_frozen, takes_progress}

pub invariant_of-self : goal.invariant_of-self
invariant_of-self c = (takes_from_frozen nat_cmp nat_cmp_total _ _ _ (λ (x : ℕ × ℕ). x) c.split-first.result.0 c.self.invariant c.if-takes_frozen.ensures c.split-first.ensures).1

pub invariant_of-self-else-takes_frozen : goal.invariant_of-self-else-takes_frozen
invariant_of-self-else-takes_frozen c = (takes_from_added nat_cmp nat_cmp_total _ _ _ (λ (x : ℕ × ℕ). x) c.split-first-else-takes_frozen.result.0 c.self.invariant c.if-takes_frozen.ensures c.split-first-else-takes_frozen.ensures).1

pub returns-then-takes_frozen-clause-steps : goal.returns-then-takes_frozen-clause-steps
returns-then-takes_frozen-clause-steps c = rw (← c.self.view_is) (takes_from_frozen nat_cmp nat_cmp_total _ _ _ (λ (x : ℕ × ℕ). x) c.split-first.result.0 c.self.invariant c.if-takes_frozen.ensures c.split-first.ensures).0

pub returns-then-takes_frozen-clause-goes : goal.returns-then-takes_frozen-clause-goes
returns-then-takes_frozen-clause-goes c =
    let p = takes_progress (λ (x : ℕ × ℕ). x) _ _ c.split-first.result.0 (returns-then-takes_frozen-clause-steps c) in
    record { on = p.on; keeps = p.keeps; rests = p.rests }

pub returns-else-takes_frozen-clause-steps : goal.returns-else-takes_frozen-clause-steps
returns-else-takes_frozen-clause-steps c = rw (← c.self.view_is) (takes_from_added nat_cmp nat_cmp_total _ _ _ (λ (x : ℕ × ℕ). x) c.split-first-else-takes_frozen.result.0 c.self.invariant c.if-takes_frozen.ensures c.split-first-else-takes_frozen.ensures).0

pub returns-else-takes_frozen-clause-goes : goal.returns-else-takes_frozen-clause-goes
returns-else-takes_frozen-clause-goes c =
    let p = takes_progress (λ (x : ℕ × ℕ). x) _ _ c.split-first-else-takes_frozen.result.0 (returns-else-takes_frozen-clause-steps c) in
    record { on = p.on; keeps = p.keeps; rests = p.rests }
