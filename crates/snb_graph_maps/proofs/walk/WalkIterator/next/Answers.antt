use Rattle.std.specs.Map.Iter.{deref_pair}
use Rattle.snb_graph_maps.proofs.MergedLemmas.{takes_from_frozen, takes_from_added, takes_progress}
use Rattle.snb_graph_maps.proofs.walk.WalkIterator.next.Goals as goal

pub invariant_of-self : goal.invariant_of-self
invariant_of-self g c = (takes_from_frozen g.K.Ord.cmp g.met.K.Ord.total _ _ _ deref_pair c.take.result c.self.invariant c.if-takes_frozen.ensures c.take.ensures).1

pub invariant_of-self-else-takes_frozen : goal.invariant_of-self-else-takes_frozen
invariant_of-self-else-takes_frozen g c = (takes_from_added g.K.Ord.cmp g.met.K.Ord.total _ _ _ deref_pair c.take-else-takes_frozen.result c.self.invariant c.if-takes_frozen.ensures c.take-else-takes_frozen.ensures).1

pub returns-then-takes_frozen-clause-steps : goal.returns-then-takes_frozen-clause-steps
returns-then-takes_frozen-clause-steps g c = rw (← c.self.view_is) (takes_from_frozen g.K.Ord.cmp g.met.K.Ord.total _ _ _ deref_pair c.take.result c.self.invariant c.if-takes_frozen.ensures c.take.ensures).0

pub returns-then-takes_frozen-clause-goes : goal.returns-then-takes_frozen-clause-goes
returns-then-takes_frozen-clause-goes g c = takes_progress deref_pair _ _ c.take.result (returns-then-takes_frozen-clause-steps g c)

pub returns-else-takes_frozen-clause-steps : goal.returns-else-takes_frozen-clause-steps
returns-else-takes_frozen-clause-steps g c = rw (← c.self.view_is) (takes_from_added g.K.Ord.cmp g.met.K.Ord.total _ _ _ deref_pair c.take-else-takes_frozen.result c.self.invariant c.if-takes_frozen.ensures c.take-else-takes_frozen.ensures).0

pub returns-else-takes_frozen-clause-goes : goal.returns-else-takes_frozen-clause-goes
returns-else-takes_frozen-clause-goes g c = takes_progress deref_pair _ _ c.take-else-takes_frozen.result (returns-else-takes_frozen-clause-steps g c)
