use Rattle.std.proofs.Common.{inl, inr}
use Rattle.snb_graph_adjacency.proofs.Laws.{frozen_twice}
use Rattle.snb_graph_adjacency.proofs.LinkLemmas.{both_lost, still_own}
use Rattle.snb_graph_adjacency.proofs.indexes.Indexes.drop_delta.Goals as goal

pub drop_some-requires : goal.drop_some-requires
drop_some-requires c k is = c.requires k (inl is)

pub drop_some-requires-2 : goal.drop_some-requires-2
drop_some-requires-2 c k is = still_own c.args.self.now c.drop_some.new.self k c.drop_some.ensures.frozen (c.requires k (inr is))

pub returns-clause-gone : goal.returns-clause-gone
returns-clause-gone c = both_lost c.args.self.now c.drop_some.new.self c.drop_some-2.new.self c.args.delta c.drop_some.ensures.gone c.drop_some-2.ensures.gone

pub returns-clause-frozen : goal.returns-clause-frozen
returns-clause-frozen c = frozen_twice c.args.self.now c.drop_some.new.self c.drop_some-2.new.self c.drop_some.ensures.frozen c.drop_some-2.ensures.frozen
