use Rattle.std.proofs.Common.{inl}
use Rattle.snb_graph_adjacency.proofs.Laws.{frozen_twice}
use Rattle.snb_graph_adjacency.proofs.LinkLemmas.{both_gained, first_undone, lost_of_same, new_own, still_new, still_own}
use Rattle.snb_graph_model.proofs.Laws.{err_of, ok_of}
use Rattle.snb_graph_adjacency.proofs.indexes.Indexes.add_delta.Goals as goal

pub add_some-requires : goal.add_some-requires
add_some-requires c k is = c.requires.new k (inl is)

pub add_some-requires-2 : goal.add_some-requires-2
add_some-requires-2 c = still_new c.args.self.now c.add_some.new.self c.args.delta c.requires c.in_ok-add_some.ensures.ok

pub drop_some-requires : goal.drop_some-requires
drop_some-requires c k is =
    still_own c.args.self.now c.add_some-2.new.self k (frozen_twice c.args.self.now c.add_some.new.self c.add_some-2.new.self c.add_some.ensures.frozen c.add_some-2.ensures.frozen)
    (new_own c.args.self.now k c.known.ensures (c.requires.new k (inl is)))

pub returns-then-is_err-clause-err : goal.returns-then-is_err-clause-err
returns-then-is_err-clause-err c =
    let same = err_of c.add_some-2.result (c.if-is_err.ensures.value) c.add_some-2.ensures.err in
    first_undone c.args.self.now c.add_some.new.self c.drop_some.new.self c.args.delta c.requires c.in_ok-add_some.ensures.ok
    (lost_of_same c.add_some-2.new.self c.add_some.new.self c.drop_some.new.self c.args.delta.first same c.drop_some.ensures.gone)

pub returns-then-is_err-clause-frozen : goal.returns-then-is_err-clause-frozen
returns-then-is_err-clause-frozen c = frozen_twice c.args.self.now c.add_some-2.new.self c.drop_some.new.self (frozen_twice c.args.self.now c.add_some.new.self c.add_some-2.new.self c.add_some.ensures.frozen c.add_some-2.ensures.frozen) c.drop_some.ensures.frozen

pub returns-clause-ok : goal.returns-clause-ok
returns-clause-ok c = both_gained c.args.self.now c.add_some.new.self c.add_some-2.new.self c.args.delta c.in_ok-add_some.ensures.ok (ok_of c.add_some-2.result (c.if-is_err.ensures.value) c.add_some-2.ensures.ok)

pub returns-clause-frozen : goal.returns-clause-frozen
returns-clause-frozen c = frozen_twice c.args.self.now c.add_some.new.self c.add_some-2.new.self c.add_some.ensures.frozen c.add_some-2.ensures.frozen
