use Rattle.std.proofs.Common.{sym, subst}
use Rattle.snb_graph_adjacency.specs.Kept.{IsBacked, IsIndexed}
use Rattle.snb_graph_adjacency.proofs.Laws.{fresh_own, frozen_twice, more_backed, delta_fresh, delta_indexed, delta_undone, same_indexed, still_backed}
use Rattle.snb_graph_tables.proofs.Laws.{frozen_is, rows_is}
use Rattle.snb_graph_tables.specs.Entries.{row_of}
use Rattle.snb_graph_model.proofs.Laws.{err_of, ok_of}
use Rattle.snb_graph.proofs.additions.put_linked.Goals as goal

pub add_delta-requires : goal.add_delta-requires
add_delta-requires c =
    delta_fresh c.args.tables.now.rows (row_of c.args.entry) c.args.links.now c.args.delta c.requires.kept.indexed c.requires.says c.requires.free

pub returns-then-is_err-clause-kept : goal.returns-then-is_err-clause-kept
returns-then-is_err-clause-kept c = record {
  indexed = same_indexed c.args.tables.now.rows c.args.links.now c.add_delta.new.self (err_of c.add_delta.result c.if-is_err.ensures.value c.add_delta.ensures.err) c.requires.kept.indexed;
  backed = still_backed c.args.tables.now.frozen c.args.links.now c.add_delta.new.self c.add_delta.ensures.frozen c.requires.kept.backed;
}

pub drop_delta-requires : goal.drop_delta-requires
drop_delta-requires c =
    let fresh = delta_fresh c.args.tables.now.rows (row_of c.args.entry) c.args.links.now c.args.delta c.requires.kept.indexed c.requires.says c.requires.free in
    fresh_own c.args.links.now c.add_delta.new.self c.args.delta fresh c.known.ensures c.add_delta.ensures.frozen

pub returns-then-is_err-2-clause-err : goal.returns-then-is_err-2-clause-err
returns-then-is_err-2-clause-err c = rows_is (err_of c.put.result c.if-is_err-2.ensures.value c.put.ensures.err)

pub returns-then-is_err-2-clause-kept : goal.returns-then-is_err-2-clause-kept
returns-then-is_err-2-clause-kept c =
    let old = c.args.links.now in
    let fresh = delta_fresh c.args.tables.now.rows (row_of c.args.entry) old c.args.delta c.requires.kept.indexed c.requires.says c.requires.free in
    let has = ok_of c.add_delta.result c.if-is_err.ensures.value c.add_delta.ensures.ok in
    let same = err_of c.put.result c.if-is_err-2.ensures.value c.put.ensures.err in
    record {
      indexed = subst (λ g. IsIndexed g c.drop_delta.new.self) (sym (rows_is same)) (same_indexed c.args.tables.now.rows old c.drop_delta.new.self (delta_undone old c.add_delta.new.self c.drop_delta.new.self c.args.delta fresh has c.drop_delta.ensures.gone) c.requires.kept.indexed);
      backed = subst (λ g. IsBacked g c.drop_delta.new.self) (sym (frozen_is same)) (still_backed c.args.tables.now.frozen old c.drop_delta.new.self (frozen_twice old c.add_delta.new.self c.drop_delta.new.self c.add_delta.ensures.frozen c.drop_delta.ensures.frozen) c.requires.kept.backed);
    }

pub returns-clause-kept : goal.returns-clause-kept
returns-clause-kept c = record {
  indexed = delta_indexed c.args.tables.now.rows c.put.new.self.rows (row_of c.args.entry) c.args.links.now c.add_delta.new.self c.args.delta c.requires.kept.indexed c.requires.says
      (ok_of c.add_delta.result c.if-is_err.ensures.value c.add_delta.ensures.ok) (ok_of c.put.result c.if-is_err-2.ensures.value c.put.ensures.ok);
  backed = more_backed c.args.tables.now.frozen c.put.new.self.frozen c.add_delta.new.self c.put.ensures.more (still_backed c.args.tables.now.frozen c.args.links.now c.add_delta.new.self c.add_delta.ensures.frozen c.requires.kept.backed);
}
