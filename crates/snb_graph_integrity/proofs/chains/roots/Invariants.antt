use Rattle.snb_schema.specs.declared.table.Table.TheVariants as table
use Rattle.snb_graph_integrity.proofs.ChainLemmas.{IsTaking}
use Rattle.snb_graph_integrity.proofs.chains.roots.Given as goal

abbrev pub invariant-loop-row : goal.invariant-loop-row
invariant-loop-row l = IsTaking l.tables.rows table.CommentReplyOfPost l.ids.items l.row-iterator
