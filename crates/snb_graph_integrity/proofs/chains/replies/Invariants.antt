use Rattle.snb_schema.specs.declared.table.Table.TheVariants as table
use Rattle.snb_graph_integrity.proofs.ChainLemmas.{IsPairing}
use Rattle.snb_graph_integrity.proofs.chains.replies.Given as goal

abbrev pub invariant-loop-row : goal.invariant-loop-row
invariant-loop-row l = IsPairing l.tables.rows table.CommentReplyOfComment l.pairs l.row-iterator
