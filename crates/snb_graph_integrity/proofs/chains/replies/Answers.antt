use Rattle.std.proofs.Common.{◌∙◌, refl}
use Rattle.snb_schema.specs.declared.table.Table.TheVariants as table
use Rattle.snb_graph_integrity.proofs.ChainLemmas.{link_shape, pairing_begun, pairing_ended, pairing_more, pairing_new}
use Rattle.snb_schema.specs.LentRows.{lent_row}
use Rattle.snb_graph_integrity.proofs.chains.replies.Goals as goal

pub loop-row-init : goal.loop-row-init
loop-row-init c = rw c.empty-pairs.ensures (pairing_begun c.args.tables.now.rows table.CommentReplyOfComment c.into_iter-row-iterator.result c.known.ensures (c.into_iter-row-iterator.ensures.into_iter_gives ∙ c.lent-row-items.ensures))

pub ends-comment-requires : goal.ends-comment-requires
ends-comment-requires c = link_shape c.args.tables.now.rows table.CommentReplyOfComment c.loop-row.row-iterator c.next.new.self (lent_row c.in-Some.row) c.in-Some.ensures.steps c.loop-row.invariant.of refl

pub add-requires : goal.add-requires
add-requires c =
    pairing_new c.args.tables.now.rows table.CommentReplyOfComment c.loop-row.pairs c.loop-row.row-iterator c.next.new.self (lent_row c.in-Some.row) c.ends-comment.result.0 c.ends-comment.result.1 c.in-Some.ensures.steps c.ends-comment.ensures c.loop-row.invariant

pub loop-row-preserved : goal.loop-row-preserved
loop-row-preserved c =
    pairing_more c.args.tables.now.rows table.CommentReplyOfComment c.loop-row.pairs c.add.new.self c.loop-row.row-iterator c.next.new.self (lent_row c.in-Some.row) c.ends-comment.result.0 c.ends-comment.result.1 c.in-Some.ensures.steps c.ends-comment.ensures c.in_ok-add.ensures.ok c.loop-row.invariant

pub returns : goal.returns
returns c = pairing_ended c.args.tables.now.rows table.CommentReplyOfComment c.loop-row.pairs c.loop-row.row-iterator c.in-None.ensures.steps.0 c.loop-row.invariant
