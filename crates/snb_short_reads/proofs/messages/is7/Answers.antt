use Rattle.std.proofs.Common.{rules, refl}
use Rattle.std.proofs.lemmas.List.Sorted.{IsPermutation-refl}
use Rattle.std.proofs.lemmas.Result.{IfOk-weaker}
use Rattle.snb_read_order.proofs.Laws.{compares, walked}
use Rattle.snb_read_model.specs.Order.{AllRows}
use Rattle.snb_short_reads.proofs.RowLemmas.{is7_answers, replies_first, replies_total}
use Rattle.snb_short_reads.specs.Found.{IsReplyFound, without_author}
use Rattle.snb_read_model.specs.ShortReads.{IsReplyTo}
use Rattle.snb_short_reads.proofs.messages.is7.Goals as goal
use Rattle.snb_base.proofs.Laws.{each_at, each_made}

pub list_of-requires : goal.list_of-requires
list_of-requires c =
    let each = each_at (IsReplyFound c.args.graph.now c.args.message) _
    (walked (IsReplyFound c.args.graph.now c.args.message) replies_first AllRows _ _ _ _ _ c.in_ok-found.ensures.each (IsPermutation-refl _) refl
    (c.in_order-ordered.ensures replies_first replies_total (compares _ _ replies_first (λ a r q k. search rules))) c.as_slice.ensures.value) in
    search (rules, each)

pub returns : goal.returns
returns c =
    IfOk-weaker c.list_of.result _ _ (λ a z. is7_answers c.args.graph.now c.args.message _ _ a c.in_ok-found.ensures
    (c.in_order-ordered.ensures replies_first replies_total (compares _ _ replies_first (λ a r q k. search rules))) (rw c.as_slice.ensures.value at z)) (each_made _ _ (λ z row. IsReplyTo c.args.graph.now c.args.message (without_author z) row) (λ p row k. search rules) c.list_of.result _ c.list_of.ensures)
