use Rattle.std.proofs.Common.{rules, refl, subst}
use Rattle.std.proofs.lemmas.List.Sorted.{IsPermutation-refl}
use Rattle.std.proofs.lemmas.Result.{IfOk-weaker}
use Rattle.snb_read_order.proofs.Laws.{compares, walked}
use Rattle.snb_read_model.specs.MessageReads.{IsSent}
use Rattle.snb_read_model.specs.Order.{FirstRows, SortedAndCut}
use Rattle.snb_complex_messages.proofs.SentLemmas.{sent_answers, sent_total}
use Rattle.snb_complex_messages.specs.Found.{IsSentFound, sent_first}
use Rattle.snb_complex_messages.proofs.sent.latest_sent.Goals as goal
use Rattle.snb_base.proofs.Laws.{each_at, each_made}

pub list_of-requires : goal.list_of-requires
list_of-requires c =
    let (found, is, all) = c.requires in
    let each = each_at (IsSentFound c.args.graph.now) _
    (walked (IsSentFound c.args.graph.now) sent_first (FirstRows 20) _ _ _ _ _ all (IsPermutation-refl _) refl
    (subst (λ n. SortedAndCut sent_first (FirstRows n) found c.into_first-first.result.items) is.1
    (c.into_first-first.ensures sent_first found sent_total (compares _ _ sent_first (λ a r q k. search rules)) is.0)) c.as_slice.ensures.value) in
    search (rules, each)

pub returns : goal.returns
returns c =
    let g = c.args.graph.now in
    IfOk-weaker c.list_of.result _ _ (λ a z found is all.
    sent_answers g c.known.ensures c.sound_graphs.ensures.numbers found _ a all
    (subst (λ n. SortedAndCut sent_first (FirstRows n) found c.into_first-first.result.items) is.1
    (c.into_first-first.ensures sent_first found sent_total (compares _ _ sent_first (λ a r q k. search rules)) is.0)) (rw c.as_slice.ensures.value at z)) (each_made _ _ (IsSent g) (λ p row k. search rules) c.list_of.result _ c.list_of.ensures)
