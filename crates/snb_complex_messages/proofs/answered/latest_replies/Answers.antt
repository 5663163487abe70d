use Rattle.std.proofs.Common.{rules, refl}
use Rattle.std.proofs.lemmas.List.Sorted.{IsPermutation-refl}
use Rattle.std.proofs.lemmas.Result.{IfOk-weaker}
use Rattle.snb_read_order.proofs.Laws.{compares, walked}
use Rattle.snb_read_model.specs.Order.{FirstRows}
use Rattle.snb_complex_messages.proofs.ReplyLemmas.{reply_answers}
use Rattle.snb_complex_messages.specs.Found.{IsCommentFound}
use Rattle.snb_read_model.specs.MessageReads.{ShowsReply}
use Rattle.snb_complex_messages.proofs.answered.latest_replies.Goals as goal
use Rattle.snb_base.proofs.Laws.{each_at, each_made}
use Rattle.snb_read_lookups.proofs.Laws.{recent_first, recent_total}

pub list_of-requires : goal.list_of-requires
list_of-requires c =
    let each = each_at (IsCommentFound c.args.graph.now) _
    (walked (IsCommentFound c.args.graph.now) recent_first (FirstRows 20) _ _ _ _ _ c.requires.found (IsPermutation-refl _) refl
    (c.first_of-first.ensures recent_first recent_total (compares _ _ recent_first (λ a r q k. search rules))) c.as_slice.ensures.value) in
    search (rules, each)

pub returns : goal.returns
returns c =
    let laws = c.sound_graphs.ensures in
    IfOk-weaker c.list_of.result _ _ (λ a z. reply_answers c.args.graph.now c.known.ensures laws.numbers c.requires.sound laws.kinds laws.author _ _ a c.requires.found
    (c.first_of-first.ensures recent_first recent_total (compares _ _ recent_first (λ a r q k. search rules))) (rw c.as_slice.ensures.value at z)) (each_made _ _ (ShowsReply c.args.graph.now) (λ p row k. search rules) c.list_of.result _ c.list_of.ensures)
