use Rattle.std.proofs.Common.{rules, refl}
use Rattle.std.proofs.lemmas.List.Sorted.{IsPermutation-refl}
use Rattle.std.proofs.lemmas.Result.{IfOk-weaker}
use Rattle.snb_read_order.proofs.Laws.{compares, walked}
use Rattle.snb_read_model.specs.Order.{FirstRows}
use Rattle.snb_complex_messages.proofs.LikeLemmas.{like_answers, likes_first, likes_total}
use Rattle.snb_complex_messages.specs.Found.{IsLikeFound}
use Rattle.snb_read_model.specs.MessageReads.{IsLiked}
use Rattle.snb_complex_messages.proofs.liked.latest_likes.Goals as goal
use Rattle.snb_base.proofs.Laws.{each_at, each_made}

pub list_of-requires : goal.list_of-requires
list_of-requires c =
    let each = each_at (IsLikeFound c.args.graph.now) _
    (walked (IsLikeFound c.args.graph.now) likes_first (FirstRows 20) _ _ _ _ _ c.requires (IsPermutation-refl _) refl
    (c.first_of-first.ensures likes_first likes_total (compares _ _ likes_first (λ a r q k. search rules))) c.as_slice.ensures.value) in
    search (rules, each)

pub returns : goal.returns
returns c =
    IfOk-weaker c.list_of.result _ _ (λ a z. like_answers c.args.graph.now c.known.ensures c.sound_graphs.ensures.numbers c.args.start _ _ a c.requires
    (c.first_of-first.ensures likes_first likes_total (compares _ _ likes_first (λ a r q k. search rules))) (rw c.as_slice.ensures.value at z)) (each_made _ _ (IsLiked c.args.graph.now c.args.start) (λ p row k. search rules) c.list_of.result _ c.list_of.ensures)
