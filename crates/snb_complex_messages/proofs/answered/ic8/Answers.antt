use Rattle.std.proofs.Common.{ℕ, ◌∷◌, [], sym, subst}
use Rattle.std.proofs.lemmas.List.Sorted.{All-permutation, IsPermutation-refl}
use Rattle.std.proofs.lemmas.Result.{IfOk-weaker}
use Rattle.std.specs.List.Sorted.{IsPermutation}
use Rattle.snb_graph_links.specs.Pairs.{rest}
use Rattle.snb_graph_model.specs.Around.{messages, replies}
use Rattle.snb_read_model.specs.MessageReads.{ShowsReply}
use Rattle.snb_read_model.specs.Order.{Falling, FirstRows, Rising}
use Rattle.snb_read_lookups.proofs.Laws.{answers_moved}
use Rattle.snb_complex_messages.proofs.Moves.{joined_done, joined_next}
use Rattle.snb_complex_messages.proofs.ReplyLemmas.{all_replied}
use Rattle.snb_complex_messages.specs.Found.{IsCommentFound}
use Rattle.snb_complex_messages.proofs.answered.ic8.Goals as goal

pub loop-message-init : goal.loop-message-init
loop-message-init c = rw c.new-found.ensures.items (IsPermutation-refl _)

pub loop-message-preserved : goal.loop-message-preserved
loop-message-preserved c =
    joined_next (λ (m : ℕ × ℕ). replies c.args.graph.now m.0) _ _ _ _ (rest c.next.new.self) (c.in-Some.message, c.in-Some.field-0-1) c.in-Some.ensures.steps c.in_ok-add_replies.ensures c.loop-message.invariant

pub latest_replies-requires-clause-found : goal.latest_replies-requires-clause-found
latest_replies-requires-clause-found c =
    let g = c.args.graph.now in
    All-permutation (IsCommentFound g) _ _
    (joined_done (λ (m : ℕ × ℕ). replies g m.0) (messages g c.args.person) _ _ _ c.in-None.ensures.steps.0
    (subst (λ w. IsPermutation (messages g c.args.person) (rest w)) (sym c.into_iter-message-iterator.ensures.into_iter_gives) c.messages-message-items.ensures.same) c.loop-message.invariant)
    (all_replied g c.known.ensures c.sound_graphs.ensures.numbers (messages g c.args.person))

pub returns : goal.returns
returns c =
    let g = c.args.graph.now in
    let moves = joined_done (λ (m : ℕ × ℕ). replies g m.0) (messages g c.args.person) _ _ _ c.in-None.ensures.steps.0
    (subst (λ w. IsPermutation (messages g c.args.person) (rest w)) (sym c.into_iter-message-iterator.ensures.into_iter_gives) c.messages-message-items.ensures.same) c.loop-message.invariant in
    IfOk-weaker c.latest_replies.result _ _ (λ a is. answers_moved (ShowsReply g) (Falling 4 ∷ Rising 5 ∷ []) (FirstRows 20) _ _ a moves is) c.latest_replies.ensures
