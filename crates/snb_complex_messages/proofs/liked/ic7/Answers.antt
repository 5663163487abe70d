use Rattle.std.proofs.Common.{ℕ, ◌∷◌, [], map, rules, sym, subst}
use Rattle.std.proofs.lemmas.List.Sorted.{All-permutation, IsPermutation-refl, IsPermutation-trans}
use Rattle.std.proofs.lemmas.Result.{IfOk-weaker}
use Rattle.std.specs.List.Sorted.{IsPermutation, IsSorted}
use Rattle.snb_graph_links.specs.Pairs.{rest}
use Rattle.snb_read_order.proofs.Laws.{compares}
use Rattle.snb_graph_model.specs.Around.{likes, messages}
use Rattle.snb_read_model.specs.MessageReads.{IsLiked, best_likes, liked}
use Rattle.snb_read_model.specs.Order.{Falling, FirstRows, Rising}
use Rattle.snb_read_lookups.proofs.Laws.{answers_moved}
use Rattle.snb_complex_messages.proofs.Heads.{weigh_total}
use Rattle.snb_complex_messages.proofs.LikeLemmas.{best_found, best_moved}
use Rattle.snb_complex_messages.proofs.Moves.{joined_done, joined_next, ordered_moved, ordered_sorted}
use Rattle.snb_complex_messages.specs.Found.{IsLikeFound, like_of, weigh}
use Rattle.snb_complex_messages.proofs.liked.ic7.Goals as goal

pub loop-message-init : goal.loop-message-init
loop-message-init c = rw c.new-found.ensures.items (IsPermutation-refl _)

pub loop-message-preserved : goal.loop-message-preserved
loop-message-preserved c =
    joined_next (λ (m : ℕ × ℕ). map (like_of m) (likes c.args.graph.now m.0)) _ _ _ _ (rest c.next.new.self) c.in-Some.message c.in-Some.ensures.steps c.in_ok-add_likes.ensures c.loop-message.invariant

pub best_of-requires : goal.best_of-requires
best_of-requires c =
    subst (IsSorted weigh) (sym c.deref.ensures.value) (ordered_sorted weigh _ _ (c.in_order-ordered.ensures weigh weigh_total (compares _ _ weigh (λ a r q k. search rules))))

pub latest_likes-requires : goal.latest_likes-requires
latest_likes-requires c =
    let g = c.args.graph.now in
    let moves = joined_done (λ (m : ℕ × ℕ). map (like_of m) (likes g m.0)) (messages g c.args.person) _ _ _ c.in-None.ensures.steps.0
    (subst (λ w. IsPermutation (messages g c.args.person) (rest w)) (sym c.into_iter-message-iterator.ensures.into_iter_gives) c.messages-message-items.ensures.same) c.loop-message.invariant in
    let ordered = ordered_moved weigh _ _ (c.in_order-ordered.ensures weigh weigh_total (compares _ _ weigh (λ a r q k. search rules))) in
    All-permutation (IsLikeFound g) (best_likes g c.args.person) _
    (best_moved (liked g c.args.person) _ _ (IsPermutation-trans _ _ _ moves ordered) (rw c.deref.ensures.value at c.in_ok-best.ensures))
    (best_found g c.known.ensures c.sound_graphs.ensures.numbers c.requires.sound.held c.args.person)

pub returns : goal.returns
returns c =
    let g = c.args.graph.now in
    let moves = joined_done (λ (m : ℕ × ℕ). map (like_of m) (likes g m.0)) (messages g c.args.person) _ _ _ c.in-None.ensures.steps.0
    (subst (λ w. IsPermutation (messages g c.args.person) (rest w)) (sym c.into_iter-message-iterator.ensures.into_iter_gives) c.messages-message-items.ensures.same) c.loop-message.invariant in
    let ordered = ordered_moved weigh _ _ (c.in_order-ordered.ensures weigh weigh_total (compares _ _ weigh (λ a r q k. search rules))) in
    let best = best_moved (liked g c.args.person) _ _ (IsPermutation-trans _ _ _ moves ordered) (rw c.deref.ensures.value at c.in_ok-best.ensures) in
    IfOk-weaker c.latest_likes.result _ _ (λ a is. answers_moved (IsLiked g c.args.person) (Falling 4 ∷ Rising 1 ∷ []) (FirstRows 20) _ _ a best is) c.latest_likes.ensures
