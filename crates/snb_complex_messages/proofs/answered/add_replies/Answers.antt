use Rattle.std.proofs.Common.{◌∷◌, [], sym, subst}
use Rattle.std.specs.List.Sorted.{IsPermutation}
use Rattle.snb_graph_links.specs.Pairs.{rest}
use Rattle.snb_graph_model.specs.Around.{replies}
use Rattle.snb_complex_messages.proofs.Moves.{appended_done, appended_next}
use Rattle.snb_complex_messages.proofs.answered.add_replies.Goals as goal

pub loop-comment-preserved : goal.loop-comment-preserved
loop-comment-preserved c =
    appended_next _ _ ((c.in-Some.comment, c.in-Some.date) ∷ []) _ (rest c.next.new.self) _ c.in-Some.ensures.steps c.in_ok-push.ensures.items c.loop-comment.invariant

pub returns : goal.returns
returns c =
    appended_done _ _ _ _ _
    (subst (λ w. IsPermutation (replies c.args.graph.now c.args.message) (rest w)) (sym c.into_iter-comment-iterator.ensures.into_iter_gives) c.replies-comment-items.ensures.same)
    c.in-None.ensures.steps.0 c.loop-comment.invariant
