use Rattle.std.proofs.Common.{◌∷◌, [], sym, ap, subst, map}
use Rattle.std.proofs.lemmas.List.Sorted.{IsPermutation-map}
use Rattle.std.specs.List.Sorted.{IsPermutation}
use Rattle.snb_graph_links.specs.Pairs.{rest}
use Rattle.snb_graph_model.specs.Around.{likes}
use Rattle.snb_complex_messages.proofs.Moves.{appended_done, appended_next}
use Rattle.snb_complex_messages.specs.Found.{like_of}
use Rattle.snb_complex_messages.proofs.liked.add_likes.Goals as goal

pub loop-person-preserved : goal.loop-person-preserved
loop-person-preserved c =
    appended_next _ _ (like_of c.args.message (c.in-Some.person, c.in-Some.date) ∷ []) _ (map (like_of c.args.message) (rest c.next.new.self)) _ (ap (map (like_of c.args.message)) c.in-Some.ensures.steps) c.in_ok-push.ensures.items c.loop-person.invariant

pub returns : goal.returns
returns c =
    let g = c.args.graph.now in
    let moves = subst (λ w. IsPermutation (likes g c.args.message.0) (rest w)) (sym c.into_iter-person-iterator.ensures.into_iter_gives) (c.likes-person-items.ensures.held c.requires.held).same in
    appended_done _ _ _ _ _ (IsPermutation-map (like_of c.args.message) _ _ moves) (ap (map (like_of c.args.message)) c.in-None.ensures.steps.0) c.loop-person.invariant
