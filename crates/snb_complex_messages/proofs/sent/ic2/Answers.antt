use Rattle.std.proofs.Common.{[], nat_le, rules, sym, subst}
use Rattle.std.proofs.lemmas.List.Sorted.{All-permutation, IsPermutation-refl}
use Rattle.std.proofs.lemmas.Result.{IfOk-weaker}
use Rattle.std.specs.List.Sorted.{IsPermutation}
use Rattle.snb_graph_links.specs.Pairs.{rest}
use Rattle.snb_graph_model.specs.Around.{friends}
use Rattle.snb_read_model.specs.MessageReads.{IsSent, newest_first}
use Rattle.snb_read_model.specs.Order.{FirstRows}
use Rattle.snb_read_lookups.proofs.Laws.{answers_moved, friends_found}
use Rattle.snb_complex_messages.proofs.Moves.{joined_done, joined_next}
use Rattle.snb_complex_messages.proofs.SentLemmas.{all_sent}
use Rattle.snb_complex_messages.specs.Found.{IsSentFound, sent_by}
use Rattle.snb_complex_messages.proofs.sent.ic2.Goals as goal

pub loop-friend-init : goal.loop-friend-init
loop-friend-init c = ([], c.none_yet-top.ensures, IsPermutation-refl _)

pub loop-friend-preserved : goal.loop-friend-preserved
loop-friend-preserved c =
    let (found, are, moves) = c.loop-friend.invariant in
    let (now, kept, more) = c.in_ok-offer_messages.ensures (λ date. nat_le date c.args.max_date) (λ date answer k. search rules) found are in
    (now, kept, joined_next (λ p. sent_by c.args.graph.now (λ date. nat_le date c.args.max_date) p.0) _ found now _ (rest c.next.new.self) (c.in-Some.friend, c.in-Some.field-0-1) c.in-Some.ensures.steps more moves)

pub latest_sent-requires : goal.latest_sent-requires
latest_sent-requires c =
    let g = c.args.graph.now in
    let (found, are, moves) = c.loop-friend.invariant in (
      found,
      are,
      All-permutation (IsSentFound g) _ _
          (joined_done (λ p. sent_by g (λ date. nat_le date c.args.max_date) p.0) (friends g c.args.person) _ _ _ c.in-None.ensures.steps.0
          (subst (λ w. IsPermutation (friends g c.args.person) (rest w)) (sym c.into_iter-friend-iterator.ensures.into_iter_gives) c.friends-friend-items.ensures.same) moves)
          (all_sent g c.known.ensures c.sound_graphs.ensures.numbers (λ date. nat_le date c.args.max_date) (friends g c.args.person) (friends_found g c.known.ensures c.sound_graphs.ensures.numbers c.requires.sound.held c.args.person)),
    )

pub returns : goal.returns
returns c =
    let g = c.args.graph.now in
    let (found, are, moves) = c.loop-friend.invariant in
    let same = joined_done (λ p. sent_by g (λ date. nat_le date c.args.max_date) p.0) (friends g c.args.person) _ _ _ c.in-None.ensures.steps.0
    (subst (λ w. IsPermutation (friends g c.args.person) (rest w)) (sym c.into_iter-friend-iterator.ensures.into_iter_gives) c.friends-friend-items.ensures.same) moves in
    let all = All-permutation (IsSentFound g) _ _ same (all_sent g c.known.ensures c.sound_graphs.ensures.numbers (λ date. nat_le date c.args.max_date) (friends g c.args.person) (friends_found g c.known.ensures c.sound_graphs.ensures.numbers c.requires.sound.held c.args.person)) in
    IfOk-weaker c.latest_sent.result _ _ (λ a is. answers_moved (IsSent g) newest_first (FirstRows 20) _ _ a same (is found are all)) c.latest_sent.ensures
