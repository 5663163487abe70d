use Rattle.std.proofs.Common.{[], nat_lt, rules}
use Rattle.std.proofs.lemmas.List.Sorted.{All-permutation, IsPermutation-refl}
use Rattle.std.proofs.lemmas.Result.{IfOk-weaker}
use Rattle.snb_read_model.specs.MessageReads.{IsSent, newest_first}
use Rattle.snb_read_model.specs.Order.{FirstRows}
use Rattle.snb_read_lookups.proofs.Laws.{answers_moved, near_found}
use Rattle.snb_complex_messages.proofs.Moves.{joined_all, joined_more}
use Rattle.snb_complex_messages.proofs.SentLemmas.{all_sent}
use Rattle.snb_complex_messages.specs.Found.{IsSentFound, sent_by}
use Rattle.snb_complex_messages.proofs.sent.ic9.Goals as goal

pub loop-one-init : goal.loop-one-init
loop-one-init c = ([], c.none_yet-top.ensures, IsPermutation-refl _)

pub loop-one-preserved : goal.loop-one-preserved
loop-one-preserved c =
    let (found, are, moves) = c.loop-one.invariant in
    let (now, kept, more) = c.in_ok-offer_messages.ensures (λ date. nat_lt date c.args.max_date) (λ date answer k. search rules) found are in
    (now, kept, joined_more (λ p. sent_by c.args.graph.now (λ date. nat_lt date c.args.max_date) p.0) c.as_slice-one-items.result.now c.loop-one.one-index (0, 0) found now c.loop-one-test.true moves more)

pub latest_sent-requires : goal.latest_sent-requires
latest_sent-requires c =
    let g = c.args.graph.now in
    let (found, are, moves) = c.loop-one.invariant in (
      found,
      are,
      All-permutation (IsSentFound g) _ _
          (joined_all (λ p. sent_by g (λ date. nat_lt date c.args.max_date) p.0) c.in_ok-near.near _ c.loop-one.one-index found c.as_slice-one-items.ensures c.loop-one-test.false moves)
          (all_sent g c.known.ensures c.sound_graphs.ensures.numbers (λ date. nat_lt date c.args.max_date) c.in_ok-near.near (near_found g c.args.person 2 c.in_ok-near.near c.in_ok-near.ensures)),
    )

pub returns : goal.returns
returns c =
    let g = c.args.graph.now in
    let (found, are, moves) = c.loop-one.invariant in
    let same = joined_all (λ p. sent_by g (λ date. nat_lt date c.args.max_date) p.0) c.in_ok-near.near _ c.loop-one.one-index found c.as_slice-one-items.ensures c.loop-one-test.false moves in
    let all = All-permutation (IsSentFound g) _ _ same (all_sent g c.known.ensures c.sound_graphs.ensures.numbers (λ date. nat_lt date c.args.max_date) c.in_ok-near.near (near_found g c.args.person 2 c.in_ok-near.near c.in_ok-near.ensures)) in
    IfOk-weaker c.latest_sent.result _ _ (λ a is. record { near = c.in_ok-near.near; within = c.in_ok-near.ensures; answers = answers_moved (IsSent g) newest_first (FirstRows 20) _ _ a same (is found are all) }) c.latest_sent.ensures
