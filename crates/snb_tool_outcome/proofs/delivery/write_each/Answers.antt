use Rattle.std.proofs.Common.{◌+◌, take, subst}
use Rattle.snb_base.specs.Outbox.{Rooms}
use Rattle.snb_base.proofs.Laws.{counted_after}
use Rattle.snb_tool_texts.specs.Answers.{bytes_in}
use Rattle.snb_tool_outcome.proofs.Writing.{cut_after, first_pieces, fit_after, left_after, next_piece, written_both}
use Rattle.snb_tool_outcome.proofs.delivery.write_each.Goals as goal

pub returns-in-Err-clause-err : goal.returns-in-Err-clause-err
returns-in-Err-clause-err g c =
    let pieces = c.args.pieces.now in
    let i = c.loop-piece.piece-index in
    let next = next_piece pieces i c.piece-item.result _ c.loop-piece-test.true c.piece-item.is c.deref.ensures.value in
    let h = c.in-Err.ensures.err in
    cut_after c.args.channel (bytes_in (take i pieces)) _ _ (bytes_in pieces) next (first_pieces pieces (i + 1)) h.0 _ _ _ h.1 c.loop-piece.invariant.written h.2

pub returns-in-Err-clause-sure : goal.returns-in-Err-clause-sure
returns-in-Err-clause-sure g c = λ rooms r l.
    let pieces = c.args.pieces.now in
    let i = c.loop-piece.piece-index in
    let next = next_piece pieces i c.piece-item.result _ c.loop-piece-test.true c.piece-item.is c.deref.ensures.value in
    c.in-Err.ensures.sure _ (c.loop-piece.invariant.sure rooms r l)
    (fit_after c.args.channel (bytes_in (take i pieces)) _ _ (bytes_in pieces) next (first_pieces pieces (i + 1)) rooms l)

pub loop-piece-preserved : goal.loop-piece-preserved
loop-piece-preserved g c =
    let pieces = c.args.pieces.now in
    let i = c.loop-piece.piece-index in
    let next = next_piece pieces i c.piece-item.result _ c.loop-piece-test.true c.piece-item.is c.deref.ensures.value in
    record {
      written = written_both c.args.channel (bytes_in (take i pieces)) _ _ _ _ _ next c.loop-piece.invariant.written c.in_default.ensures.ok;
      counted = counted_after c.loop-piece.invariant.counted c.in_default.ensures.counted;
      sure = λ rooms r l.
          subst (λ (k : Rooms). g.O.Outbox.ready c.write_all.new.out k)
          (left_after c.args.channel (bytes_in (take i pieces)) _ _ (bytes_in pieces) next (first_pieces pieces (i + 1)) rooms)
          (c.in_default.ensures.left _ (c.loop-piece.invariant.sure rooms r l)
          (fit_after c.args.channel (bytes_in (take i pieces)) _ _ (bytes_in pieces) next (first_pieces pieces (i + 1)) rooms l));
    }
