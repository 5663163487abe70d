-- The pieces so far are written, and there was no fault.
use Rattle.std.proofs.Common.{false, length, ◌-◌, ◌≡◌, ◌≤◌, take}
use Rattle.std.specs.Option.{option_map}
use Rattle.snb_base.specs.Outbox.{Rooms, appended, room_of, with_room}
use Rattle.snb_base.specs.Shelf.{HasCounted}
use Rattle.snb_tool_texts.specs.Answers.{bytes_in}
use Rattle.snb_tool_outcome.proofs.delivery.write_each.Given as goal

abbrev pub invariant-loop-piece : goal.invariant-loop-piece
invariant-loop-piece g l = record {
  written : g.O.Outbox.written l.out ≡ option_map (λ w. appended w l.fn.channel (bytes_in (take l.piece-index l.pieces))) (g.O.Outbox.written l.initial.out);
  counted : HasCounted false (g.O.Outbox.faults l.initial.out) (g.O.Outbox.faults l.out);
  sure : (rooms : Rooms) → g.O.Outbox.ready l.initial.out rooms → length (bytes_in l.pieces) ≤ room_of rooms l.fn.channel
      → g.O.Outbox.ready l.out (with_room rooms l.fn.channel (room_of rooms l.fn.channel - length (bytes_in (take l.piece-index l.pieces))));
}
