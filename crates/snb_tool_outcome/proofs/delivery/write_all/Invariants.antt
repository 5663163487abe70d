-- The bytes so far are written, and there was no fault.
use Rattle.std.proofs.Common.{false, length, ◌-◌, ◌≡◌, ◌≤◌, take}
use Rattle.std.specs.Option.{option_map}
use Rattle.snb_base.specs.Outbox.{Rooms, appended, room_of, with_room}
use Rattle.snb_base.specs.Shelf.{HasCounted}
use Rattle.snb_tool_outcome.proofs.delivery.write_all.Given as goal

abbrev pub invariant-loop-done : goal.invariant-loop-done
invariant-loop-done g l = record {
  within : l.done ≤ length l.bytes;
  written : g.O.Outbox.written l.out ≡ option_map (λ w. appended w l.fn.channel (take l.done l.bytes)) (g.O.Outbox.written l.initial.out);
  counted : HasCounted false (g.O.Outbox.faults l.initial.out) (g.O.Outbox.faults l.out);
  sure : (rooms : Rooms) → g.O.Outbox.ready l.initial.out rooms → length l.bytes ≤ room_of rooms l.fn.channel
      → g.O.Outbox.ready l.out (with_room rooms l.fn.channel (room_of rooms l.fn.channel - l.done));
}

abbrev pub decreases-loop-done : goal.decreases-loop-done
decreases-loop-done g l = length l.bytes - l.done
