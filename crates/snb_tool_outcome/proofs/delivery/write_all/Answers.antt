use Rattle.std.proofs.Common.{◌-◌, subst, arith, ℕ}
use Rattle.std.proofs.lemmas.List.{take_rest, length-take, length-drop}
use Rattle.snb_base.specs.Outbox.{Rooms, room_of, with_room}
use Rattle.snb_base.proofs.Laws.{counted_after}
use Rattle.snb_tool_outcome.proofs.Writing.{less_left, room_left, written-more}
use Rattle.snb_tool_outcome.proofs.delivery.write_all.Goals as goal

pub loop-done-preserved : goal.loop-done-preserved
loop-done-preserved g c = record {
  within = omega (arith, c.in-Took.ensures.took.1, length-take {A = ℕ}, length-drop {A = ℕ});
  written = written-more _ c.args.bytes.now _ _ _ _ _ _ (take_rest c.args.bytes.now _) c.loop-done.invariant.written c.in-Took.ensures.took.2;
  counted = counted_after c.loop-done.invariant.counted c.in-Took.ensures.counted;
  sure = λ rooms r l.
      let left = room_left rooms c.args.channel (room_of rooms c.args.channel - c.loop-done.done) in
      subst (λ (k : Rooms). g.O.Outbox.ready c.write.new.self k) (less_left rooms c.args.channel c.loop-done.done c.in-Took.count)
      (c.in-Took.ensures.sure (with_room rooms c.args.channel (room_of rooms c.args.channel - c.loop-done.done)) (c.loop-done.invariant.sure rooms r l)
      (omega (arith, l, left, length-take {A = ℕ}, length-drop {A = ℕ})));
}
