use Rattle.std.proofs.Common.{◌≡◌, [], map}
use Rattle.snb_board.specs.Steps.{part_of, with_parts}
use Rattle.snb_board.proofs.board.gather_all.Given as goal

abbrev pub invariant-loop-seat : goal.invariant-loop-seat
invariant-loop-seat l = (l.place.table_id ≡ l.initial.place.table_id) × (l.place.id ≡ l.initial.place.id) × (l.place.me ≡ (with_parts l.initial.place.me.0 l.place.me.0.made (map part_of l.yielded), []))
