use Rattle.std.proofs.Common.{◌≡◌, ℕ, suc, ◌+◌, ◌<◌, [], ◌∷◌, length, Some}
use Rattle.std.specs.Prelude.{slice_get}
use Rattle.snb_board.specs.declared.view.Phase.TheVariants.{Idle}
use Rattle.snb_board.specs.Parts.{viewing, part}
use Rattle.snb_board.specs.Boards.{site, sitting, time_below}
use Rattle.snb_board.proofs.board.seat_all.Given as goal

abbrev pub invariant-loop-worker : goal.invariant-loop-worker
invariant-loop-worker l = (l.place.table_id ≡ l.initial.place.table_id)
    × (l.place.me ≡ (viewing Idle l.initial.place.me.0.schedule l.workers l.worker (part 0 [] 0 ∷ []), []))
    × (length l.seats.items + 1 ≡ l.worker)
    × ((k : ℕ) → suc k < l.worker → slice_get l.seats.items k ≡ Some (sitting (site l.top.table_id l.initial.place.me.0.schedule l.workers) (suc k) [] (time_below 0)))
