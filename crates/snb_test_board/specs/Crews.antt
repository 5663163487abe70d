-- What seats are after their workers' calls.
use Rattle.std.specs.Prelude.{◌≡◌, ℕ, ◌<◌, List, [], length, slice_index_or}
use Rattle.snb_board.specs.Boards.{Site, Sitting, sitting, time_below}

-- the same worker's seat at the same board
abbrev pub IsSameSeat : Sitting → Sitting → Type 0
IsSameSeat s t = (t.site ≡ s.site) × (t.worker ≡ s.worker)

-- one seat of the board for each worker, in order
abbrev pub AreInOrder : Site → List Sitting → Type 0
AreInOrder z seats =
    (length seats ≡ z.workers)
    × ((k : ℕ) (d : Sitting) → k < z.workers
    → IsSameSeat (sitting z k [] (time_below 0)) (slice_index_or seats k d))
