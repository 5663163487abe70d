-- What the steps of a turn ask and give. Cited by contracts of private functions alone.
use Rattle.std.specs.Prelude.{◌≡◌, ◌≤◌, ℕ, suc, ℤ, pos, List, [], ◌∷◌, ◌++◌, Bool, true, false, ◌<◌}
use lib.IntN.{negsuc}
use mathlib.Core.List.{IsPrefix}
use Rattle.atomic_table.specs.Seated.{TableId}
use Rattle.atomic_table.specs.declared.shared.Seat.{Seat}
use Rattle.snb_history.specs.declared.event.Event.{Event}
use Rattle.snb_history.specs.Schedule.{Schedule}
use Rattle.snb_book.specs.declared.claim.Claim.{Claim}
use Rattle.snb_book.specs.declared.claim.Claim.TheVariants.{Halted, AllStarted, Busy, NotDue, Go, Blocked}
use Rattle.snb_board.specs.declared.view.View.{View}
use Rattle.snb_board.specs.declared.view.Part.{Part}
use Rattle.snb_board.specs.declared.view.Phase.TheVariants.{Idle, Holding}
use Rattle.std.specs.Prelude.{Err, None}
use Rattle.snb_board.specs.Boards.{Sitting, sitting, site, events_of, time_below}
use Rattle.snb_board.specs.Views.{Home}
use Rattle.snb_board.specs.Parts.{author, part, reached, viewing, posed, seen_of, number_of, told_of, telling}

abbrev pub Place : Type 0
Place = Seat Home View

abbrev pub IsSized : TableId → Type 0
IsSized z = (z.words ≡ 3) × (z.slots ≡ 1)

abbrev pub IsSeated : Place → Place → Type 0
IsSeated p q = (q.table_id ≡ p.table_id) × (q.id ≡ p.id)

-- the view has just its own part, and it has the schedule and the count of workers
abbrev pub IsSingle : View → Type 0
IsSingle v =
    (v.parts ≡ part (number_of v.parts) (seen_of v.parts) (told_of v.parts) ∷ []) × (0 < v.workers)

-- it has no turn and no slot
abbrev pub IsResting : Place → Type 0
IsResting p = (p.me.0.phase ≡ Idle) × IsSingle p.me.0 × (p.me.1 ≡ [])

-- the seat has the turn and the empty slot. The history that it found begins with what it had seen,
-- and has no other event of its worker
abbrev pub HoldsTurn : Place → Place → List Event → Type 0
HoldsTurn p q h =
    (q.me ≡ (posed Holding h p.me.0, (0, Err None) ∷ []))
    × IsPrefix (seen_of p.me.0.parts) h
    × (events_of (number_of p.me.0.parts) h
    ≡ events_of (number_of p.me.0.parts) (seen_of p.me.0.parts))

-- the history has grown by one event of this worker, or not at all
abbrev pub Grew : ℕ → List Event → Bool → List Event → Type 0
Grew w h true h' = (e : Event) × (author e ≡ w) × (h' ≡ h ++ e ∷ [])
Grew w h false h' = h' ≡ h

-- it has the turn, and the slot, which is empty
abbrev pub HasTurn : Place → Type 0
HasTurn p = (p.me.0.phase ≡ Holding) × IsSingle p.me.0 × (p.me.1 ≡ (0, Err None) ∷ [])

-- what a seat is seen as
abbrev pub sitting_of : Place → Sitting
sitting_of p =
    sitting (site p.table_id p.me.0.schedule p.me.0.workers) (number_of p.me.0.parts)
    (seen_of p.me.0.parts) (time_below (told_of p.me.0.parts))

-- the view with what other seats have seen, and the count of seats made, if one of them had it
abbrev pub with_parts : View → ℕ → List Part → View
with_parts v made ps = viewing v.phase v.schedule v.workers made (v.parts ++ ps)

-- the view that was told a word
abbrev pub told_view : View → ℕ → View
told_view v n = viewing v.phase v.schedule v.workers v.made (telling n v.parts)

-- a time plus 1, or 0 for any time below 0
abbrev pub number_after : ℤ → ℕ
number_after (pos n) = suc n
number_after (negsuc n) = 0

-- the part of a seat
abbrev pub part_of : Sitting → Part
part_of s = part s.worker s.seen (number_after s.told)

-- what a part has seen begins the history, which has no other event of its worker
abbrev pub IsKnown : Schedule → List Event → Part → Type 0
IsKnown schedule history p =
    IsPrefix p.seen history × (events_of p.worker history ≡ events_of p.worker p.seen)
    × (p.told ≤ reached schedule history)

-- the claim is a Go
abbrev pub is_go : Claim → Bool
is_go Halted = false
is_go AllStarted = false
is_go (Busy op holder) = false
is_go (NotDue until) = false
is_go (Go ticket) = true
is_go (Blocked op needs time) = false
