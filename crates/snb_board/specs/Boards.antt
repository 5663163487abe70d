-- What a board and its seats are seen as, and what their calls do.
use Rattle.std.specs.Prelude.{◌≡◌, ◌<◌, ◌++◌, ℕ, pos, ℤ, ◌-ℤ◌, ◌≤ℤ◌, List, [], ◌∷◌, length, slice_get, Some, All, Any, true}
use Rattle.std.specs.List.{filter}
use mathlib.Core.List.{IsPrefix}
use Rattle.atomic_table.specs.Seated.{TableId}
use Rattle.snb_history.specs.declared.event.Event.{Event}
use Rattle.snb_history.specs.declared.event.Event.TheVariants.{Start, Finish, Halt}
use Rattle.snb_schema.specs.declared.limits.TheConstants.{MAX_TIME}
use Rattle.snb_history.specs.Schedule.{Schedule}
use Rattle.snb_history.specs.History.{is_by}
use Rattle.snb_history.specs.Completion.{completion}
use Rattle.snb_history.specs.Rules.{IsLegal}
use Rattle.snb_book.specs.declared.claim.Claim.{Claim}
use Rattle.snb_book.specs.declared.claim.Claim.TheVariants.{Halted, AllStarted, Busy, NotDue, Go, Blocked}
use Rattle.snb_book.specs.declared.claim.Ticket.{Ticket}
use Rattle.snb_book.specs.Claims.{IsClaim}
use Rattle.snb_book.specs.Kept.{moment_after}

-- which board it is, its schedule, and its count of workers
pub record Site : Type 0 where
  pub table_id : TableId
  pub schedule : Schedule
  pub workers : ℕ

-- a seat's board, its worker's number, the beginning of the board's history that it has seen, and
-- the greatest completion time that it was told, or -1
pub record Sitting : Type 0 where
  pub site : Site
  pub worker : ℕ
  pub seen : List Event
  pub told : ℤ

abbrev pub site : TableId → Schedule → ℕ → Site
site table_id schedule workers =
    record { table_id = table_id; schedule = schedule; workers = workers }

abbrev pub sitting : Site → ℕ → List Event → ℤ → Sitting
sitting where_it_is worker seen told =
    record { site = where_it_is; worker = worker; seen = seen; told = told }

-- the worker's events among these, in their order
abbrev pub events_of : ℕ → List Event → List Event
events_of worker h = filter (is_by worker) h

-- the events of the seat's worker
abbrev pub mine : Sitting → List Event
mine s = events_of s.worker s.seen

-- one less than a time
abbrev pub time_below : ℕ → ℤ
time_below n = pos n -ℤ pos 1

-- the call found a history that begins with all that the seat had seen, and added some events, all
-- of the seat's worker, of which P holds. The seat has now seen the found history with these; it is
-- legal, and of the seat's worker it has what the seat knew and these
pub record HasCalled (s t : Sitting) (P : List Event → List Event → Type 0) : Type 0 where
  pub site : t.site ≡ s.site
  pub worker : t.worker ≡ s.worker
  pub found : List Event
  pub begins : IsPrefix s.seen found
  pub added : List Event
  pub seen : t.seen ≡ found ++ added
  pub mine : mine t ≡ mine s ++ added
  pub legal : IsLegal s.site.schedule s.site.workers t.seen
  pub told : t.told ≡ s.told
  pub known : t.told ≤ℤ completion s.site.schedule t.seen
  pub is_so : P found added

-- the events that a claim adds: a Start where it is a Go
abbrev pub claimed_events : ℕ → ℕ → Claim → List Event
claimed_events worker at Halted = []
claimed_events worker at AllStarted = []
claimed_events worker at (Busy op holder) = []
claimed_events worker at (NotDue until) = []
claimed_events worker at (Go ticket) = Start ticket.op worker at ∷ []
claimed_events worker at (Blocked op needs time) = []

-- the claim is the book's answer at the history that was found, where the clock shows now
abbrev pub HasClaimed : Sitting → Sitting → ℕ → Claim → Type 0
HasClaimed s t now claim =
    HasCalled s t
    (λ h added. IsClaim s.site.schedule h s.worker (moment_after h now) claim
    × (added ≡ claimed_events s.worker (moment_after h now) claim))

-- the Finish of the ticket's operation was added, where the clock shows now
abbrev pub HasFinished : Sitting → Sitting → Ticket → ℕ → ℕ → Type 0
HasFinished s t ticket now front =
    HasCalled s t (λ h added. added ≡ Finish ticket.op s.worker (moment_after h now) front ∷ [])

-- the worker's Halt was added
abbrev pub HasHalted : Sitting → Sitting → Type 0
HasHalted s t = HasCalled s t (λ h added. added ≡ Halt s.worker ∷ [])

-- nothing was added
abbrev pub HasLooked : Sitting → Sitting → Type 0
HasLooked s t = HasCalled s t (λ h added. added ≡ [])

-- the seat was told this completion time, in milliseconds, and is otherwise as before: no less than
-- what it was told before, nor than the completion time of what it has seen, and at most MAX_TIME
pub record HasLearned (s t : Sitting) (time : ℤ) : Type 0 where
  pub site : t.site ≡ s.site
  pub worker : t.worker ≡ s.worker
  pub seen : t.seen ≡ s.seen
  pub told : t.told ≡ time
  pub rises : s.told ≤ℤ time
  pub known : completion s.site.schedule s.seen ≤ℤ time
  pub bounded : time ≤ℤ pos MAX_TIME

-- one seat for each worker, in order, of whom none has seen anything
abbrev pub AreSeats : Site → List Sitting → Type 0
AreSeats z seats =
    (length seats ≡ z.workers)
    × ((k : ℕ) → k < z.workers → slice_get seats k ≡ Some (sitting z k [] (time_below 0)))

-- seats of this board, at least one of each worker
pub record AreAll (z : Site) (seats : List Sitting) : Type 0 where
  pub theirs : All (λ s. s.site ≡ z) seats
  pub each : (k : ℕ) → k < z.workers → Any (λ s. s.worker ≡ k) seats

-- what the seat has seen begins the history, which has no other events of its worker; and no
-- completion time that it was told passes that of the history
pub record IsPartOf (schedule : Schedule) (h : List Event) (s : Sitting) : Type 0 where
  pub seen : IsPrefix s.seen h
  pub mine : events_of s.worker h ≡ mine s
  pub told : s.told ≤ℤ completion schedule h

-- each event is of the worker of one of the seats
abbrev pub AreMadeBy : List Sitting → List Event → Type 0
AreMadeBy seats h = All (λ e. Any (λ s. is_by s.worker e ≡ true) seats) h

-- by what these seats know and by what `close` says, the board's history is the empty one
abbrev pub IsEmptyYet : Site → List Sitting → Type 0
IsEmptyYet z seats =
    (h : List Event) → All (IsPartOf z.schedule h) seats → AreMadeBy seats h → h ≡ []
