-- What a book is seen as, and what it does to it.
use Rattle.std.specs.Prelude.{◌≡◌, ℕ, max, min, ◌<◌, ◌^◌, ◌++◌, List, length, All, true, Some, slice_get}
use Rattle.snb_history.specs.declared.event.Event.{Event}
use Rattle.snb_history.specs.declared.event.Event.TheVariants.{Start}
use Rattle.snb_schema.specs.declared.limits.TheConstants.{MAX_AT}
use Rattle.snb_history.specs.Schedule.{Schedule}
use Rattle.snb_history.specs.History.{is_by, hand, last}
use Rattle.snb_history.specs.Rules.{IsLegal}
use Rattle.snb_book.specs.declared.claim.Ticket.{Ticket}

-- a schedule, the count of workers, and what has happened
pub record Kept : Type 0 where
  pub schedule : Schedule
  pub workers : ℕ
  pub history : List Event

-- the moment of the next event where the clock shows now: no earlier than the last, and no later
-- than the greatest
abbrev pub moment_after : List Event → ℕ → ℕ
moment_after h now = max (last h) (min now MAX_AT)

-- the ticket's operation is in its worker's hand since that Start
pub record IsInHand (h : List Event) (ticket : Ticket) : Type 0 where
  pub held : hand h ticket.worker ≡ Some ticket.op
  pub since : (at : ℕ) × (slice_get h ticket.start ≡ Some (Start ticket.op ticket.worker at))

-- the new book is the old one with more events, all of them this worker's, and its history is legal
-- and shorter than 2 ^ 32
pub record IsAdding (worker : ℕ) (old new : Kept) : Type 0 where
  pub schedule : new.schedule ≡ old.schedule
  pub workers : new.workers ≡ old.workers
  pub more : List Event
  pub history : new.history ≡ old.history ++ more
  pub theirs : All (λ e. is_by worker e ≡ true) more
  pub legal : IsLegal new.schedule new.workers new.history
  pub short : length new.history < 2 ^ 32
