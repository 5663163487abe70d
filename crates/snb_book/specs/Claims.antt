-- What a claim by a worker answers, at a moment.
use Rattle.std.specs.Prelude.{◌≡◌, ℕ, ◌<◌, ◌≤◌, ◌⊎◌, pos, ◌<ℤ◌, List, length, true, false, Some, None}
use Rattle.snb_history.specs.declared.event.Event.{Event}
use Rattle.snb_history.specs.Schedule.{Schedule, step_of, IsOperation, IsBefore}
use Rattle.snb_history.specs.History.{started, finished, halted, hand, holder}
use Rattle.snb_history.specs.Completion.{completion}
use Rattle.snb_history.specs.Rules.{LeadsLane, LaneIsFinished, IsCleared}
use Rattle.snb_book.specs.declared.claim.Ticket.{Ticket}
use Rattle.snb_book.specs.declared.claim.Claim.{Claim}
use Rattle.snb_book.specs.declared.claim.Claim.TheVariants.{Halted, AllStarted, Busy, NotDue, Go, Blocked}

-- the first unstarted operation of a lane
abbrev pub IsPlanHead : Schedule → List Event → ℕ → Type 0
IsPlanHead s h op = IsOperation s op × LeadsLane s h op

-- a head that is due
abbrev pub IsDueHead : Schedule → List Event → ℕ → ℕ → Type 0
IsDueHead s h at op = IsOperation s op × LeadsLane s h op × ((step_of s op).due ≤ at)

-- a head that V3 and V5 let start
abbrev pub IsAdmitted : Schedule → List Event → ℕ → Type 0
IsAdmitted s h op = LaneIsFinished s h op × IsCleared s h op

-- j comes no earlier: by due time, then by lane
abbrev pub ComesFirst : Schedule → ℕ → ℕ → Type 0
ComesFirst s op j =
    ((step_of s op).due < (step_of s j).due)
    ⊎ (((step_of s op).due ≡ (step_of s j).due) × ((step_of s op).lane ≤ (step_of s j).lane))

-- of those with the property, the one of least due time, lowest lane first
abbrev pub IsFirst : Schedule → (ℕ → Type 0) → ℕ → Type 0
IsFirst s P op = P op × ((j : ℕ) → P j → ComesFirst s op j)

-- nobody has halted, not all is started, and the worker has nothing in hand
pub record IsUnderWay (s : Schedule) (h : List Event) (worker : ℕ) : Type 0 where
  pub running : (w : ℕ) → halted h w ≡ false
  pub left : (k : ℕ) × IsOperation s k × (started h k ≡ false)
  pub free : hand h worker ≡ None

-- the worker itself has the operation in hand
pub record IsOwnBusy (s : Schedule) (h : List Event) (worker op holder : ℕ) : Type 0 where
  pub running : (w : ℕ) → halted h w ≡ false
  pub left : (k : ℕ) × IsOperation s k × (started h k ≡ false)
  pub held : hand h worker ≡ Some op
  pub own : holder ≡ worker

-- the worker has in hand an unfinished one before the operation in its lane
abbrev pub HoldsBefore : Schedule → List Event → ℕ → ℕ → Type 0
HoldsBefore s h op by_whom =
    (j : ℕ) × IsBefore s j op × (finished h j ≡ false) × (holder h j ≡ Some by_whom)

-- each due head waits for one before it in its lane, and this holder has that of the first in hand
pub record IsLaneBusy (s : Schedule) (h : List Event) (worker at op by_whom : ℕ) : Type 0 where
  pub under_way : IsUnderWay s h worker
  pub all_busy : (j : ℕ) → IsDueHead s h at j → ¬ LaneIsFinished s h j
  pub first : IsFirst s (IsDueHead s h at) op
  pub held : HoldsBefore s h op by_whom

-- the answer to a claim by the worker at this moment, the first of these that applies: somebody has
-- halted; all is started; the worker has an operation in hand; no head of a lane is due; the first
-- head that is due and admitted; the first due head that isn't busy, which is blocked; all due
-- heads are busy
abbrev pub IsClaim : Schedule → List Event → ℕ → ℕ → Claim → Type 0
IsClaim s h worker at Halted = (w : ℕ) × (halted h w ≡ true)
IsClaim s h worker at AllStarted =
    ((w : ℕ) → halted h w ≡ false) × ((k : ℕ) → IsOperation s k → started h k ≡ true)
IsClaim s h worker at (Busy op by_whom) =
    IsOwnBusy s h worker op by_whom ⊎ IsLaneBusy s h worker at op by_whom
IsClaim s h worker at (NotDue until) =
    IsUnderWay s h worker
    × ((j : ℕ) → IsPlanHead s h j → at < (step_of s j).due)
    × ((op : ℕ) × IsPlanHead s h op × (until ≡ (step_of s op).due)
    × ((j : ℕ) → IsPlanHead s h j → until ≤ (step_of s j).due))
IsClaim s h worker at (Go ticket) =
    IsUnderWay s h worker
    × IsFirst s (λ j. IsDueHead s h at j × IsAdmitted s h j) ticket.op
    × (ticket.worker ≡ worker)
    × (ticket.start ≡ length h)
IsClaim s h worker at (Blocked op needs time) =
    IsUnderWay s h worker
    × ((j : ℕ) → IsDueHead s h at j → ¬ IsAdmitted s h j)
    × IsFirst s (λ j. IsDueHead s h at j × LaneIsFinished s h j) op
    × (needs ≡ (step_of s op).t_d)
    × (time ≡ completion s h)
    × (time <ℤ pos needs)

-- each dependent needs only what lies before it
abbrev pub NeedsEarlier : Schedule → Type 0
NeedsEarlier s = (k : ℕ) → (step_of s k).dependent ≡ true → (step_of s k).t_d < (step_of s k).t

-- nobody has an operation in hand, nobody has halted, and not all is started
pub record IsIdle (s : Schedule) (h : List Event) : Type 0 where
  pub empty : (w : ℕ) → hand h w ≡ None
  pub running : (w : ℕ) → halted h w ≡ false
  pub left : (k : ℕ) × IsOperation s k × (started h k ≡ false)

-- the answer is a Go or a NotDue, and it is a Go where some head is due
pub record MovesOn (s : Schedule) (h : List Event) (at : ℕ) (claim : Claim) : Type 0 where
  pub moves : ((ticket : Ticket) × (claim ≡ Go ticket)) ⊎ ((until : ℕ) × (claim ≡ NotDue until))
  pub starts : (j : ℕ) → IsDueHead s h at j → (ticket : Ticket) × (claim ≡ Go ticket)

-- P of the ticket of a Go
abbrev pub IfGo : Claim → (Ticket → Type 0) → Type 0
IfGo (Go ticket) P = P ticket
IfGo Halted P = Unit {0}
IfGo AllStarted P = Unit {0}
IfGo (Busy op by_whom) P = Unit {0}
IfGo (NotDue until) P = Unit {0}
IfGo (Blocked op needs time) P = Unit {0}

-- P where the answer is no Go
abbrev pub IfNotGo : Claim → Type 0 → Type 0
IfNotGo (Go ticket) P = Unit {0}
IfNotGo Halted P = P
IfNotGo AllStarted P = P
IfNotGo (Busy op by_whom) P = P
IfNotGo (NotDue until) P = P
IfNotGo (Blocked op needs time) P = P
