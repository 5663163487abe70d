-- Laws of claims.
use Rattle.std.specs.Prelude.{◌≡◌, ℕ, ◌<◌, ◌≤◌, ◌⊎◌, ℤ, pos, ◌<ℤ◌, List, false, None}
use Rattle.snb_history.specs.declared.event.Event.{Event}
use Rattle.snb_history.specs.declared.event.Event.TheVariants.{Start}
use Rattle.snb_history.specs.Schedule.{Schedule, IsOperation, IsTimely}
use Rattle.snb_history.specs.History.{started, halted, hand, last}
use Rattle.snb_history.specs.Rules.{Fits, IsLegal}
use Rattle.snb_book.specs.declared.claim.Ticket.{Ticket}
use Rattle.snb_book.specs.declared.claim.Claim.{Claim}
use Rattle.snb_book.specs.declared.claim.Claim.TheVariants.{NotDue, Go, Blocked}
use Rattle.snb_book.specs.Claims.{IsDueHead, IsClaim}

-- the Start that a Go stands for fits
abbrev pub ClaimFits : Type 0
ClaimFits =
    (s : Schedule) (workers : ℕ) (h : List Event) (worker at : ℕ) (ticket : Ticket)
    → worker < workers → last h ≤ at →
    IsClaim s h worker at (Go ticket) → Fits s workers h (Start ticket.op worker at)

-- where an operation is Blocked, the completion time is below what it needs
abbrev pub ClaimIsBlocked : Type 0
ClaimIsBlocked =
    (s : Schedule) (h : List Event) (worker at op needs : ℕ) (time : ℤ)
    → IsClaim s h worker at (Blocked op needs time) → time <ℤ pos needs

-- where nobody has an operation in hand, nobody has halted and not all is started, a claim answers
-- Go, or NotDue where no head is due
abbrev pub ClaimIsNotStuck : Type 0
ClaimIsNotStuck =
    (s : Schedule) (workers : ℕ) (h : List Event) (worker at : ℕ) (claim : Claim) →
    IsTimely s → IsLegal s workers h → worker < workers → last h ≤ at →
    ((w : ℕ) → hand h w ≡ None) → ((w : ℕ) → halted h w ≡ false) → (k : ℕ) → IsOperation s k
    → started h k ≡ false →
    IsClaim s h worker at claim →
    ((ticket : Ticket) × (claim ≡ Go ticket))
    ⊎ ((until : ℕ) × (claim ≡ NotDue until) × ((j : ℕ) → ¬ IsDueHead s h at j))

-- at one schedule, legal history, worker and moment two answers are equal
abbrev pub ClaimIsOne : Type 0
ClaimIsOne =
    (s : Schedule) (workers : ℕ) (h : List Event) (worker at : ℕ) (one other : Claim)
    → IsLegal s workers h →
    IsClaim s h worker at one → IsClaim s h worker at other → one ≡ other

-- at every schedule, legal history, worker and moment there is an answer
abbrev pub ClaimExists : Type 0
ClaimExists =
    (s : Schedule) (workers : ℕ) (h : List Event) (worker at : ℕ) → IsLegal s workers h
    → (claim : Claim) × IsClaim s h worker at claim
