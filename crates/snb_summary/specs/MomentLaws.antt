-- Laws of the moments of a history.
use Rattle.std.specs.Prelude.{◌≡◌, ℕ, ◌≤◌, List, ◌∷◌, ◌++◌, true}
use Rattle.snb_history.specs.declared.event.Event.{Event}
use Rattle.snb_history.specs.History.{finishes, moment, starts}
use Rattle.snb_history.specs.Rules.{IsComplete, IsLegal}
use Rattle.snb_history.specs.Schedule.{Schedule, IsOperation, step_of}
use Rattle.snb_summary.specs.Latencies.{OpMoments, moments_of, waits_for}

-- operation k starts when it is due or later, and when all that it waits for is finished, and it
-- finishes no earlier
pub record IsTimed (s : Schedule) (m : OpMoments) (k : ℕ) : Type 0 where
  pub due : (step_of s k).due ≤ m.start k
  pub follows : m.start k ≤ m.finish k
  pub cleared : (j : ℕ) → waits_for s k j ≡ true → m.finish j ≤ m.start k

-- so in a legal, complete history no latency, lateness or slack is cut at 0
abbrev pub NothingIsCut : Type 0
NothingIsCut =
    (s : Schedule) (workers : ℕ) (h : List Event) → IsLegal s workers h → IsComplete s h → (k : ℕ)
    → IsOperation s k → IsTimed s (moments_of h) k

-- the moments tell the event: where it is the Start or the Finish of an operation, they have its
-- `at`
pub record AreToldOf (e : Event) (m : OpMoments) : Type 0 where
  pub start : (k : ℕ) → starts k e ≡ true → m.start k ≡ moment e
  pub finish : (k : ℕ) → finishes k e ≡ true → m.finish k ≡ moment e

-- in a legal history they tell each event, and not the latest alone
abbrev pub EachIsTold : Type 0
EachIsTold =
    (s : Schedule) (workers : ℕ) (h : List Event) → IsLegal s workers h
    → (g : List Event) (e : Event) (rest : List Event) → g ++ e ∷ rest ≡ h
    → AreToldOf e (moments_of h)
