-- What an auditor is seen as, and what a step does to it.
use Rattle.std.specs.Prelude.{◌≡◌, ℕ, ◌⊎◌, List, ◌∷◌, ◌++◌, Option, Some, None}
use Rattle.snb_history.specs.declared.event.Event.{Event}
use Rattle.snb_history.specs.Schedule.{Schedule}
use Rattle.snb_auditor.specs.declared.verdict.Violation.{Violation}
use Rattle.snb_auditor.specs.Verdicts.{IsViolation}

-- a schedule, the count of workers, the events that fit, and the violation that is kept, if any
pub record Audit : Type 0 where
  pub schedule : Schedule
  pub workers : ℕ
  pub fitted : List Event
  pub kept : Option Violation

-- the history is what has been told: the events that fit; and where a violation is kept the event
-- that it is of, and any after it
abbrev pub IsTold : Schedule → ℕ → List Event → Option Violation → List Event → Type 0
IsTold s workers fitted None h = fitted ≡ h
IsTold s workers fitted (Some v) h =
    (e : Event) × (rest : List Event) × (fitted ++ e ∷ rest ≡ h) × IsViolation s workers fitted e v

-- the history is what the auditor has been told
abbrev pub HasHeard : Audit → List Event → Type 0
HasHeard a h = IsTold a.schedule a.workers a.fitted a.kept h

-- a violation was kept, which is given again, and all is as before; or the event doesn't fit, and
-- its violation is kept from now on
abbrev pub IsRefused : Audit → Event → Violation → Audit → Type 0
IsRefused old e v new =
    ((old.kept ≡ Some v) × (new ≡ old))
    ⊎ ((old.kept ≡ None) × IsViolation old.schedule old.workers old.fitted e v
    × (new ≡ record old { kept = Some v }))
