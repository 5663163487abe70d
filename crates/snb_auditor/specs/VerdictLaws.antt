-- Laws of verdicts.
use Rattle.std.specs.Prelude.{◌≡◌, ℕ, ◌≤◌, ◌↔◌, List, All}
use Rattle.snb_history.specs.declared.event.Event.{Event}
use Rattle.snb_schema.specs.declared.limits.TheConstants.{MAX_AT}
use Rattle.snb_history.specs.Schedule.{Schedule}
use Rattle.snb_history.specs.History.{moment}
use Rattle.snb_history.specs.Rules.{IsLegal, IsComplete}
use Rattle.snb_auditor.specs.declared.verdict.Verdict.{Verdict}
use Rattle.snb_auditor.specs.declared.verdict.Verdict.TheVariants.{Accepted}
use Rattle.snb_auditor.specs.Verdicts.{IsVerdict, IsTimelyRun}

-- the verdict on a history is one
abbrev pub VerdictIsOne : Type 0
VerdictIsOne =
    (s : Schedule) (workers : ℕ) (h : List Event) (one other : Verdict) → IsVerdict s workers h one
    → IsVerdict s workers h other → one ≡ other

-- a history is accepted exactly where it is legal and complete and at least 95 of 100 operations
-- start in time
abbrev pub AcceptedExactly : Type 0
AcceptedExactly =
    (s : Schedule) (workers : ℕ) (h : List Event) →
    ((these : ℕ) × (all : ℕ) × IsVerdict s workers h (Accepted these all))
    ↔ (IsLegal s workers h × IsComplete s h × IsTimelyRun s h)

-- every history whose moments aren't too great has a verdict
abbrev pub VerdictExists : Type 0
VerdictExists =
    (s : Schedule) (workers : ℕ) (h : List Event) → All (λ e. moment e ≤ MAX_AT) h
    → (verdict : Verdict) × IsVerdict s workers h verdict
