-- The verdict on a history.
use Rattle.std.specs.Prelude.{◌≡◌, ℕ, ◌+◌, ◌*◌, ◌<◌, ◌≤◌, nat_le, List, ◌∷◌, ◌++◌, length, count_by, Bool, false}
use Rattle.snb_history.specs.declared.event.Event.{Event}
use Rattle.snb_history.specs.declared.event.Event.TheVariants.{Start, Finish, Halt}
use Rattle.snb_history.specs.Schedule.{Schedule, step_of}
use Rattle.snb_history.specs.History.{halted}
use Rattle.snb_history.specs.Rules.{Rule, rule_number, IsLegal, IsComplete}
use Rattle.snb_history.specs.Violation.{Breaks}
use Rattle.snb_book.specs.Asked.{IsFirstUnfinished}
use Rattle.snb_auditor.specs.declared.verdict.Violation.{Violation}
use Rattle.snb_auditor.specs.declared.verdict.Verdict.{Verdict}
use Rattle.snb_auditor.specs.declared.verdict.Verdict.TheVariants.{Violated, Halted, Incomplete, TooLate, Accepted}

-- the event, which comes after the history, breaks this rule first, and these are its values
pub record IsViolation (s : Schedule) (workers : ℕ) (h : List Event) (e : Event) (v : Violation)
    : Type 0 where
  pub place : v.event ≡ length h
  pub first : Rule
  pub numbered : v.rule ≡ rule_number first
  pub breaks : Breaks s workers h e first (record { needs = v.needs; found = v.found })

-- the most milliseconds that a Start may come after its operation is due, by the on-time rule of
-- the benchmark's specification
abbrev pub grace : ℕ
grace = 1000

-- a Start that comes in time
abbrev pub is_on_time : Schedule → Event → Bool
is_on_time s (Start op worker at) = nat_le at ((step_of s op).due + grace)
is_on_time s (Finish op worker at front) = false
is_on_time s (Halt worker) = false

-- how many operations start in time: in a legal history each has one Start at most
abbrev pub on_time : Schedule → List Event → ℕ
on_time s h = count_by (is_on_time s) h

-- fewer than 95 of 100 operations start in time
abbrev pub IsTooLateRun : Schedule → List Event → Type 0
IsTooLateRun s h = 100 * on_time s h < 95 * length s.steps

-- at least 95 of 100 operations start in time
abbrev pub IsTimelyRun : Schedule → List Event → Type 0
IsTimelyRun s h = 95 * length s.steps ≤ 100 * on_time s h

-- nobody has halted
abbrev pub NobodyHalted : List Event → Type 0
NobodyHalted h = (w : ℕ) → halted h w ≡ false

-- the worker is that of the first Halt
abbrev pub IsFirstHalt : List Event → ℕ → Type 0
IsFirstHalt h worker =
    (g : List Event) × (rest : List Event) × (g ++ Halt worker ∷ rest ≡ h) × NobodyHalted g

-- the verdict on a history: the first event that doesn't fit those before it; else the first Halt;
-- else the least unfinished operation; else, of all operations, how many start in time, too few or
-- enough
abbrev pub IsVerdict : Schedule → ℕ → List Event → Verdict → Type 0
IsVerdict s workers h (Violated v) =
    (g : List Event) × (e : Event) × (rest : List Event) × (g ++ e ∷ rest ≡ h) × IsLegal s workers g
    × IsViolation s workers g e v
IsVerdict s workers h (Halted worker) = IsLegal s workers h × IsFirstHalt h worker
IsVerdict s workers h (Incomplete op) =
    IsLegal s workers h × NobodyHalted h × IsFirstUnfinished s h op
IsVerdict s workers h (TooLate these all) =
    IsLegal s workers h × IsComplete s h × (these ≡ on_time s h) × (all ≡ length s.steps)
    × IsTooLateRun s h
IsVerdict s workers h (Accepted these all) =
    IsLegal s workers h × IsComplete s h × (these ≡ on_time s h) × (all ≡ length s.steps)
    × IsTimelyRun s h
