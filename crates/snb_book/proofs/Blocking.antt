-- Where no head that is due may start, the completion time is below what each needs that isn't busy.
use Rattle.std.proofs.Common.{ℕ, ◌+◌, ◌≤◌, List, inl, inr, arith, length}
use Rattle.std.specs.Prelude.{pos, ◌<ℤ◌, ◌≤ℤ◌, ◌-ℤ◌}
use Rattle.std.proofs.lemmas.Bool.{cases_lt}
use Rattle.std.proofs.lemmas.Int.{ints}
use Rattle.snb_history.specs.declared.event.Event.{Event}
use Rattle.snb_schema.specs.declared.limits.TheConstants.{MAX_TIME}
use Rattle.snb_history.specs.Schedule.{Schedule, step_of}
use Rattle.snb_history.specs.Completion.{completion, is_awaited, least_of, least_t}
use Rattle.snb_history.specs.Rules.{LaneIsFinished}
use Rattle.snb_book.specs.Claims.{IsAdmitted, IsDueHead}
use Rattle.snb_history.proofs.Laws.{completion_decides, least_of-top}

not_at_most : (c l : ℕ) → (pos c ≤ℤ (pos l -ℤ pos 1) → ⊥) → (pos l -ℤ pos 1) <ℤ pos c
not_at_most c l no_more = elim (cases_lt c l) [ inl below ↦ absurd (no_more (omega (arith, ints))) | inr above ↦ omega (arith, ints) ]

pub blocked_below : (s : Schedule) (h : List Event) (at op : ℕ) → ((j : ℕ) → IsDueHead s h at j → ¬ IsAdmitted s h j) → IsDueHead s h at op → LaneIsFinished s h op
    → completion s h <ℤ pos (step_of s op).t_d
blocked_below s h at op none due free =
    elim (cases_lt MAX_TIME (step_of s op).t_d) [
      | inl beyond ↦ let top = least_of-top (λ k. (step_of s k).t) (MAX_TIME + 1) (is_awaited s h) (length s.steps) in omega (arith, ints)
      | inr within ↦ not_at_most (step_of s op).t_d (least_t s (is_awaited s h)) (λ reached. none op due (free, (completion_decides s h op within).1 (λ dependent. reached)))
    ]
