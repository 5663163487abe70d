-- The law of the completion time.
use Rattle.std.specs.Prelude.{◌≡◌, ℕ, ◌≤◌, ◌↔◌, pos, ◌≤ℤ◌, true}
use Rattle.snb_schema.specs.declared.limits.TheConstants.{MAX_TIME}
use Rattle.snb_history.specs.Schedule.{step_of, is_dependency}
use Rattle.snb_history.specs.Completion.{time_left}
use Rattle.snb_completion.specs.Progress.{Progress, flag}

-- all dependencies of a dependent, those whose t is at most its t_d, are finished exactly where its
-- t_d is at most the completion time
abbrev pub TimesDecide : Type 0
TimesDecide =
    (p : Progress) (op : ℕ) → (step_of p.schedule op).dependent ≡ true
    → (step_of p.schedule op).t_d ≤ MAX_TIME →
    ((k : ℕ) → is_dependency p.schedule k ≡ true
    → (step_of p.schedule k).t ≤ (step_of p.schedule op).t_d → flag p.finished k ≡ true)
    ↔ (pos (step_of p.schedule op).t_d ≤ℤ time_left p.schedule (flag p.finished))
