use Rattle.std.proofs.Common.{◌≡◌, ◌<◌, ℕ, true}
use Rattle.std.specs.Prelude.{slice_index_or}
use Rattle.snb_history.specs.Schedule.{no_step}
use Rattle.snb_completion.specs.Progress.{flag}
use Rattle.snb_test_book.proofs.times.is_led.Given as goal

-- the lane's steps below this number are started
abbrev pub invariant-loop-before : goal.invariant-loop-before
invariant-loop-before l = (j : ℕ) → j < l.before → (slice_index_or l.steps j no_step).lane ≡ l.lane → flag l.started j ≡ true
