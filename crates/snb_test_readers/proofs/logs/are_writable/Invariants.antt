-- All so far may stand in a log of version 2.
use Rattle.std.proofs.Common.{◌≤◌, All, take}
use Rattle.snb_history.specs.History.{moment}
use Rattle.snb_history.specs.declared.logged.Logged.{Logged}
use Rattle.snb_schema.specs.declared.limits.TheConstants.{MAX_AT}
use Rattle.snb_runlog.specs.declared.columns.TheConstants.{LAST_VERSION}
use Rattle.snb_runlog.specs.Columns.{HasCount}
use Rattle.snb_test_readers.proofs.logs.are_writable.Given as goal

abbrev pub invariant-loop-i : goal.invariant-loop-i
invariant-loop-i l =
    All (λ (one : Logged). moment one.event ≤ MAX_AT) (take l.i l.logged)
    × All (HasCount LAST_VERSION) (take l.i l.logged)
