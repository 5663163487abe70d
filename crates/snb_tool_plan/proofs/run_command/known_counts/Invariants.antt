use Rattle.std.proofs.Common.{All, ◌≤◌, take}
use Rattle.snb_runlog.specs.declared.columns.TheConstants.{MAX_NUMBER}
use Rattle.snb_tool_plan.proofs.run_command.known_counts.Given as goal

-- none of the counts so far is too great
abbrev pub invariant-loop-one : goal.invariant-loop-one
invariant-loop-one l = All (λ a. a.rows ≤ MAX_NUMBER) (take l.one-index l.replies)
