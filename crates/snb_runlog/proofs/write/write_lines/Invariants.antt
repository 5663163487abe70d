-- The lines so far are appended.
use Rattle.std.proofs.Common.{◌≡◌, ◌++◌, take}
use Rattle.snb_runlog.specs.Writing.{logged_text}
use Rattle.snb_runlog.proofs.write.write_lines.Given as goal

abbrev pub invariant-loop-one : goal.invariant-loop-one
invariant-loop-one l = l.to.items ≡ l.fn.to.items ++ logged_text (take l.one-index l.logged)
