-- The numbers so far are appended.
use Rattle.std.proofs.Common.{◌≡◌, ◌++◌, take}
use Rattle.snb_runlog.specs.Writing.{cells_text}
use Rattle.snb_runlog.proofs.write.put_numbers.Given as goal

abbrev pub invariant-loop-number : goal.invariant-loop-number
invariant-loop-number l = l.to.items ≡ l.fn.to.items ++ cells_text (take l.number-index l.numbers)
