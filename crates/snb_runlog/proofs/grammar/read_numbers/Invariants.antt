-- The numbers so far are those of the columns so far, and there is room for five.
use Rattle.std.proofs.Common.{◌≡◌, take, drop, length}
use Rattle.snb_runlog.specs.Lines.{AreNumbers}
use Rattle.snb_runlog.proofs.grammar.read_numbers.Given as goal

abbrev pub invariant-loop-i : goal.invariant-loop-i
invariant-loop-i l = record {
  room : length l.numbers ≡ 5;
  read : AreNumbers (take l.i l.columns) (take l.i (drop l.before l.fields)) (take l.i l.numbers);
}
