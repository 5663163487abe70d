use Rattle.std.proofs.Common.{◌≡◌, ◌++◌}
use Rattle.snb_complex_persons.proofs.namesakes.sorted.Given as goal

abbrev pub invariant-loop-text : goal.invariant-loop-text
invariant-loop-text l = l.lent.items ++ l.text-iterator ≡ l.fn.texts
