use Rattle.snb_base.proofs.Digits.{number_spelled, decimal-Num}
use Rattle.snb_base.proofs.number.one_spelling.Goals as goal

pub returns-clause-read : goal.returns-clause-read
returns-clause-read c = number_spelled

pub returns-clause-only : goal.returns-clause-only
returns-clause-only c = decimal-Num
