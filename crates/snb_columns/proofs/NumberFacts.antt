-- What is so of numbers as fields spell them.
use Rattle.std.proofs.Common.{◌≢◌, ℕ, List, subst, arith}
use Rattle.std.specs.List.{AllByRecursion}
use Rattle.snb_base.specs.Calendar.{IsDigit}
use Rattle.snb_base.specs.Spellings.{Num}
use Rattle.snb_schema.specs.Columns.{no_id}

-- a number isn't `-1`, which stands for no id
pub number_some : (x : List ℕ) (n most : ℕ) → Num x n most → x ≢ no_id
number_some x n most s e = (let digits : AllByRecursion IsDigit no_id = subst (AllByRecursion IsDigit) e s.digits in let low = digits.0 in absurd (omega arith))
