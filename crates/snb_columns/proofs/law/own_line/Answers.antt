use Rattle.std.proofs.Common.{arith, inr}
use Rattle.snb_base.specs.Spellings.{last_time}
use Rattle.snb_columns.proofs.LineFacts.{own_line}
use Rattle.snb_columns.proofs.law.own_line.Goals as goal

pub returns : goal.returns
returns c = own_line (record {
  read = c.one_spelling.ensures.read;
  only = c.one_spelling.ensures.only;
  date = λ n small. (small, inr (c.one_spelling.ensures.read n last_time small (omega arith)));
  day = λ n small. (small, inr (c.one_spelling.ensures.read n last_time small (omega arith)));
})
