use Rattle.std.proofs.Common.{◌≡◌, ◌++◌, drop, take}
use Rattle.std.specs.List.{AllByRecursion}
use Rattle.snb_validation.specs.Laws.{IsOfType}
use Rattle.snb_validation.specs.ReplyData.{array_of, cell_data}
use Rattle.snb_validation.specs.Written.{data_tokens}
use Rattle.snb_validation.proofs.WrittenFacts.{rest_tokens}
use Rattle.snb_validation.proofs.written.write_answer.Given as goal

abbrev pub invariant-rows : goal.invariant-rows
invariant-rows l = record {
  written : l.to.tokens ++ rest_tokens (array_of cell_data) (drop l.row-index l.row-items) ≡ l.fn.to.tokens ++ data_tokens (array_of (array_of cell_data) l.row-items);
  before : l.to.before ≡ l.fn.to.before;
  types : AllByRecursion (AllByRecursion IsOfType) (take l.row-index l.row-items);
}
