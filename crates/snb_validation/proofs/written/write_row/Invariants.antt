use Rattle.std.proofs.Common.{◌≡◌, ◌++◌, drop, take}
use Rattle.std.specs.List.{AllByRecursion}
use Rattle.snb_validation.specs.Laws.{IsOfType}
use Rattle.snb_validation.specs.ReplyData.{array_of, cell_data}
use Rattle.snb_validation.specs.Written.{data_tokens}
use Rattle.snb_validation.proofs.WrittenFacts.{rest_tokens}
use Rattle.snb_validation.proofs.written.write_row.Given as goal

abbrev pub invariant-cells : goal.invariant-cells
invariant-cells l = record {
  written : l.to.tokens ++ rest_tokens cell_data (drop l.cell-index l.cell-items) ≡ l.fn.to.tokens ++ data_tokens (array_of cell_data l.cell-items);
  before : l.to.before ≡ l.fn.to.before;
  types : AllByRecursion IsOfType (take l.cell-index l.cell-items);
}
