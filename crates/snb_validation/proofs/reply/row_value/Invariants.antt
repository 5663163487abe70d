use Rattle.std.proofs.Common.{◌≡◌, map, take}
use Rattle.std.specs.List.{AllByRecursion}
use Rattle.snb_validation.specs.Laws.{IsOfType}
use Rattle.serde_json.specs.View.{view}
use Rattle.snb_validation.specs.ReplyData.{cell_data}
use Rattle.snb_validation.proofs.reply.row_value.Given as goal

abbrev pub invariant-cells : goal.invariant-cells
invariant-cells l = record {
  values : map view l.values.items ≡ map cell_data (take l.cell-index l.cell-items);
  types : AllByRecursion IsOfType (take l.cell-index l.cell-items);
}
