use Rattle.std.proofs.Common.{◌≡◌, map, take}
use Rattle.std.specs.List.{AllByRecursion}
use Rattle.snb_validation.specs.Laws.{IsOfType}
use Rattle.serde_json.specs.View.{view}
use Rattle.snb_validation.specs.ReplyData.{array_of, cell_data}
use Rattle.snb_validation.proofs.reply.answer_value.Given as goal

abbrev pub invariant-rows : goal.invariant-rows
invariant-rows l = record {
  values : map view l.values.items ≡ map (array_of cell_data) (take l.row-index l.row-items);
  types : AllByRecursion (AllByRecursion IsOfType) (take l.row-index l.row-items);
}
