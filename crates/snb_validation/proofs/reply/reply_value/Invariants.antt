use Rattle.std.proofs.Common.{◌≡◌, map, take}
use Rattle.std.specs.List.{AllByRecursion}
use Rattle.snb_validation.specs.Laws.{IsOfType}
use Rattle.serde_json.specs.View.{view}
use Rattle.snb_validation.specs.ReplyData.{array_of, cell_data}
use Rattle.snb_validation.proofs.reply.reply_value.Given as goal

abbrev pub invariant-answers : goal.invariant-answers
invariant-answers l = record {
  values : map view l.values.items ≡ map (array_of (array_of cell_data)) (take l.answer-index l.answer-items);
  types : AllByRecursion (AllByRecursion (AllByRecursion IsOfType)) (take l.answer-index l.answer-items);
}
