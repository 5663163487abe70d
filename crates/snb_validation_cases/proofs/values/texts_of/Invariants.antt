use Rattle.std.proofs.Common.{map, take}
use Rattle.std.specs.List.{AllZip}
use Rattle.serde_json.specs.View.{view}
use Rattle.snb_validation_cases.specs.Values.{IsString}
use Rattle.snb_validation_cases.proofs.values.texts_of.Given as goal

abbrev pub invariant-items : goal.invariant-items
invariant-items l = AllZip IsString (map view (take l.item-index l.items)) l.texts.items
