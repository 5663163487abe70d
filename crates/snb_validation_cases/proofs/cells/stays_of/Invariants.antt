use Rattle.std.proofs.Common.{map, take}
use Rattle.std.specs.List.{AllZip}
use Rattle.serde_json.specs.View.{view}
use Rattle.snb_validation_cases.specs.Replies.{IsStayData}
use Rattle.snb_validation_cases.proofs.cells.stays_of.Given as goal

abbrev pub invariant-items : goal.invariant-items
invariant-items l = AllZip IsStayData (map view (take l.item-index l.items)) l.stays.items
