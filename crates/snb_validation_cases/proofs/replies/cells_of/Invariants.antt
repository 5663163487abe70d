use Rattle.std.proofs.Common.{map, take}
use Rattle.serde_json.specs.View.{view}
use Rattle.snb_validation_cases.specs.Replies.{IsCellIn}
use Rattle.snb_validation_cases.specs.Values.{AreAlong}
use Rattle.snb_validation_cases.proofs.replies.cells_of.Given as goal

abbrev pub invariant-loop-i : goal.invariant-loop-i
invariant-loop-i l = AreAlong IsCellIn (take l.i l.columns) (map view (take l.i l.items)) l.cells.items
