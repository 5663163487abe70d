use Rattle.std.proofs.Common.{List, MatchOption, map, subst}
use Rattle.std.specs.Prelude.{IfOk}
use Rattle.serde_json.specs.View.{view}
use Rattle.snb_read_model.specs.Cells.{ByteCell}
use Rattle.snb_schema.specs.declared.query.CellKind.{CellKind}
use Rattle.snb_validation_cases.specs.Replies.{IsCellIn}
use Rattle.snb_validation_cases.specs.Values.{AreAlong}
use Rattle.snb_validation_cases.proofs.replies.row_of.Goals as goal

pub returns : goal.returns
returns c =
    subst
    (λ (columns : List CellKind). IfOk c.cells_of.result
    (λ found. MatchOption found
    ((row : List ByteCell) → ¬ AreAlong IsCellIn columns (map view c.args.items.now) row)
    (AreAlong IsCellIn columns (map view c.args.items.now))))
    c.layout_of_query.ensures.cells c.cells_of.ensures
