-- Laws of graphs.
use Rattle.std.specs.Prelude.{◌≡◌, ◌≢◌, ◌↔◌, List, All, AllPairs, Contains}
use Rattle.snb_schema.specs.declared.row.Row.{Row}
use Rattle.snb_schema.specs.RowKeys.{slot_of}
use Rattle.snb_schema.specs.TableRows.{IsTableRow}
use Rattle.snb_graph_model.specs.Graphs.{HasGained, HasSlot, IsGraph}

-- two graphs that hold the same rows are one
abbrev pub GraphsAreTheirRows : Type 0
GraphsAreTheirRows =
    (g h : List Row) → IsGraph g → IsGraph h → ((r : Row) → Contains g r ↔ Contains h r) → g ≡ h

-- a graph can gain rows that tables can have, where none fills a slot of the graph and no two fill
-- one
abbrev pub NewRowsAreGained : Type 0
NewRowsAreGained =
    (old more : List Row) → IsGraph old → All IsTableRow more
    → All (λ r. ¬ HasSlot old (slot_of r)) more
    → AllPairs (λ r s. slot_of r ≢ slot_of s) more → (new : List Row) × HasGained old more new
