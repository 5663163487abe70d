use Rattle.std.proofs.Common.{length, List}
use Rattle.snb_schema.specs.declared.row.Row.{Row}
use Rattle.snb_graph_model.specs.Graphs.{IsGraph}
use Rattle.snb_graph.specs.Additions.{HoldsAll, IsKept, Lead}
use Rattle.snb_graph.proofs.additions.take_all.Given as goal

abbrev pub invariant-loop-noted : goal.invariant-loop-noted
invariant-loop-noted l = record {
  some : (old : List Row) × IsGraph old × Lead old l.left.items l.tables.rows × HoldsAll old l.tables.frozen;
  all : (old : List Row) → IsGraph old → Lead old l.fn.added.items l.initial.tables.rows → Lead old l.left.items l.tables.rows;
  kept : IsKept l.tables l.links;
}

abbrev pub decreases-loop-noted : goal.decreases-loop-noted
decreases-loop-noted l = length l.left.items
