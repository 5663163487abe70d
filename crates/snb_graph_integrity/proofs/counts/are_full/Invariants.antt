use Rattle.std.proofs.Common.{◌≡◌, take}
use Rattle.std.specs.List.{All}
use Rattle.snb_schema.specs.TableOrder.{all_tables}
use Rattle.snb_graph_integrity.specs.Counts.{IsFull}
use Rattle.snb_graph_integrity.proofs.counts.are_full.Given as goal

-- each table that was looked at is full
abbrev pub invariant-loop-node : goal.invariant-loop-node
invariant-loop-node l = record {
  are : l.node-items ≡ all_tables;
  full : All (IsFull l.tables.rows) (take l.node-index l.node-items);
}
