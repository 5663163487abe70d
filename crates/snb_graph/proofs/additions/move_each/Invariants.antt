use Rattle.std.proofs.Common.{◌≡◌, length}
use Rattle.snb_graph.specs.Additions.{HasTaken, IsKept, Lead}
use Rattle.snb_graph.proofs.additions.move_each.Given as goal

abbrev pub invariant-loop-row : goal.invariant-loop-row
invariant-loop-row l = record {
  lead : Lead l.initial.tables.rows l.added.items l.tables.rows;
  taken : HasTaken l.initial.tables.rows l.yielded l.tables.rows;
  frozen : l.tables.frozen ≡ l.initial.tables.frozen;
  noted : length l.added.items ≡ length l.yielded;
  kept : IsKept l.tables l.links;
}
