use Rattle.std.proofs.Common.{◌∙◌, All, subst, sym}
use Rattle.std.proofs.lemmas.List.Elements.{All-head, All-tail}
use Rattle.snb_schema.specs.TableRows.{IsTableRow}
use Rattle.snb_graph_rows.specs.Rows.{entry_row, rows_by}
use Rattle.snb_graph_rows.proofs.rows.MappedRowsIterator.next.Goals.{in-Some, in-None}
use Rattle.snb_graph_rows.proofs.rows.MappedRowsIterator.next.Goals as goal

pub show-requires : goal.show-requires
show-requires g c =
    All-head IsTableRow _ _ (subst (λ es. All IsTableRow (rows_by (entry_row (g.K.Key.name g.V.Kept.table) g.V.Kept.as_row) es)) c.in-Some.ensures.steps c.self.invariant)

pub invariant_of-self : goal.invariant_of-self
invariant_of-self g c = elim c.match-next.branch [
  | in-Some w ↦ All-tail IsTableRow _ _ (subst (λ es. All IsTableRow (rows_by (entry_row (g.K.Key.name g.V.Kept.table) g.V.Kept.as_row) es)) w.in-Some.ensures.steps c.self.invariant)
  | in-None w ↦ subst (λ es. All IsTableRow (rows_by (entry_row (g.K.Key.name g.V.Kept.table) g.V.Kept.as_row) es)) (w.in-None.ensures.steps.0 ∙ sym w.in-None.ensures.steps.1) c.self.invariant
]
