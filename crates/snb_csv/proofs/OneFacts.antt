-- Fields spell one row at most, or have one bad column.
use Rattle.std.proofs.Common.{◌≡◌, ◌∙◌, ◌+◌, ℕ, Bool, List, length, take, sym, ap, subst, inl, inr}
use Rattle.snb_schema.specs.declared.row.Row.{Row}
use Rattle.snb_schema.specs.declared.table.Table.{Table}
use Rattle.snb_schema.specs.Columns.{SpellsAll}
use Rattle.snb_schema.specs.Layouts.{has_no_direction}
use Rattle.snb_schema.specs.TableColumns.{columns}
use Rattle.snb_schema.specs.RowLines.{SpellsRow}
use Rattle.snb_schema.specs.RowValues.{IsWide, in_order, is_turned, row_shape, table_of, values}
use Rattle.snb_columns.specs.Laws.{OneList}
use Rattle.snb_input_fields.proofs.Laws.{no_stop, one_stop, spelled_long}
use Rattle.snb_csv.specs.Laws.{OneColumn, OneRow, RowsAreRight}
use Rattle.snb_csv.proofs.RowsByValues.{differ_apart, own_first, row_again, row_by}

-- the fields of a row are wide
row_wide : (t : Table) (fs : List (List ℕ)) (r : Row) (turned : Bool) → SpellsRow t fs r turned → IsWide (length (columns t)) fs
row_wide t fs r turned s = record { own = s.own; extra = s.extra; split = s.split; size = spelled_long (columns t) s.own s.said s.spelled; no_more = s.no_more }

-- and the first of them spell its values
first_spelled : (t : Table) (fs : List (List ℕ)) (r : Row) (turned : Bool) (s : SpellsRow t fs r turned) → SpellsAll (columns t) (take (length (columns t)) fs) s.said
unfolding row_wide
first_spelled t fs r turned s = subst (λ (xs : List (List ℕ)). SpellsAll (columns t) xs s.said) (sym (own_first (length (columns t)) fs (row_wide t fs r turned s))) s.spelled

-- so fields spell one row
pub one_row : OneList → OneRow
one_row list t fs r q a b s u =
    let said = list (columns t) (take (length (columns t)) fs) s.said u.said (first_spelled t fs r a s) (first_spelled t fs q b u) in
    let shaped : row_shape r ≡ row_shape q = s.shaped ∙ sym u.shaped in
    let tabled : table_of r ≡ table_of q = s.table ∙ sym u.table in
    let valued : values r ≡ values q = s.kept ∙ ap (in_order (has_no_direction t)) said ∙ sym u.kept in
    (sym (row_again r) ∙ (λ i. row_by (shaped i) (tabled i) (valued i)) ∙ row_again q, s.turns ∙ ap (is_turned (has_no_direction t)) said ∙ sym u.turns)

-- and have no bad column
pub rows_are_right : RowsAreRight
rows_are_right t fs r turned column s (inl narrow) = narrow.0 (row_wide t fs r turned s)
rows_are_right t fs r turned column s (inr (size, inl loop)) = (differ_apart t fs s.said (first_spelled t fs r turned s)).0 s.differ loop.0
rows_are_right t fs r turned column s (inr (size, inr (loop, inl stop))) = no_stop (columns t) fs s.said (first_spelled t fs r turned s) stop.0 stop.1
rows_are_right t fs r turned column s (inr (size, inr (loop, inr p))) = p.1

-- others have one at most
pub one_column : OneColumn
one_column t fs a b (inl p) (inl q) = p.1 ∙ sym q.1
one_column t fs a b (inl p) (inr q) = absurd (q.0 a p)
one_column t fs a b (inr p) (inl q) = absurd (p.0 b q)
one_column t fs a b (inr (m, inl p)) (inr (n, inl q)) = p.1 ∙ sym q.1
one_column t fs a b (inr (m, inl p)) (inr (n, inr q)) = absurd (q.0 a p)
one_column t fs a b (inr (m, inr p)) (inr (n, inl q)) = absurd (p.0 b q)
one_column t fs a b (inr (m, inr (k, inl p))) (inr (n, inr (l, inl q))) = p.2 ∙ ap (λ n. n + 1) (one_stop (columns t) fs p.0 q.0 p.1 q.1) ∙ sym q.2
one_column t fs a b (inr (m, inr (k, inl p))) (inr (n, inr (l, inr q))) = absurd q.1
one_column t fs a b (inr (m, inr (k, inr p))) (inr (n, inr q)) = absurd p.1
