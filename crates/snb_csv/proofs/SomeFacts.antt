-- Fields spell a row or have a bad column.
use Rattle.std.proofs.Common.{◌∙◌, ◌+◌, ℕ, Bool, true, List, ◌∷◌, length, take, refl, sym, subst, inl, inr}
use Rattle.std.proofs.lemmas.Bool.{cases_eq}
use Rattle.snb_base.specs.Spellings.{SpellsId, last_id}
use Rattle.snb_base.proofs.Laws.{Decided, number_found, one_number}
use Rattle.snb_schema.specs.declared.column.Value.{Value}
use Rattle.snb_schema.specs.declared.row.Row.{Row}
use Rattle.snb_schema.specs.declared.table.Table.{Table}
use Rattle.snb_schema.specs.Columns.{SpellsAll}
use Rattle.snb_schema.specs.Layouts.{has_no_direction}
use Rattle.snb_schema.specs.TableColumns.{columns}
use Rattle.snb_schema.specs.RowLines.{IsLoop, SpellsRow}
use Rattle.snb_schema.specs.RowValues.{IsWide}
use Rattle.snb_input_fields.specs.Laws.{EachLineIsRead}
use Rattle.snb_input_fields.proofs.Laws.{wide_or_not, row_of}
use Rattle.snb_csv.specs.Laws.{RowOrColumn}
use Rattle.snb_csv.proofs.RowsByValues.{IsRowOf, differ_apart, row_made, spells_row, wide_long}

-- a line leads back, or it doesn't
loop_or_not : (undirected : Bool) (fs : List (List ℕ)) → Decided (IsLoop undirected fs)
loop_or_not true (x ∷ y ∷ fs) = elim (number_found x last_id) [
  | inr none ↦ inr (λ l. none l.0 l.1)
  | inl one ↦ elim (number_found y last_id) [
    | inr none ↦ inr (λ l. none l.0 l.2)
    | inl other ↦ elim (cases_eq one.0 other.0) [
      | inl same ↦ inl (one.0, one.1, subst (SpellsId y) (sym same) other.1)
      | inr differ ↦ inr (λ l. differ (one_number x one.0 l.0 one.1 l.1 ∙ sym (one_number y other.0 l.0 other.1 l.2)))
    ]
  ]
]
loop_or_not undirected fs = inr (λ l. l)

-- one that doesn't and spells values is a row
row_apart : (t : Table) (fs : List (List ℕ)) (vs : List Value) → IsWide (length (columns t)) fs → ¬ IsLoop (has_no_direction t) fs → SpellsAll (columns t) (take (length (columns t)) fs) vs → (r : Row) × (turned : Bool) × SpellsRow t fs r turned
row_apart t fs vs w apart s =
    let (h, is) = row_of (columns t) (take (length (columns t)) fs) vs s in
    let made = subst (λ (ws : List Value). (r : Row) × (turned : Bool) × IsRowOf t ws r turned) (sym is) (row_made t h) in
    (made.0, made.1, spells_row t fs vs made.0 made.1 w s ((differ_apart t fs vs s).1 apart) made.2)

-- fields spell a row, or they have a bad column
pub row_or_column : EachLineIsRead → RowOrColumn
row_or_column read t fs = elim (wide_or_not (length (columns t)) fs) [
  | inr narrow ↦ inr (0, inl (narrow, refl))
  | inl w ↦ elim (loop_or_not (has_no_direction t) fs) [
    | inl loop ↦ inr (2, inr (λ c q. q.0 w, inl (loop, refl)))
    | inr apart ↦ elim (read (columns t) fs (wide_long (length (columns t)) fs w)) [
      | inl s ↦ inl (row_apart t fs s.0 w apart s.1)
      | inr s ↦ inr (s.0 + 1, inr (λ c q. q.0 w, inr (λ c q. apart q.0, inl (s.0, s.2, refl))))
    ]
  ]
]
