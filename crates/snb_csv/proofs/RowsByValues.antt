-- The row of a table whose columns have these values.
use Rattle.std.proofs.Common.{◌≡◌, ◌≢◌, ◌↔◌, ◌∙◌, ◌≤◌, ℕ, Bool, true, List, [], ◌∷◌, ◌++◌, length, length-append, take, arith, refl, sym, ap, subst}
use Rattle.std.proofs.Math.Seq.{take-append_seam}
use Rattle.snb_base.specs.Spellings.{SpellsId}
use Rattle.snb_base.proofs.Laws.{one_number}
use Rattle.snb_schema.specs.declared.column.Column.{Column}
use Rattle.snb_schema.specs.declared.column.Column.TheVariants.{Date}
use Rattle.snb_schema.specs.declared.column.Value.{Value}
use Rattle.snb_schema.specs.declared.column.Value.TheVariants.{Digits, SmallDigits, Letters}
use Rattle.snb_schema.specs.declared.layout.Shape.{Shape}
use Rattle.snb_schema.specs.declared.layout.Shape.TheVariants as shapes
use Rattle.snb_schema.specs.declared.row.Row.{Row}
use Rattle.snb_schema.specs.declared.row.Row.TheVariants as row
use Rattle.snb_schema.specs.declared.table.Table.{Table}
use Rattle.snb_schema.specs.declared.table.Table.TheVariants as table
use Rattle.snb_schema.specs.Columns.{SpellsAll}
use Rattle.snb_schema.specs.Layouts.{has_no_direction, shape}
use Rattle.snb_schema.specs.Nodes.{comment_by, forum_by, id_column, person_by, post_by}
use Rattle.snb_schema.specs.TableColumns.{columns}
use Rattle.snb_schema.specs.RowLines.{IsLoop, SpellsRow}
use Rattle.snb_schema.specs.RowValues.{Differ, IsWide, in_order, is_turned, row_shape, table_of, values}
use Rattle.snb_input_fields.proofs.Laws.{TypedRow, row_of, row_values}

-- the row of this shape and table that has these values, where they are such a row's
abbrev pub row_by : Shape → Table → List Value → Row
row_by shapes.Place t (Digits id ∷ Letters name ∷ Letters url ∷ Letters kind ∷ []) = row.Place (record { id = id; name = name; url = url; kind = kind })
row_by shapes.TagClass t (Digits id ∷ Letters name ∷ Letters url ∷ []) = row.TagClass (record { id = id; name = name; url = url })
row_by shapes.Tag t (Digits id ∷ Letters name ∷ Letters url ∷ []) = row.Tag (record { id = id; name = name; url = url })
row_by shapes.Organisation t (Digits id ∷ Letters kind ∷ Letters name ∷ Letters url ∷ []) = row.Organisation (record { id = id; kind = kind; name = name; url = url })
row_by shapes.Person t vs = row.Person (person_by vs)
row_by shapes.Forum t vs = row.Forum (forum_by vs)
row_by shapes.Post t vs = row.Post (post_by vs)
row_by shapes.Comment t vs = row.Comment (comment_by vs)
row_by shapes.Dated t (Digits from ∷ Digits to ∷ Digits date ∷ []) = row.Dated t from to date
row_by shapes.Yeared t (Digits from ∷ Digits to ∷ SmallDigits year ∷ []) = row.Yeared t from to year
row_by shapes.Word t (Digits person ∷ Letters text ∷ []) = row.Word t person text
row_by s t (Digits from ∷ Digits to ∷ []) = row.Link t from to
row_by s t vs = row.Link t 0 0

-- a row is what its shape, its table and its values make
pub row_again : (r : Row) → row_by (row_shape r) (table_of r) (values r) ≡ r
row_again (row.Place p) = refl
row_again r = refl

-- the row of the table whose line has these values, and whether the line has its ends the other way round
pub record IsRowOf (t : Table) (said : List Value) (r : Row) (turned : Bool) : Type 0 where
  pub table : table_of r ≡ t
  pub shaped : row_shape r ≡ shape t
  pub kept : values r ≡ in_order (has_no_direction t) said
  pub turns : turned ≡ is_turned (has_no_direction t) said

-- what the columns of a table hold makes such a row
pub row_made : (t : Table) (h : TypedRow (columns t)) → (r : Row) × (turned : Bool) × IsRowOf t (row_values (columns t) h) r turned
row_made table.Place h = (row_by shapes.Place table.Place (row_values (columns table.Place) h), _, record { table = refl; shaped = refl; kept = refl; turns = refl })
row_made t h = (row_by (shape t) t (in_order (has_no_direction t) (row_values (columns t) h)), _, record { table = refl; shaped = refl; kept = refl; turns = refl })

-- two ids differ where the fields that spell them don't lead back
ends : (cs : List Column) (fs : List (List ℕ)) (one other : ℕ) (rest : List Value) → SpellsAll (id_column ∷ id_column ∷ cs) (take (length (id_column ∷ id_column ∷ cs)) fs) (Digits one ∷ Digits other ∷ rest) → one ≢ other ↔ ¬ IsLoop true fs
ends cs [] one other rest s = absurd s
ends cs (x ∷ []) one other rest s = absurd s.1
ends cs (x ∷ y ∷ fs) one other rest s = (
  λ differ loop. differ (one_number x one loop.0 s.0 loop.1 ∙ sym (one_number y other loop.0 s.1.0 loop.2)),
  λ apart same. apart (one, s.0, subst (SpellsId y) (sym same) s.1.0),
)

-- so the ends of an edge without direction differ where it doesn't lead back
pub differ_apart : (t : Table) (fs : List (List ℕ)) (vs : List Value) → SpellsAll (columns t) (take (length (columns t)) fs) vs → Differ (has_no_direction t) vs ↔ ¬ IsLoop (has_no_direction t) fs
differ_apart table.PersonKnowsPerson fs vs s =
    let (h, is) = row_of (columns table.PersonKnowsPerson) (take 3 fs) vs s in
    subst (λ (ws : List Value). Differ true ws ↔ ¬ IsLoop true fs) (sym is) (ends (Date ∷ []) fs h.0 h.1.0 (row_values (Date ∷ []) h.1.1) (subst (SpellsAll (columns table.PersonKnowsPerson) (take 3 fs)) is s))
differ_apart t fs vs s = (λ differ loop. loop, λ apart. tt)

-- a wide line has so many fields
pub wide_long : (n : ℕ) (fs : List (List ℕ)) → IsWide n fs → n ≤ length fs
wide_long n fs w = let e = ap length w.split in let size = w.size in omega (arith, e, size, length-append w.own w.extra)

-- and the first of them are its own
pub own_first : (n : ℕ) (fs : List (List ℕ)) (w : IsWide n fs) → take n fs ≡ w.own
own_first n fs w = ap (take n) w.split ∙ subst (λ k. take k (w.own ++ w.extra) ≡ w.own) w.size (take-append_seam w.own w.extra)

-- a row of the fields of a wide line
pub spells_row : (t : Table) (fs : List (List ℕ)) (vs : List Value) (r : Row) (turned : Bool) → IsWide (length (columns t)) fs → SpellsAll (columns t) (take (length (columns t)) fs) vs → Differ (has_no_direction t) vs → IsRowOf t vs r turned → SpellsRow t fs r turned
spells_row t fs vs r turned w s differ is = record {
  table = is.table;
  shaped = is.shaped;
  own = w.own;
  extra = w.extra;
  split = w.split;
  no_more = w.no_more;
  said = vs;
  spelled = subst (λ (xs : List (List ℕ)). SpellsAll (columns t) xs vs) (own_first (length (columns t)) fs w) s;
  differ = differ;
  kept = is.kept;
  turns = is.turns;
}
