-- The row that the fields of a line make. Cited by contracts of private functions alone.
use Rattle.std.specs.Prelude.{◌≡◌, ◌≢◌, ◌⊎◌, ℕ, Bool, List, [], ◌∷◌, min, max, nat_lt}
use Rattle.snb_base.specs.Spellings.{SpellsId}
use Rattle.snb_schema.specs.declared.column.Value.TheVariants.{Digits}
use Rattle.snb_schema.specs.declared.layout.Shape.{Shape}
use Rattle.snb_schema.specs.declared.layout.Shape.TheVariants as shapes
use Rattle.snb_schema.specs.declared.row.Row.{Row}
use Rattle.snb_schema.specs.declared.row.Row.TheVariants as row
use Rattle.snb_schema.specs.declared.table.Table.{Table}
use Rattle.snb_schema.specs.declared.table.Table.TheVariants as table
use Rattle.snb_schema.specs.TableColumns.{shape_columns}
use Rattle.snb_schema.specs.RowValues.{row_shape, table_of, values}
use Rattle.snb_input_fields.specs.Reading.{IsBadIn, SpellsFrom, text_at}

-- the table of a row of this shape: that of a node follows from the shape, and that of an edge or a
-- word is told
abbrev pub table_by : Shape → Table → Table
table_by shapes.Place t = table.Place
table_by shapes.TagClass t = table.TagClass
table_by shapes.Tag t = table.Tag
table_by shapes.Organisation t = table.Organisation
table_by shapes.Person t = table.Person
table_by shapes.Forum t = table.Forum
table_by shapes.Post t = table.Post
table_by shapes.Comment t = table.Comment
table_by shapes.Link t = t
table_by shapes.Dated t = t
table_by shapes.Yeared t = t
table_by shapes.Word t = t

-- the fields spell the values of the row, which is of this shape and table
pub record IsMadeOf (s : Shape) (t : Table) (fs : List (List ℕ)) (r : Row) : Type 0 where
  pub table : table_of r ≡ table_by s t
  pub shaped : row_shape r ≡ s
  pub spelled : SpellsFrom 0 (shape_columns s) fs (values r)

-- the fields spell two ids that differ and a date, the row has the lower id first, and it is turned
-- where that stood second
pub record AreFriends (t : Table) (fs : List (List ℕ)) (r : Row) (turned : Bool) : Type 0 where
  pub one : ℕ
  pub other : ℕ
  pub date : ℕ
  pub spelled : SpellsFrom 0 (shape_columns shapes.Dated) fs
      (Digits one ∷ Digits other ∷ Digits date ∷ [])
  pub differ : one ≢ other
  pub made : r ≡ row.Dated t (min one other) (max one other) date
  pub turns : turned ≡ nat_lt other one

-- the first two fields spell one id
abbrev pub LeadsBack : List (List ℕ) → Type 0
LeadsBack fs = (id : ℕ) × SpellsId (text_at fs 0) id × SpellsId (text_at fs 1) id

-- the fields are no friendship, in this column first
abbrev pub AreNoFriends : List (List ℕ) → ℕ → Type 0
AreNoFriends fs column =
    (LeadsBack fs × (column ≡ 2)) ⊎
    (¬ LeadsBack fs × IsBadIn (shape_columns shapes.Dated) fs column)
