-- The insert that the fields of a line make. Cited by contracts of private functions alone.
use Rattle.std.specs.Prelude.{◌≡◌, ℕ, List, [], ◌∷◌}
use Rattle.snb_base.specs.Spellings.{Num}
use Rattle.snb_schema.specs.declared.column.Column.TheVariants.{OptionalId}
use Rattle.snb_schema.specs.declared.column.Value.{Value}
use Rattle.snb_schema.specs.declared.op.Line.{Line}
use Rattle.snb_schema.specs.declared.op.Op.{Op}
use Rattle.snb_schema.specs.declared.op.InsertKind.{InsertKind}
use Rattle.snb_schema.specs.declared.op.Parent.{Parent}
use Rattle.snb_schema.specs.Columns.{SpellsAll}
use Rattle.snb_schema.specs.UpdateLines.{IsOfTwo}
use Rattle.snb_schema.specs.InsertLines.{beside_columns, beside_values, insert_columns, kind_number, kind_of, line_columns, line_values, node_values, op_values, parent_comment, parent_post}
use Rattle.snb_schema.specs.Nodes.{addition}
use Rattle.snb_input_fields.specs.Fields.{FieldsMeaning, ReadsAll}
use Rattle.snb_input_fields.specs.Reading.{Reading, SpellsFrom, text_at}

-- so many fields of a line with an insert of this kind are read
abbrev pub at_field : InsertKind → List (List ℕ) → ℕ → Reading
at_field kind fs n = record { columns = line_columns kind; fields = fs; read = n }

-- the fields after a line's times and number spell the insert, which is of this kind, and a friendship isn't with
-- oneself
pub record IsMade (kind : InsertKind) (fs : List (List ℕ)) (op : Op) : Type 0 where
  pub kind_is : kind_of op ≡ kind
  pub spelled : SpellsFrom 3 (insert_columns kind) fs (op_values op)
  pub of_two : IsOfTwo op

-- the next fields spell what a line of the insert, which is of this kind and whose node has these values, has beside
-- the node, and their reading leads from a state to another
pub record HasRead {S : Type 0} (meaning : FieldsMeaning S) (kind : InsertKind) (node : List Value)
    (r s : S) (op : Op) : Type 0 where
  pub kind_is : kind_of op ≡ kind
  pub node_is : node_values (addition op) ≡ node
  pub beside : ReadsAll meaning r (beside_columns kind) (beside_values (addition op)) s

-- the fields from a place on spell it
pub record HasSpelled (kind : InsertKind) (node : List Value) (place : ℕ) (fs : List (List ℕ)) (op : Op) : Type 0 where
  pub kind_is : kind_of op ≡ kind
  pub node_is : node_values (addition op) ≡ node
  pub beside : SpellsFrom place (beside_columns kind) fs (beside_values (addition op))

-- the two fields of a comment's parents spell this one
abbrev pub IsParent : List (List ℕ) → Parent → Type 0
IsParent fs parent =
    SpellsFrom 11 (OptionalId ∷ OptionalId ∷ []) fs (parent_post parent ∷ parent_comment parent ∷ [])

-- the third field is the number of this kind
abbrev pub IsThird : InsertKind → List (List ℕ) → Type 0
IsThird kind fs = Num (text_at fs 2) (kind_number kind) (kind_number kind)

-- the fields spell the line's times and its insert, which is of this kind, and a friendship isn't
-- with oneself
pub record IsMadeLine (kind : InsertKind) (fs : List (List ℕ)) (line : Line) : Type 0 where
  pub kind_is : kind_of line.op ≡ kind
  pub spelled : SpellsAll (line_columns kind) fs (line_values line.t line.t_d line.op)
  pub of_two : IsOfTwo line.op
