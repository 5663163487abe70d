-- The values of a row, by its table.
use Rattle.std.specs.Prelude.{◌≡◌, ◌≢◌, ℕ, min, max, nat_lt, Bool, true, false, List, [], ◌∷◌, ◌++◌, length}
use Rattle.snb_schema.specs.declared.column.Value.{Value}
use Rattle.snb_schema.specs.declared.column.Value.TheVariants.{Digits, SmallDigits, Letters}
use Rattle.snb_schema.specs.declared.layout.Shape.{Shape}
use Rattle.snb_schema.specs.declared.layout.Shape.TheVariants as shapes
use Rattle.snb_schema.specs.declared.row.Row.{Row}
use Rattle.snb_schema.specs.declared.row.Row.TheVariants as row
use Rattle.snb_schema.specs.declared.table.Table.{Table}
use Rattle.snb_schema.specs.declared.table.Table.TheVariants as table
use Rattle.snb_schema.specs.Nodes.{person_values, forum_values, post_values, comment_values}

-- the table that a row stands in
abbrev pub table_of : Row → Table
table_of (row.Place p) = table.Place
table_of (row.TagClass c) = table.TagClass
table_of (row.Tag g) = table.Tag
table_of (row.Organisation o) = table.Organisation
table_of (row.Person p) = table.Person
table_of (row.Forum f) = table.Forum
table_of (row.Post p) = table.Post
table_of (row.Comment c) = table.Comment
table_of (row.Link t from to) = t
table_of (row.Dated t from to date) = t
table_of (row.Yeared t from to year) = t
table_of (row.Word t person text) = t

-- what a row is like
abbrev pub row_shape : Row → Shape
row_shape (row.Place p) = shapes.Place
row_shape (row.TagClass c) = shapes.TagClass
row_shape (row.Tag g) = shapes.Tag
row_shape (row.Organisation o) = shapes.Organisation
row_shape (row.Person p) = shapes.Person
row_shape (row.Forum f) = shapes.Forum
row_shape (row.Post p) = shapes.Post
row_shape (row.Comment c) = shapes.Comment
row_shape (row.Link t from to) = shapes.Link
row_shape (row.Dated t from to date) = shapes.Dated
row_shape (row.Yeared t from to year) = shapes.Yeared
row_shape (row.Word t person text) = shapes.Word

-- the values of a row's columns
abbrev pub values : Row → List Value
values (row.Place p) = Digits p.id ∷ Letters p.name ∷ Letters p.url ∷ Letters p.kind ∷ []
values (row.TagClass c) = Digits c.id ∷ Letters c.name ∷ Letters c.url ∷ []
values (row.Tag g) = Digits g.id ∷ Letters g.name ∷ Letters g.url ∷ []
values (row.Organisation o) = Digits o.id ∷ Letters o.kind ∷ Letters o.name ∷ Letters o.url ∷ []
values (row.Person p) = person_values p
values (row.Forum f) = forum_values f
values (row.Post p) = post_values p
values (row.Comment c) = comment_values c
values (row.Link t from to) = Digits from ∷ Digits to ∷ []
values (row.Dated t from to date) = Digits from ∷ Digits to ∷ Digits date ∷ []
values (row.Yeared t from to year) = Digits from ∷ Digits to ∷ SmallDigits year ∷ []
values (row.Word t person text) = Digits person ∷ Letters text ∷ []

-- what follows the fields of a line's columns: nothing, or one field that is empty
abbrev pub NoneOrEmpty : List (List ℕ) → Type 0
NoneOrEmpty [] = Unit {0}
NoneOrEmpty ([] ∷ []) = Unit {0}
NoneOrEmpty _ = ⊥

-- there are so many fields, or one more that is empty
pub record IsWide (count : ℕ) (fs : List (List ℕ)) : Type 0 where
  pub own : List (List ℕ)
  pub extra : List (List ℕ)
  pub split : fs ≡ own ++ extra
  pub size : length own ≡ count
  pub no_more : NoneOrEmpty extra

-- the two ends of an edge without direction differ
abbrev pub Differ : Bool → List Value → Type 0
Differ true (Digits one ∷ Digits other ∷ rest) = one ≢ other
Differ _ vs = Unit {0}

-- the values of an edge without direction, the lower id first
abbrev pub in_order : Bool → List Value → List Value
in_order true (Digits one ∷ Digits other ∷ rest) =
    Digits (min one other) ∷ Digits (max one other) ∷ rest
in_order _ vs = vs

-- the line of an edge without direction has the higher id first
abbrev pub is_turned : Bool → List Value → Bool
is_turned true (Digits one ∷ Digits other ∷ rest) = nat_lt other one
is_turned _ vs = false
