-- The columns of the tables.
use Rattle.std.specs.Prelude.{List, [], ◌∷◌}
use Rattle.snb_schema.specs.declared.column.Column.{Column}
use Rattle.snb_schema.specs.declared.column.Column.TheVariants.{Small, Date, Words}
use Rattle.snb_schema.specs.declared.column.Column.TheVariants as column
use Rattle.snb_schema.specs.declared.layout.Shape.{Shape}
use Rattle.snb_schema.specs.declared.layout.Shape.TheVariants.{Link, Dated, Yeared, Word}
use Rattle.snb_schema.specs.declared.layout.Shape.TheVariants as shapes
use Rattle.snb_schema.specs.declared.limits.TheConstants.{MAX_YEAR}
use Rattle.snb_schema.specs.declared.table.Table.{Table}
use Rattle.snb_schema.specs.Layouts.{shape}
use Rattle.snb_schema.specs.Nodes.{id_column, person_columns, forum_columns, post_columns, comment_columns}

-- the columns of each shape
abbrev pub shape_columns : Shape → List Column
shape_columns shapes.Place = id_column ∷ Words ∷ Words ∷ Words ∷ []
shape_columns shapes.TagClass = id_column ∷ Words ∷ Words ∷ []
shape_columns shapes.Tag = id_column ∷ Words ∷ Words ∷ []
shape_columns shapes.Organisation = id_column ∷ Words ∷ Words ∷ Words ∷ []
shape_columns shapes.Person = person_columns
shape_columns shapes.Forum = forum_columns
shape_columns shapes.Post = post_columns
shape_columns shapes.Comment = comment_columns
shape_columns shapes.Link = id_column ∷ id_column ∷ []
shape_columns shapes.Dated = id_column ∷ id_column ∷ Date ∷ []
shape_columns shapes.Yeared = id_column ∷ id_column ∷ Small MAX_YEAR ∷ []
shape_columns shapes.Word = id_column ∷ column.Word ∷ []

-- the columns of a table, in the order of its lines
abbrev pub columns : Table → List Column
columns t = shape_columns (shape t)
