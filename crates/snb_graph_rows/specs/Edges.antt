-- Edges as a key and a number: the other end, the date or the year.
use Rattle.std.specs.Prelude.{ℕ}
use Rattle.snb_schema.specs.declared.layout.KeyColumns.{KeyColumns}
use Rattle.snb_schema.specs.declared.layout.KeyColumns.TheVariants.{First, Second, FirstTwo}
use Rattle.snb_schema.specs.declared.layout.Shape.{Shape}
use Rattle.snb_schema.specs.declared.layout.Shape.TheVariants as shapes
use Rattle.snb_schema.specs.declared.row.Row.{Row}
use Rattle.snb_schema.specs.declared.row.Row.TheVariants as row
use Rattle.snb_schema.specs.declared.table.Table.{Table}
use Rattle.snb_schema.specs.Layouts.{key_columns, shape}
use Rattle.snb_schema.specs.RowKeys.{RowKey}

-- the link of a key and the other end, by the columns that are its table's key
abbrev pub link_of : KeyColumns → Table → ℕ → ℕ → ℕ → Row
link_of First t a b other = row.Link t a other
link_of Second t a b other = row.Link t other a
link_of FirstTwo t a b other = row.Link t a b

-- the edge of a key and a number, by the shape of its table's rows
abbrev pub edge_of : Shape → KeyColumns → Table → ℕ → ℕ → ℕ → Row
edge_of shapes.Dated columns t a b date = row.Dated t a b date
edge_of shapes.Yeared columns t a b year = row.Yeared t a b year
edge_of shapes.Place columns t a b other = link_of columns t a b other
edge_of shapes.TagClass columns t a b other = link_of columns t a b other
edge_of shapes.Tag columns t a b other = link_of columns t a b other
edge_of shapes.Organisation columns t a b other = link_of columns t a b other
edge_of shapes.Person columns t a b other = link_of columns t a b other
edge_of shapes.Forum columns t a b other = link_of columns t a b other
edge_of shapes.Post columns t a b other = link_of columns t a b other
edge_of shapes.Comment columns t a b other = link_of columns t a b other
edge_of shapes.Link columns t a b other = link_of columns t a b other
edge_of shapes.Word columns t a b other = link_of columns t a b other

abbrev pub edge_row : RowKey → ℕ → Row
edge_row k n = edge_of (shape k.0) (key_columns k.0) k.0 k.1 k.2 n

-- the word of a key
abbrev pub word_row : {V : Type 0} → RowKey → V → Row
word_row k v = row.Word k.0 k.1 k.3
