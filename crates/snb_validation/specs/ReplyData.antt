-- A reply as the JSON value that its text spells (RFC 8259).
use Rattle.std.specs.Prelude.{ℕ, pos, List, [], ◌∷◌, map}
use Rattle.serde_json.specs.Data.{Data, array, boolean, number, string}
use Rattle.serde_json.specs.Find.{of_integer}
use Rattle.serde_json.specs.View.{items_of}
use Rattle.snb_read_model.specs.Cells.{ByteCell}
use Rattle.snb_read_model.specs.declared.cell.Cell.TheVariants as cell

-- an array of such values
abbrev pub array_of : {X : Type 0} → (X → Data) → List X → Data
array_of f xs = array (items_of (map f xs))

-- a name, a year and a place name
abbrev pub stay_data : List ℕ × ℕ × List ℕ → Data
stay_data s = array (items_of (string s.0 ∷ number (of_integer (pos s.1)) ∷ string s.2 ∷ []))

-- a number, a truth value, a string, an array of strings, or an array of stays
abbrev pub cell_data : ByteCell → Data
cell_data (cell.Number z) = number (of_integer z)
cell_data (cell.Flag b) = boolean b
cell_data (cell.Words t) = string t
cell_data (cell.List ts) = array_of string ts
cell_data (cell.Stays ss) = array_of stay_data ss

-- an array of answers, each an array of rows, each an array of cells
abbrev pub reply_data : List (List (List ByteCell)) → Data
reply_data = array_of (array_of (array_of cell_data))
