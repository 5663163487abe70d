-- What the text of a reply tells of it.
use Rattle.std.specs.Prelude.{◌≡◌, ◌<◌, ◌^◌, ℤ, pos, negsuc, List, [], map, Some, ⊤}
use Rattle.std.specs.List.{AllByRecursion}
use Rattle.serde_json.specs.Read.{read}
use Rattle.serde_json.specs.Written.{compact_text}
use Rattle.snb_read_model.specs.Cells.{ByteCell}
use Rattle.snb_read_model.specs.declared.cell.Cell.TheVariants as cell
use Rattle.snb_validation.specs.ReplyData.{reply_data}

-- a number of 64 bits with its sign
abbrev pub IsSigned64 : ℤ → Type 0
IsSigned64 (pos n) = n < 2 ^ 63
IsSigned64 (negsuc n) = n < 2 ^ 63

-- a cell's number is one of 64 bits, and each year of its stays one of 32
abbrev pub IsOfType : ByteCell → Type 0
IsOfType (cell.Number z) = IsSigned64 z
IsOfType (cell.Stays ss) = AllByRecursion (λ s. s.1 < 2 ^ 32) ss
IsOfType other = ⊤

abbrev pub AreOfTypes : List (List (List ByteCell)) → Type 0
AreOfTypes = AllByRecursion (AllByRecursion (AllByRecursion IsOfType))

-- a cell as far as its text tells it: no stays are written as no texts are
abbrev pub as_written : ByteCell → ByteCell
as_written (cell.Stays []) = cell.List []
as_written other = other

abbrev pub reply_as_written : List (List (List ByteCell)) → List (List (List ByteCell))
reply_as_written = map (map (map as_written))

-- the reply's array is read from its text
abbrev pub ReadsBack : Type 0
ReadsBack =
    (reply : List (List (List ByteCell))) → AreOfTypes reply
    → read (compact_text (reply_data reply)) ≡ Some (reply_data reply)

-- one array, or one text, is of one reply
abbrev pub OneOfArray : Type 0
OneOfArray =
    (a b : List (List (List ByteCell))) → reply_data a ≡ reply_data b
    → reply_as_written a ≡ reply_as_written b

abbrev pub OneOfText : Type 0
OneOfText =
    (a b : List (List (List ByteCell))) → AreOfTypes a → AreOfTypes b
    → compact_text (reply_data a) ≡ compact_text (reply_data b)
    → reply_as_written a ≡ reply_as_written b
