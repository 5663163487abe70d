-- The reply to a read as a JSON value: an array of answers, each an array of rows, each an array of
-- cells.
use Rattle.std.specs.Prelude.{◌≡◌, ℕ, List, [], ◌∷◌, Some, option_and_then}
use Rattle.std.specs.List.{AllZip}
use Rattle.serde_json.specs.Data.{Data}
use Rattle.serde_json.specs.Find.{as_bool, as_i64, as_number}
use Rattle.snb_schema.specs.declared.limits.TheConstants.{MAX_YEAR}
use Rattle.snb_schema.specs.declared.query.Query.{Query}
use Rattle.snb_read_model.specs.Cells.{ByteCell}
use Rattle.snb_read_model.specs.declared.cell.Cell.TheVariants as cell
use Rattle.snb_read_model.specs.Replies.{tail_reads}
use Rattle.snb_schema.specs.declared.query.CellKind.{CellKind}
use Rattle.snb_read_model.specs.Columns.{IsOfColumn, columns_of}
use Rattle.snb_validation_cases.specs.Values.{AreAlong, IsArray, IsNumberTo, IsString}

-- a name, a year and the name of a place
abbrev pub IsStayOf : Data → Data → Data → List ℕ × ℕ × List ℕ → Type 0
IsStayOf name year place stay =
    IsString name stay.0 × IsNumberTo MAX_YEAR year stay.1 × IsString place stay.2

-- these three, and no more
abbrev pub AreStay : List Data → List ℕ × ℕ × List ℕ → Type 0
AreStay (name ∷ year ∷ place ∷ []) stay = IsStayOf name year place stay
AreStay _ stay = ⊥

-- an array of these three
abbrev pub IsStayData : Data → List ℕ × ℕ × List ℕ → Type 0
IsStayData = IsArray AreStay

-- a number is one that is read as an integer of 64 bits with a sign, a flag a truth value, a text a
-- string, and texts and stays are arrays
abbrev pub IsCellValue : Data → ByteCell → Type 0
IsCellValue d (cell.Number z) = option_and_then as_i64 (as_number d) ≡ Some z
IsCellValue d (cell.Flag b) = as_bool d ≡ Some b
IsCellValue d (cell.Words text) = IsString d text
IsCellValue d (cell.List texts) = IsArray (AllZip IsString) d texts
IsCellValue d (cell.Stays stays) = IsArray (AllZip IsStayData) d stays

-- a cell of the column
abbrev pub IsCellIn : CellKind → Data → ByteCell → Type 0
IsCellIn column d c = IsOfColumn column c × IsCellValue d c

-- a row of the read, with a cell for each column
abbrev pub IsRow : Query → Data → List ByteCell → Type 0
IsRow query d row = IsArray (AreAlong IsCellIn (columns_of query)) d row

-- an answer to the query, of any number of rows
abbrev pub IsAnswerTo : Query → Data → List (List ByteCell) → Type 0
IsAnswerTo query d rows = IsArray (AllZip (IsRow query)) d rows

-- these values are a reply to the query: its own answer, and one to each read that follows on the
-- first row of that
pub record AreReply (query : Query) (ds : List Data) (reply : List (List (List ByteCell)))
    : Type 0 where
  pub own : List (List ByteCell)
  pub tail : List (List (List ByteCell))
  pub is : reply ≡ own ∷ tail
  pub answers : AreAlong IsAnswerTo (query ∷ tail_reads query own) ds (own ∷ tail)

-- an array of these
abbrev pub IsReplyData : Query → Data → List (List (List ByteCell)) → Type 0
IsReplyData query d reply = IsArray (AreReply query) d reply
