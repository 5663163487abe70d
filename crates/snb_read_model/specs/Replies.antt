-- A query's reply: its own answer, and the answers that follow it.
use Rattle.std.specs.Prelude.{◌≡◌, ℕ, ℤ, pos, negsuc, List, [], ◌∷◌, cond}
use Rattle.std.specs.List.{AllZip, flat_map}
use Rattle.snb_schema.specs.declared.query.Query.{Query}
use Rattle.snb_schema.specs.declared.query.Query.TheVariants as query
use Rattle.snb_schema.specs.declared.row.Row.{Row}
use Rattle.snb_read_model.specs.ComplexReads.{IsAnswer}
use Rattle.snb_read_model.specs.Cells.{ByteCell, column, number_in}
use Rattle.snb_schema.specs.declared.query.TargetColumn.{TargetColumn}
use Rattle.snb_schema.specs.declared.query.TargetColumn.TheVariants.{PersonAt, MessageAt}
use Rattle.snb_schema.specs.ReadKinds.{layout_of}

-- the id that a number is; below 0 it is 0
abbrev pub id_of : ℤ → ℕ
id_of (pos n) = n
id_of (negsuc n) = 0

-- the id in a column of a row
abbrev pub id_at : ℕ → List ByteCell → ℕ
id_at n row = id_of (number_in (column n row))

-- the short reads that follow for a person
abbrev pub person_reads : ℕ → List Query
person_reads p = query.Is1 p ∷ query.Is2 p ∷ query.Is3 p ∷ []

-- and for a message
abbrev pub message_reads : ℕ → List Query
message_reads m = query.Is4 m ∷ query.Is5 m ∷ query.Is6 m ∷ query.Is7 m ∷ []

-- the short reads about the target in a column of a row
abbrev pub reads_at : List ByteCell → TargetColumn → List Query
reads_at row (PersonAt n) = person_reads (id_at n row)
reads_at row (MessageAt n) = message_reads (id_at n row)

-- the short reads that follow an answer with a first row: those of its targets, where the kind is
-- followed
abbrev pub followers : Query → List ByteCell → List Query
followers q row =
    cond (layout_of q).is_followed (flat_map (reads_at row) (layout_of q).targets) []

-- the reads that follow an answer: those of its first row, and none where it has no rows
abbrev pub tail_reads : Query → List (List ByteCell) → List Query
tail_reads q [] = []
tail_reads q (row ∷ rows) = followers q row

-- the query's own answer, and then those of its tail
pub record IsReply (g : List Row) (q : Query) (reply : List (List (List ByteCell))) : Type 0 where
  pub own : List (List ByteCell)
  pub tail : List (List (List ByteCell))
  pub is : reply ≡ own ∷ tail
  pub answer : IsAnswer g q own
  pub follow : AllZip (IsAnswer g) (tail_reads q own) tail
