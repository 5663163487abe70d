-- The tail of a reply.
use Rattle.std.specs.Prelude.{ℕ, ◌≤◌, List, [], ◌++◌, Option, Some, None, length}
use Rattle.snb_schema.specs.declared.query.Query.{Query}
use Rattle.snb_read_model.specs.Cells.{ByteCell, column}
use Rattle.snb_read_model.specs.Columns.{IsOfColumn}
use Rattle.snb_read_model.specs.Replies.{id_at, message_reads, person_reads}
use Rattle.snb_schema.specs.declared.query.CellKind.TheVariants.{Number}
use Rattle.snb_schema.specs.declared.query.TargetColumn.{TargetColumn}
use Rattle.snb_schema.specs.declared.query.TargetColumn.TheVariants.{PersonAt, MessageAt}
use Rattle.snb_read_model.specs.declared.tail.Tail.{Tail}

-- the short reads of a tail: those of its person, and those of its message
abbrev pub of_person : Option ℕ → List Query
of_person None = []
of_person (Some person) = person_reads person

abbrev pub of_message : Option ℕ → List Query
of_message None = []
of_message (Some message) = message_reads message

abbrev pub queries_of : Tail → List Query
queries_of tail = of_person tail.person ++ of_message tail.message

-- a tail without reads
abbrev pub no_tail : Tail
no_tail = record { person = None; message = None }

-- a tail with the id in a column of a row
abbrev pub with_target : List ByteCell → Tail → TargetColumn → Tail
with_target row tail (PersonAt n) =
    record { person = Some (id_at n row); message = tail.message }
with_target row tail (MessageAt n) =
    record { person = tail.person; message = Some (id_at n row) }

-- the column is there, and has a number
abbrev pub IsNumberAt : List ByteCell → ℕ → Type 0
IsNumberAt row n = (1 ≤ n) × (n ≤ length row) × IsOfColumn Number (column n row)

abbrev pub IsTargetOf : List ByteCell → TargetColumn → Type 0
IsTargetOf row (PersonAt n) = IsNumberAt row n
IsTargetOf row (MessageAt n) = IsNumberAt row n
