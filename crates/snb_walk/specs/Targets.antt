-- The targets of answers, and the reads that ask about them.
use Rattle.std.specs.Prelude.{◌≡◌, List, [], ◌∷◌, ◌++◌, map}
use Rattle.std.specs.List.{AllZip, flat_map}
use Rattle.snb_schema.specs.declared.query.Query.{Query}
use Rattle.snb_schema.specs.declared.row.Row.{Row}
use Rattle.snb_read_model.specs.Cells.{ByteCell}
use Rattle.snb_schema.specs.declared.query.TargetColumn.{TargetColumn}
use Rattle.snb_schema.specs.declared.query.TargetColumn.TheVariants.{PersonAt, MessageAt}
use Rattle.snb_read_model.specs.Columns.{target_columns}
use Rattle.snb_read_model.specs.ComplexReads.{IsAnswer}
use Rattle.snb_read_model.specs.Replies.{id_at, message_reads, person_reads}
use Rattle.snb_walk.specs.declared.target.Target.{Target}
use Rattle.snb_walk.specs.declared.target.Target.TheVariants.{Person, Message}

-- the rows of an answer
abbrev pub AnswerRows : Type 0
AnswerRows = List (List ByteCell)

-- a step of a walk: its target, and the answers to the reads that ask about it
abbrev pub WalkStep : Type 0
WalkStep = Target × List AnswerRows

-- the target in a column of a row
abbrev pub target_at : List ByteCell → TargetColumn → Target
target_at row (PersonAt n) = Person (id_at n row)
target_at row (MessageAt n) = Message (id_at n row)

-- the targets of a row, by rising column
abbrev pub row_targets : Query → List ByteCell → List Target
row_targets query row = map (target_at row) (target_columns query)

-- those of an answer, row by row
abbrev pub targets_of : Query → AnswerRows → List Target
targets_of query rows = flat_map (row_targets query) rows

-- those of the answers to several queries, answer by answer
abbrev pub targets_in : List Query → List AnswerRows → List Target
targets_in [] answers = []
targets_in (query ∷ queries) [] = []
targets_in (query ∷ queries) (answer ∷ answers) =
    targets_of query answer ++ targets_in queries answers

-- the reads that ask about a target
abbrev pub reads_of : Target → List Query
reads_of (Person id) = person_reads id
reads_of (Message id) = message_reads id

-- the reply is the answers to the reads in order, and these are their targets
pub record HaveAnswers (g : List Row) (reads : List Query) (reply : List AnswerRows)
    (targets : List Target) : Type 0 where
  pub answers : AllZip (IsAnswer g) reads reply
  pub listed : targets ≡ targets_in reads reply
