-- Laws of replies.
use Rattle.std.specs.Prelude.{◌≡◌, ◌≤◌, List}
use Rattle.std.specs.List.{AllByRecursion}
use Rattle.snb_schema.specs.declared.limits.TheConstants.{MAX_YEAR}
use Rattle.snb_schema.specs.declared.query.Query.{Query}
use Rattle.snb_schema.specs.declared.row.Row.{Row}
use Rattle.snb_graph_model.specs.Graphs.{IsGraph}
use Rattle.snb_graph_model.specs.Soundness.{Sound}
use Rattle.snb_read_model.specs.Cells.{ByteCell}
use Rattle.snb_read_model.specs.declared.cell.Cell.TheVariants.{Stays}
use Rattle.snb_read_model.specs.ComplexReads.{IsAnswer}
use Rattle.snb_read_model.specs.Replies.{IsReply}
use Rattle.snb_read_model.specs.Columns.{HaveColumns}

-- on a sound graph a query has a reply
abbrev pub SomeReply : Type 0
SomeReply =
    (g : List Row) (query : Query) → IsGraph g → Sound g
    → (reply : List (List (List ByteCell))) × IsReply g query reply

-- on a sound graph a query has one answer at most
abbrev pub OneAnswer : Type 0
OneAnswer =
    (g : List Row) (query : Query) (one other : List (List ByteCell)) → IsGraph g → Sound g
    → IsAnswer g query one → IsAnswer g query other → one ≡ other

-- and so one reply at most
abbrev pub OneReply : Type 0
OneReply =
    (g : List Row) (query : Query) (one other : List (List (List ByteCell))) → IsGraph g → Sound g
    → IsReply g query one → IsReply g query other → one ≡ other

-- each row of an answer has the columns of its query
abbrev pub AnswersHaveColumns : Type 0
AnswersHaveColumns =
    (g : List Row) (query : Query) (answer : List (List ByteCell)) → IsAnswer g query answer
    → HaveColumns query answer

-- the years of a cell's stays are years that a table can have
abbrev pub HasYears : ByteCell → Type 0
HasYears (Stays stays) = AllByRecursion (λ stay. stay.1 ≤ MAX_YEAR) stays
HasYears other = Unit {0}

-- and so are those of each cell of an answer
abbrev pub AnswersHaveYears : Type 0
AnswersHaveYears =
    (g : List Row) (query : Query) (answer : List (List ByteCell)) → IsGraph g
    → IsAnswer g query answer → AllByRecursion (AllByRecursion HasYears) answer
