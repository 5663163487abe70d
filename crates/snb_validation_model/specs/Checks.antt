-- Whether the replies that cases have are those that a graph gives, and the first that isn't.
use Rattle.std.specs.Prelude.{◌≡◌, ◌≢◌, ℕ, Bool, true, false, List, [], ◌++◌, ◌∷◌, filter, length, Option, Some, None}
use Rattle.std.specs.List.{flat_map}
use Rattle.snb_schema.specs.declared.query.Query.{Query}
use Rattle.snb_schema.specs.declared.row.Row.{Row}
use Rattle.snb_schema.specs.Inserts.{rows_of}
use Rattle.snb_graph_model.specs.Graphs.{HasGained}
use Rattle.snb_graph_model.specs.Soundness.{Sound}
use Rattle.snb_read_model.specs.Cells.{ByteCell}
use Rattle.snb_read_model.specs.Replies.{IsReply}
use Rattle.snb_validation_cases.specs.declared.case.Case.{Case}
use Rattle.snb_validation_cases.specs.declared.case.Case.TheVariants.{Insert, Ask}
use Rattle.snb_validation_cases.specs.declared.case.CaseAt.{CaseAt}
use Rattle.snb_validation_model.specs.declared.difference.Difference.{Difference}

-- the rows that a case inserts
abbrev pub rows_of_case : Case → List Row
rows_of_case (Insert line) = rows_of line.op
rows_of_case (Ask query reply) = []

-- the rows of the inserts of the cases, in order
abbrev pub inserted : List CaseAt → List Row
inserted cases = flat_map (λ c. rows_of_case c.case) cases

-- the graph is the base with the rows of the inserts of the cases
abbrev pub IsAfterCases : List Row → List CaseAt → List Row → Type 0
IsAfterCases base cases graph = HasGained base (inserted cases) graph

-- whether a case is a read
abbrev pub is_read : Case → Bool
is_read (Insert line) = false
is_read (Ask query reply) = true

-- how many of the cases are reads
abbrev pub count_reads : List CaseAt → ℕ
count_reads cases = length (filter (λ c. is_read c.case) cases)

-- the case of this line, which asks the query, and to which this reply is due
abbrev pub ask_at : ℕ → Query → List (List (List ByteCell)) → CaseAt
ask_at line query reply = record { line = line; case = Ask query reply }

-- each reply that a case has is the one to its query on the graph that is the base with the inserts
-- before the case
abbrev pub AreRight : List Row → List CaseAt → Type 0
AreRight base cases =
    (before rest : List CaseAt) (line : ℕ) (query : Query) (reply : List (List (List ByteCell)))
    → before ++ ask_at line query reply ∷ rest ≡ cases
    → (graph : List Row) × IsAfterCases base before graph × IsReply graph query reply

-- this is the first case whose reply isn't the one on the base with the inserts before it, a sound
-- graph, on which this one is given instead
pub record IsFirstDifference (base : List Row) (cases : List CaseAt) (d : Difference) : Type 0 where
  pub before : List CaseAt
  pub rest : List CaseAt
  pub query : Query
  pub splits : before ++ ask_at d.line query d.expected ∷ rest ≡ cases
  pub right : AreRight base before
  pub graph : List Row
  pub after : IsAfterCases base before graph
  pub sound : Sound graph
  pub given : IsReply graph query d.given
  pub differs : d.given ≢ d.expected

-- the first difference, or none where all replies are right
abbrev pub Finds : List Row → List CaseAt → Option Difference → Type 0
Finds base cases None = AreRight base cases
Finds base cases (Some d) = IsFirstDifference base cases d
