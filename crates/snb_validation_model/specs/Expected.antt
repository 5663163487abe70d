-- The cases of a plan over a graph: what it inserts, and the replies that are due to its reads.
use Rattle.std.specs.Prelude.{◌≡◌, ℕ, List, All, ◌++◌, Some, length, slice_get}
use Rattle.snb_schema.specs.Columns.{SpellsAll}
use Rattle.snb_schema.specs.declared.op.Line.{Line}
use Rattle.snb_schema.specs.declared.query.Query.{Query}
use Rattle.snb_schema.specs.declared.row.Row.{Row}
use Rattle.snb_schema.specs.ReadKinds.{read_kind_of, parameter_columns, parameter_values}
use Rattle.snb_plan.specs.Plans.{Operation, Plan, Work, queries_in}
use Rattle.snb_plan.specs.Plans as plans
use Rattle.snb_read_model.specs.Cells.{ByteCell}
use Rattle.snb_read_model.specs.Replies.{IsReply}
use Rattle.snb_workers_replay.specs.Replay.{IsGraphBefore}
use Rattle.snb_validation_cases.specs.Cases.{SpellsCase}
use Rattle.snb_validation_cases.specs.declared.case.Case.{Case}
use Rattle.snb_validation_cases.specs.declared.case.Case.TheVariants.{Insert, Ask}
use Rattle.snb_validation_model.specs.CaseTexts.{case_text, cases_text}

-- the insert of a line, which is line 1 of its own text
abbrev pub insert_case : Line → Case
insert_case line = Insert (record { t = line.t; t_d = line.t_d; op = line.op; number = 1 })

-- the case of what an operation does, where this is the graph: its insert, or its query with the
-- reply on the graph
abbrev pub IsCaseOf : List Row → Work → Case → Type 0
IsCaseOf graph (plans.InsertWork line) case = case ≡ insert_case line
IsCaseOf graph (plans.AskWork query) case =
    (reply : List (List (List ByteCell))) × IsReply graph query reply × (case ≡ Ask query reply)

-- the case of the operation of a number, where the graph is the base with the inserts of smaller
-- number
pub record IsExpectedAt (base : List Row) (plan : Plan) (k : ℕ) (case : Case) : Type 0 where
  pub operation : Operation
  pub there : slice_get plan.operations k ≡ Some operation
  pub graph : List Row
  pub before : IsGraphBefore base plan k graph
  pub is : IsCaseOf graph operation.work case

-- the cases of a plan over a base: one for each operation, in the order of their numbers, which is
-- the merged order
pub record AreExpected (base : List Row) (plan : Plan) (cases : List Case) : Type 0 where
  pub as_many : length cases ≡ length plan.operations
  pub each : (k : ℕ) (case : Case) → slice_get cases k ≡ Some case → IsExpectedAt base plan k case

-- each case is read from its text
abbrev pub AreReadBack : List Case → Type 0
AreReadBack cases = All (λ case. SpellsCase (case_text case) case) cases

-- words spell the parameters of the query, as the fields of a parameter file do
abbrev pub HasWords : Query → Type 0
HasWords query =
    (words : List (List ℕ)) × SpellsAll (parameter_columns (read_kind_of query)) words
    (parameter_values query)

abbrev pub HaveWords : List Query → Type 0
HaveWords queries = All HasWords queries

-- the text of the cases of a plan over a base was added; where words spell the parameters of the
-- plan's queries, each case is read from its line
pub record HasExpected (base : List Row) (plan : Plan) (old new : List ℕ) : Type 0 where
  pub cases : List Case
  pub are : AreExpected base plan cases
  pub read_back : HaveWords (queries_in plan) → AreReadBack cases
  pub added : new ≡ old ++ cases_text cases
