-- How far the writing of cases has come. Cited by contracts of private functions alone.
use Rattle.std.specs.Prelude.{◌≡◌, ◌+◌, ℕ, List, ◌++◌, length, slice_get, Some, IsUtf8}
use Rattle.std.specs.List.{flat_map}
use Rattle.serde_json.specs.Data.{Data}
use Rattle.serde_json.specs.Read.{read}
use Rattle.snb_schema.specs.declared.op.Line.{Line}
use Rattle.snb_schema.specs.declared.query.Query.{Query}
use Rattle.snb_schema.specs.declared.row.Row.{Row}
use Rattle.snb_graph_model.specs.Soundness.{Sound}
use Rattle.snb_read_model.specs.Cells.{ByteCell}
use Rattle.snb_read_model.specs.Replies.{IsReply}
use Rattle.snb_plan.specs.Plans.{Plan, queries_in}
use Rattle.snb_workers_replay.specs.Laws.{IsReplayed}
use Rattle.snb_workers_replay.specs.Replay.{IsGraphBefore}
use Rattle.snb_validation_cases.specs.Cases.{SpellsCase}
use Rattle.snb_validation_cases.specs.declared.case.Case.{Case}
use Rattle.snb_validation_cases.specs.declared.case.Case.TheVariants.{Ask}
use Rattle.snb_validation_model.specs.CaseTexts.{case_line, case_text}
use Rattle.snb_validation_model.specs.Expected.{AreReadBack, HasWords, HaveWords, IsExpectedAt, insert_case}

-- the text is UTF-8, and `serde_json` reads this value from it
pub record IsJsonText (text : List ℕ) (d : Data) : Type 0 where
  pub utf8 : IsUtf8 text
  pub reads : read text ≡ Some d

-- the case of the line's insert was added, and is read from its text
pub record HasPutInsert (line : Line) (old new : List ℕ) : Type 0 where
  pub added : new ≡ old ++ case_line (insert_case line)
  pub read_back : SpellsCase (case_text (insert_case line)) (insert_case line)

-- the case of the query with its reply on the graph was added, and is read from its text where
-- words spell its parameters
pub record HasPutAsk (graph : List Row) (query : Query) (old new : List ℕ) : Type 0 where
  pub reply : List (List (List ByteCell))
  pub replies : IsReply graph query reply
  pub added : new ≡ old ++ case_line (Ask query reply)
  pub read_back : HasWords query → SpellsCase (case_text (Ask query reply)) (Ask query reply)

-- the plan is one of streams and closed over the base, and the graph is a sound one: the base with
-- the inserts of smaller number than this
pub record IsAt (base : List Row) (plan : Plan) (k : ℕ) (graph : List Row) : Type 0 where
  pub replayed : IsReplayed base plan
  pub before : IsGraphBefore base plan k graph
  pub sound : Sound graph

-- the case of the operation of a number was added, and this is the graph for the next one
pub record HasPut (base : List Row) (plan : Plan) (k : ℕ) (old new : List ℕ) (graph : List Row)
    : Type 0 where
  pub case : Case
  pub expected : IsExpectedAt base plan k case
  pub read_back : HaveWords (queries_in plan) → SpellsCase (case_text case) case
  pub added : new ≡ old ++ case_line case
  pub next : IsAt base plan (k + 1) graph

-- and so were those of all smaller numbers
pub record HavePut (base : List Row) (plan : Plan) (k : ℕ) (old new : List ℕ) (graph : List Row)
    : Type 0 where
  pub cases : List Case
  pub as_many : length cases ≡ k
  pub each : (j : ℕ) (case : Case) → slice_get cases j ≡ Some case → IsExpectedAt base plan j case
  pub read_back : HaveWords (queries_in plan) → AreReadBack cases
  pub added : new ≡ old ++ flat_map case_line cases
  pub next : IsAt base plan k graph
