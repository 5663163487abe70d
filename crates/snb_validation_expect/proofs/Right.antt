-- On the graph before it, the insert of each case is welcome, and the reply of each is its query's.
use Rattle.std.proofs.Common.{◌≡◌, ◌∷◌, ◌++◌, ℕ, List, length, Option, Some, ap, subst, sym, inl, inr}
use Rattle.std.specs.Prelude.{slice_get}
use Rattle.snb_schema.specs.declared.file.FileId.{FileId}
use Rattle.snb_schema.specs.declared.query.Query.{Query}
use Rattle.snb_schema.specs.declared.refusal.Refusal.{Refusal}
use Rattle.snb_schema.specs.declared.row.Row.{Row}
use Rattle.snb_history.specs.declared.step.Step.{Step}
use Rattle.snb_schema.specs.References.{refs_of}
use Rattle.snb_graph_model.specs.Graphs.{HasGained}
use Rattle.snb_plan.specs.declared.plan.Source.{Source}
use Rattle.snb_plan.specs.Plans.{Plan, Work}
use Rattle.snb_plan.specs.Plans as plans
use Rattle.snb_inserts.specs.Applying.{IsWelcome}
use Rattle.snb_read_model.specs.Cells.{ByteCell}
use Rattle.snb_read_model.specs.Replies.{IsReply}
use Rattle.snb_workers_replay.specs.Laws.{IsReplayed, WelcomeInOrder}
use Rattle.snb_workers_replay.specs.Replay.{IsGraphBefore, insert_in}
use Rattle.snb_validation_cases.specs.declared.case.Case.{Case}
use Rattle.snb_validation_cases.specs.declared.case.Case.TheVariants.{Ask}
use Rattle.snb_validation_cases.specs.declared.case.CaseAt.{CaseAt}
use Rattle.snb_validation_model.specs.CasesFile.{IsCaseRefused, IsRefusedAfter}
use Rattle.snb_validation_model.specs.Checks.{AreRight, IsAfterCases, ask_at}
use Rattle.snb_validation_model.specs.Expected.{AreExpected, IsCaseOf, IsExpectedAt}
use Rattle.snb_validation_expect.proofs.InTurn.{IsOfWork, case_at, inserted_before, of_work, operation}
use Rattle.snb_validation_expect.proofs.OwnLines.{placed}
use Rattle.snb_inserts.proofs.Laws.{none_first}

-- the insert of an operation is welcome
abbrev IsWelcomeWork : List Row → Work → Type 0
IsWelcomeWork graph (plans.InsertWork line) = IsWelcome graph line.op
IsWelcomeWork graph (plans.AskWork query) = Unit {0}

-- ---- inserts

-- a case is refused for nothing, where an insert is welcome
fine : (graph : List Row) (file : FileId) (n : ℕ) (w : Work) (c : Case) (r : Refusal) → IsOfWork w c → IsWelcomeWork graph w → ¬ IsCaseRefused graph file (record { line = n; case = c }) r
fine graph file n (plans.InsertWork line) c r is welcome bad =
    elim (subst (λ (d : Case). IsCaseRefused graph file (record { line = n; case = d }) r) is bad) [
      | inl unmet ↦ none_first graph (refs_of line.op) unmet.0 welcome.0 unmet.1
      | inr taken ↦ welcome.1 taken.0.1
    ]
fine graph file n (plans.AskWork query) c r is welcome bad =
    elim (subst (λ (d : Case). IsCaseRefused graph file (record { line = n; case = d }) r) is.1 bad) [
      | inl unmet ↦ unmet.1
      | inr taken ↦ taken.0
    ]

module _ (base : List Row) (plan : Plan) (cases : List Case) (e : AreExpected base plan cases) (before rest : List CaseAt) (x : CaseAt) (splits : before ++ x ∷ rest ≡ placed 2 cases) where
  -- a graph with what the cases before it insert is one before the operation of its number
  is_before : (graph : List Row) → IsAfterCases base before graph → IsGraphBefore base plan (length before) graph
  is_before graph after = subst (λ (more : List Row). HasGained base more graph) (inserted_before base plan cases before rest x e splits) after

  -- what the case is expected to be
  expected : IsExpectedAt base plan (length before) x.case
  expected = e.each (length before) x.case (case_at cases 2 before rest x splits)

  -- where each insert is welcome in turn, the case isn't refused
  pub not_refused : WelcomeInOrder → IsReplayed base plan → (file : FileId) (r : Refusal) → ¬ IsRefusedAfter base before file x r
  not_refused order replayed file r bad =
      fine bad.graph file x.line expected.operation.work x.case r (of_work expected.graph expected.operation.work x.case expected.is)
      (welcome_of expected.operation.step expected.operation.work expected.operation.source expected.there) bad.refused
    where
      welcome_of : (step : Step) (w : Work) (source : Option Source) → slice_get plan.operations (length before) ≡ Some (operation step w source) → IsWelcomeWork bad.graph w
      welcome_of step (plans.InsertWork line) source there = order base plan (length before) line.op bad.graph replayed (ap insert_in there) (is_before bad.graph bad.after)
      welcome_of step (plans.AskWork query) source there = tt

-- ---- replies

-- the reply that a case has is the query's on the graph of its operation
asked : (graph : List Row) (w : Work) (query : Query) (reply : List (List (List ByteCell))) → IsCaseOf graph w (Ask query reply) → IsReply graph query reply
asked graph (plans.InsertWork line) query reply is = absurd cc
asked graph (plans.AskWork other) query reply is =
    let e = is.2 in
    let queries : other ≡ query = cc in
    let replies : is.0 ≡ reply = cc in
    subst (λ (q : Query). IsReply graph q reply) queries (subst (λ (s : List (List (List ByteCell))). IsReply graph other s) replies is.1)

-- each reply is right
pub replies_right : (base : List Row) (plan : Plan) (cases : List Case) → AreExpected base plan cases → AreRight base (placed 2 cases)
replies_right base plan cases e before rest line query reply splits =
    let x = expected base plan cases e before rest (ask_at line query reply) splits in
    let inserts = inserted_before base plan cases before rest (ask_at line query reply) e splits in (
      x.graph,
      subst (λ (more : List Row). HasGained base more x.graph) (sym inserts) x.before,
      asked x.graph x.operation.work query reply x.is,
    )
