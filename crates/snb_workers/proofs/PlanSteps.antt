-- Facts on the steps of a plan: a read's is that of a query, and an insert's isn't.
use Rattle.std.proofs.Common.{◌≡◌, ◌∙◌, ℕ, ◌⊎◌, true, false, Some, inl, inr, ap}
use Rattle.std.specs.Prelude.{slice_get}
use Rattle.std.proofs.lemmas.Option.{get_or_from_slice_get, slice_get_within}
use Rattle.snb_schema.specs.declared.op.Line.{Line}
use Rattle.snb_schema.specs.declared.query.Query.{Query}
use Rattle.snb_history.specs.declared.step.Step.{Step}
use Rattle.snb_schema.specs.Frequencies.{FrequencyTable}
use Rattle.snb_schema.specs.LineLanes.{LineLanes}
use Rattle.snb_schema.specs.QueryLists.{QueryLists}
use Rattle.snb_history.specs.Schedule.{step_of}
use Rattle.snb_plan.specs.Plans.{AskWork, InsertWork, IsOfStreams, IsPlan, IsRead, IsUpdate, Operation, Plan, first_t, schedule_of}
use Rattle.snb_plan.proofs.Laws.{step_here}

module _ {lanes : LineLanes} {lists : QueryLists} {frequencies : FrequencyTable} {ratio : ℕ} {plan : Plan} (is_plan : IsPlan lanes lists frequencies ratio plan) where
  -- an operation is an update or a read
  kind_of : (k : ℕ) (o : Operation) → slice_get plan.operations k ≡ Some o →
      IsUpdate lanes ratio (first_t plan.operations) is_plan.updates o ⊎ IsRead lanes lists ratio (first_t plan.operations) is_plan.updates is_plan.reads o
  kind_of k o e = (is_plan.numbered.those o).0 (k, slice_get_within plan.operations k o e, get_or_from_slice_get plan.operations k o o e)

  -- the step of what is inserted isn't a query's
  insert_step : (k : ℕ) (o : Operation) (line : Line) → slice_get plan.operations k ≡ Some o → o.work ≡ InsertWork line → o.step.query ≡ false
  insert_step k o line e q = elim (kind_of k o e) [
    | inl update ↦ ap (λ (x : Operation). x.step.query) update.2
    | inr read ↦ absurd (let asks : o.work ≡ AskWork read.query = ap (λ (x : Operation). x.work) read.is in cc)
  ]

  -- and that of what is asked is
  ask_step : (k : ℕ) (o : Operation) (query : Query) → slice_get plan.operations k ≡ Some o → o.work ≡ AskWork query → o.step.query ≡ true
  ask_step k o query e q = elim (kind_of k o e) [
    | inl update ↦ absurd (let inserts : o.work ≡ InsertWork update.0.line = ap (λ (x : Operation). x.work) update.2 in cc)
    | inr read ↦ ap (λ (x : Operation). x.step.query) read.is
  ]

pub insert_is_no_query : (plan : Plan) (k : ℕ) (o : Operation) (line : Line) → IsOfStreams plan → slice_get plan.operations k ≡ Some o → o.work ≡ InsertWork line → (step_of (schedule_of plan) k).query ≡ false
insert_is_no_query plan k o line streams e q = ap (λ (s : Step). s.query) (step_here plan k o e) ∙ insert_step streams.is_plan k o line e q

pub ask_is_query : (plan : Plan) (k : ℕ) (o : Operation) (query : Query) → IsOfStreams plan → slice_get plan.operations k ≡ Some o → o.work ≡ AskWork query → (step_of (schedule_of plan) k).query ≡ true
ask_is_query plan k o query streams e q = ap (λ (s : Step). s.query) (step_here plan k o e) ∙ ask_step streams.is_plan k o query e q
