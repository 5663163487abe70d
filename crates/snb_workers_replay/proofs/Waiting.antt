-- A legal history of a plan waits as the lines of its streams say.
use Rattle.std.proofs.Common.{◌≡◌, ◌∙◌, ℕ, ◌⊎◌, inl, inr, sym, ap, subst, arith}
use Rattle.std.specs.Prelude.{◌<ℤ◌, pos}
use Rattle.snb_history.specs.declared.event.Event.TheVariants.{Start}
use Rattle.snb_schema.specs.declared.op.Line.{Line}
use Rattle.snb_schema.specs.Awaiting.{adds_awaited, waits}
use Rattle.snb_history.specs.Completion.{completion}
use Rattle.snb_history.specs.Laws.{CompletionWaits}
use Rattle.snb_history.specs.Rules.{Fits, V5}
use Rattle.snb_history.specs.Schedule.{is_dependency, step_of}
use Rattle.snb_plan.specs.Plans.{InsertWork, IsOfStreams, IsRead, IsUpdate, Operation, Plan, first_t, schedule_of}
use Rattle.snb_workers_replay.specs.Waiting.{IsInsertOf, RunsWait, StaysBelow, WaitsForAll}
use Rattle.snb_workers_replay.proofs.Updates.{step_planned}
use Rattle.snb_base.proofs.Laws.{at_contains}

-- what the scheduler sees of an insert is what its line says
record IsSeen (plan : Plan) (k : ℕ) (line : Line) : Type 0 where
  t : (step_of (schedule_of plan) k).t ≡ line.t
  t_d : (step_of (schedule_of plan) k).t_d ≡ line.t_d
  dependency : is_dependency (schedule_of plan) k ≡ adds_awaited line.op
  dependent : (step_of (schedule_of plan) k).dependent ≡ waits line.op

is_seen : (plan : Plan) (k : ℕ) (line : Line) → IsOfStreams plan → IsInsertOf plan k line → IsSeen plan k line
is_seen plan k line of (o, here, does) = by ((of.is_plan.numbered.those o).0 (at_contains plan.operations k o here))
  where
    by : IsUpdate of.lanes of.ratio (first_t plan.operations) of.is_plan.updates o ⊎ IsRead of.lanes of.lists of.ratio (first_t plan.operations) of.is_plan.updates of.is_plan.reads o → IsSeen plan k line
    by (inl (p, c, same)) =
        let both : InsertWork p.line ≡ InsertWork line = sym (ap (λ (x : Operation). x.work) same) ∙ does in
        let line_same : p.line ≡ line = cc in
        let step = step_planned of.is_plan k o p here ((of.is_plan.are_updates.those p).0 c) same in
        subst (IsSeen plan k) line_same (record { t = step.t; t_d = step.t_d; dependency = step.dependency; dependent = step.dependent })
    by (inr r) = absurd (let both = sym (ap (λ (x : Operation). x.work) r.is) ∙ does in cc)

pub runs_wait : CompletionWaits → RunsWait
runs_wait below plan workers h of legal = (waits_for_all, stays_below)
  where
    waits_for_all : WaitsForAll plan h
    waits_for_all g k worker at rest line j awaited splits here waiting there adds le =
        let own = is_seen plan k line of here in
        let other = is_seen plan j awaited of there in
        let fits : Fits (schedule_of plan) workers g (Start k worker at) = legal.fits g (Start k worker at) rest splits in
        let t = other.t in
        let t_d = own.t_d in
        fits.obeys V5 (own.dependent ∙ waiting) j (other.dependency ∙ adds) (omega (arith, t, t_d, le))

    stays_below : StaysBelow plan h
    stays_below g rest j awaited splits there adds unfinished =
        let other = is_seen plan j awaited of there in
        subst (λ (t : ℕ). completion (schedule_of plan) g <ℤ pos t) other.t (below (schedule_of plan) g j (other.dependency ∙ adds) unfinished)
