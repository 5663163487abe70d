-- The steps of a closed plan are closed_plan_is_timely, and so no legal history of it is stuck.
use Rattle.std.proofs.Common.{◌≡◌, ◌∙◌, ℕ, ◌+◌, ◌<◌, ◌≤◌, ◌⊎◌, ◌∷◌, ◌++◌, get_or, length, take, drop, true, false, Option, Some, inl, inr, refl, sym, ap, subst, arith}
use Rattle.std.specs.Prelude.{slice_get}
use Rattle.std.specs.List.{cons_option, filter_map}
use Rattle.std.proofs.lemmas.Bool.{cases_lt}
use Rattle.std.proofs.lemmas.List.{get_or-map, get_or_past, length-map}
use Rattle.std.proofs.lemmas.List.Elements.{filter_map-append}
use Rattle.std.proofs.lemmas.Option.{get_or_from_slice_get, slice_get_within}
use Rattle.snb_ratio.specs.Ratios.{due_of}
use Rattle.snb_schema.specs.declared.key.Key.{Key}
use Rattle.snb_history.specs.declared.step.Step.{Step}
use Rattle.snb_schema.specs.Awaiting.{waits}
use Rattle.snb_schema.specs.Frequencies.{FrequencyTable}
use Rattle.snb_schema.specs.LineLanes.{LineLanes}
use Rattle.snb_schema.specs.QueryLists.{QueryLists}
use Rattle.snb_history.specs.Schedule.{ComesBefore, no_step, step_of}
use Rattle.snb_history.proofs.Laws.{never_stuck, t_rises}
use Rattle.snb_plan.specs.Closed.{IsClosed, Update}
use Rattle.snb_plan.specs.PlanLaws.{ClosedPlanIsNotStuck, ClosedPlanIsTimely}
use Rattle.snb_plan.specs.Plans.{IsPlan, IsRead, IsUpdate, Operation, Plan, first_t, schedule_of, update_from, updates_in}
use Rattle.snb_plan.specs.Merging.{PlacedLine, file_of}
use Rattle.snb_plan.proofs.Planned.{due_rises}
use Rattle.snb_base.proofs.Laws.{some_got, split_at}

-- the step of an operation
pub step_here : (plan : Plan) (k : ℕ) (o : Operation) → slice_get plan.operations k ≡ Some o → step_of (schedule_of plan) k ≡ o.step
step_here plan k o e =
    get_or-map (λ (x : Operation). x.step) plan.operations k o no_step (slice_get_within plan.operations k o e)
    ∙ ap (λ (x : Operation). x.step) (get_or_from_slice_get plan.operations k o o e)

-- and how many there are
step_count : (plan : Plan) → length (schedule_of plan).steps ≡ length plan.operations
step_count plan = length-map plan.operations (λ (o : Operation). o.step)

abbrev update_of : Operation → Option Update
update_of o = update_from o.step o.work o.source

-- an operation's update stands among the updates
splits_there : (plan : Plan) (k : ℕ) (o : Operation) (u : Update) → slice_get plan.operations k ≡ Some o → update_of o ≡ Some u →
    filter_map update_of (take k plan.operations) ++ u ∷ filter_map update_of (drop (k + 1) plan.operations) ≡ updates_in plan
splits_there plan k o u e q =
    ap (λ (x : Option Update). filter_map update_of (take k plan.operations) ++ cons_option x (filter_map update_of (drop (k + 1) plan.operations))) (sym q)
    ∙ (sym (filter_map-append update_of (take k plan.operations) (o ∷ drop (k + 1) plan.operations)) ∙ ap (filter_map update_of) (split_at plan.operations k o e))

module _ {lanes : LineLanes} {lists : QueryLists} {frequencies : FrequencyTable} {ratio : ℕ} {plan : Plan} (is_plan : IsPlan lanes lists frequencies ratio plan) where
  -- an operation is an update or a read
  kind_of : (k : ℕ) (o : Operation) → slice_get plan.operations k ≡ Some o →
      IsUpdate lanes ratio (first_t plan.operations) is_plan.updates o ⊎ IsRead lanes lists ratio (first_t plan.operations) is_plan.updates is_plan.reads o
  kind_of k o e = (is_plan.numbered.those o).0 (k, slice_get_within plan.operations k o e, get_or_from_slice_get plan.operations k o o e)

  -- the due time of either is that of its t
  due_is : (k : ℕ) (o : Operation) → slice_get plan.operations k ≡ Some o → o.step.due ≡ due_of ratio (first_t plan.operations) o.step.t
  due_is k o e = elim (kind_of k o e) [
    | inl update ↦ subst (λ (x : Operation). x.step.due ≡ due_of ratio (first_t plan.operations) x.step.t) (sym update.2) refl
    | inr read ↦ subst (λ (x : Operation). x.step.due ≡ due_of ratio (first_t plan.operations) x.step.t) (sym read.is) refl
  ]

  -- the one operation's t is no later than the other's
  t_here : (j k : ℕ) (one other : Operation) → j ≤ k → slice_get plan.operations j ≡ Some one → slice_get plan.operations k ≡ Some other → one.step.t ≤ other.step.t
  t_here j k one other le here there = elim (cases_lt j k) [
    | inl lt ↦ (
        let a : get_or plan.operations j one ≡ one = get_or_from_slice_get plan.operations j one one here in
        let b : get_or plan.operations k one ≡ other = get_or_from_slice_get plan.operations k other one there in
        t_rises one.step other.step
        (subst (λ (x : Operation). ComesBefore x.step other.step) a
        (subst (λ (x : Operation). ComesBefore (get_or plan.operations j one).step x.step) b
        (is_plan.numbered.ordered j k one lt (slice_get_within plan.operations k other there)))))
    | inr ge ↦ (
        let e : j ≡ k = omega (arith, le, ge) in
        let o : Some one ≡ Some other = sym here ∙ (ap (slice_get plan.operations) e ∙ there) in
        let same : one.step.t ≡ other.step.t = cc in
        omega (arith, same))
  ]

  -- a dependent is an update that waits, whose line's t_d is below its t
  timely_here : (holds : Key → Type 0) (k : ℕ) (o : Operation) → IsClosed holds (updates_in plan) → slice_get plan.operations k ≡ Some o → o.step.dependent ≡ true → o.step.t_d < o.step.t
  timely_here holds k o closed e q = elim (kind_of k o e) [
    | inl update ↦ (
        let p : PlacedLine = update.0 in
        let u : Update = record { lane = p.lane; file = file_of lanes p.lane; line = p.line } in
        let is : update_of o ≡ Some u = ap update_of update.2 in
        let step = ap (λ (x : Operation). x.step) update.2 in
        let waiting : waits p.line.op ≡ true = sym (ap (λ (s : Step). s.dependent) step) ∙ q in
        let lt : p.line.t_d < p.line.t = (closed.each _ u _ (splits_there plan k o u e is)).timely waiting in
        let t_d : o.step.t_d ≡ p.line.t_d = ap (λ (s : Step). s.t_d) step in
        let t : o.step.t ≡ p.line.t = ap (λ (s : Step). s.t) step in
        omega (arith, t_d, t, lt))
    | inr read ↦ absurd (let none : o.step.dependent ≡ false = ap (λ (x : Operation). x.step.dependent) read.is in cc)
  ]

-- the steps of a closed plan rise by t and by due time, and each dependent needs only what lies before it
pub closed_plan_is_timely : (holds : Key → Type 0) → ClosedPlanIsTimely holds
closed_plan_is_timely holds plan streams closed = record {
  numbered = λ j k le within. let a = at j (omega (arith, le, within)) in let b = at k within in
      let t = t_here streams.is_plan j k a.0 b.0 le a.1 b.1 in
      omega (arith, t, t_at j a.0 a.1, t_at k b.0 b.1);
  due_rises = λ j k le within. let a = at j (omega (arith, le, within)) in let b = at k within in
      let t = t_here streams.is_plan j k a.0 b.0 le a.1 b.1 in
      let due = due_rises streams.ratio (first_t plan.operations) a.0.step.t b.0.step.t t in
      omega (arith, due, due_at j a.0 a.1, due_at k b.0 b.1, due_is streams.is_plan j a.0 a.1, due_is streams.is_plan k b.0 b.1);
  below = below;
}
  where
    at : (k : ℕ) → k < length (schedule_of plan).steps → (o : Operation) × (slice_get plan.operations k ≡ Some o)
    at k within = some_got plan.operations k (let size = step_count plan in omega (arith, within, size))

    t_at : (k : ℕ) (o : Operation) → slice_get plan.operations k ≡ Some o → (step_of (schedule_of plan) k).t ≡ o.step.t
    t_at k o here = ap (λ (s : Step). s.t) (step_here plan k o here)

    due_at : (k : ℕ) (o : Operation) → slice_get plan.operations k ≡ Some o → (step_of (schedule_of plan) k).due ≡ o.step.due
    due_at k o here = ap (λ (s : Step). s.due) (step_here plan k o here)

    below : (k : ℕ) → (step_of (schedule_of plan) k).dependent ≡ true → (step_of (schedule_of plan) k).t_d < (step_of (schedule_of plan) k).t
    below k q = elim (cases_lt k (length (schedule_of plan).steps)) [
      | inl within ↦ (
          let o = at k within in
          let step : step_of (schedule_of plan) k ≡ o.0.step = step_here plan k o.0 o.1 in
          let lt : o.0.step.t_d < o.0.step.t = timely_here streams.is_plan holds k o.0 closed o.1 (sym (ap (λ (s : Step). s.dependent) step) ∙ q) in
          omega (arith, ap (λ (s : Step). s.t_d) step, ap (λ (s : Step). s.t) step, lt))
      | inr past ↦ absurd (
          let none : step_of (schedule_of plan) k ≡ no_step = get_or_past (schedule_of plan).steps k no_step past in
          let free : (step_of (schedule_of plan) k).dependent ≡ false = ap (λ (s : Step). s.dependent) none in
          cc)
    ]

pub not_stuck : (holds : Key → Type 0) → ClosedPlanIsNotStuck holds
not_stuck holds plan workers h streams closed legal idle running k within fresh =
    let next = never_stuck (schedule_of plan) workers h (closed_plan_is_timely holds plan streams closed) legal idle running k within fresh in
    (next.0, record { there = next.1; fresh = next.2; earliest = next.3; starts = next.4 })
