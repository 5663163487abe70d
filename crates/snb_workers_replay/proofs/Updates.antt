-- The updates of a plan by the numbers of their operations.
use Rattle.std.proofs.Common.{◌≡◌, ◌∙◌, ℕ, ◌+◌, ◌<◌, ◌⊎◌, List, length, take, drop, Option, Some, None, inl, inr, refl, sym, ap, subst, arith}
use Rattle.std.specs.Prelude.{Contains, slice_get}
use Rattle.std.specs.List.{filter_map}
use Rattle.std.proofs.lemmas.List.{length-map}
use Rattle.std.proofs.lemmas.Option.{same_Some, slice_get_within}
use Rattle.snb_schema.specs.declared.key.Key.{Key}
use Rattle.snb_schema.specs.declared.op.Op.{Op}
use Rattle.snb_history.specs.declared.step.Step.{Step}
use Rattle.snb_schema.specs.Awaiting.{adds_awaited, waits}
use Rattle.snb_schema.specs.Frequencies.{FrequencyTable}
use Rattle.snb_schema.specs.LineLanes.{LineLanes}
use Rattle.snb_schema.specs.QueryLists.{QueryLists}
use Rattle.snb_history.specs.Schedule.{IsOperation, is_dependency, step_of}
use Rattle.snb_plan.specs.declared.plan.Source.{Source}
use Rattle.snb_plan.specs.Closed.{IsClosed, IsClosedAt, Update}
use Rattle.snb_plan.specs.Plans.{AskWork, InsertWork, IsPlan, IsRead, IsUpdate, Operation, Plan, Work, first_t, schedule_of, update_from, update_operation, updates_in}
use Rattle.snb_plan.specs.Merging.{IsLineHere, PlacedLine, file_of, lane_of, numbered_lanes}
use Rattle.snb_workers_replay.specs.Replay.{insert_at, insert_in}
use Rattle.snb_workers_replay.proofs.Lists.{from_front, given_split, in_front}
use Rattle.snb_plan.proofs.Laws.{step_here}
use Rattle.snb_base.proofs.Laws.{at_contains, contains_at, given_by, gives}

-- the update that an operation is, if it is one
abbrev pub update_of : Operation → Option Update
update_of o = update_from o.step o.work o.source

-- the operation of this number is the update
pub record IsUpdateAt (plan : Plan) (k : ℕ) (u : Update) : Type 0 where
  pub it : Operation
  pub here : slice_get plan.operations k ≡ Some it
  pub is : update_of it ≡ Some u

-- the updates among the operations before a number
abbrev pub updates_before : Plan → ℕ → List Update
updates_before plan k = filter_map update_of (take k plan.operations)

-- ---- updates as they stand in the plan

pub at_some : (plan : Plan) (v : Update) → Contains (updates_in plan) v → (j : ℕ) × IsUpdateAt plan j v
at_some plan v c =
    let o = given_by update_of plan.operations v c in
    let j = contains_at plan.operations o.0 o.1 in
    (j.0, record { it = o.0; here = j.1; is = o.2 })

pub at_before : (plan : Plan) (k : ℕ) (v : Update) → Contains (updates_before plan k) v → (j : ℕ) × (j < k) × IsUpdateAt plan j v
at_before plan k v c =
    let o = given_by update_of (take k plan.operations) v c in
    let j = from_front plan.operations k o.0 o.1 in
    (j.0, j.1, record { it = o.0; here = j.2; is = o.2 })

pub before_at : (plan : Plan) (j k : ℕ) (v : Update) → IsUpdateAt plan j v → j < k → Contains (updates_before plan k) v
before_at plan j k v at lt = gives update_of (take k plan.operations) at.it v (in_front plan.operations j k at.it at.here lt) at.is

-- what closed updates say of one of them
pub closed_at : (holds : Key → Type 0) (plan : Plan) (k : ℕ) (u : Update) → IsClosed holds (updates_in plan) → IsUpdateAt plan k u → IsClosedAt holds (updates_in plan) (updates_before plan k) u
closed_at holds plan k u closed at =
    closed.each (updates_before plan k) u (filter_map update_of (drop (k + 1) plan.operations))
    (given_split update_of plan.operations k at.it u at.here at.is)

-- ---- what an update inserts

inserts_line : (step : Step) (work : Work) (source : Option Source) (u : Update) → update_from step work source ≡ Some u
    → insert_in (Some (record { step = step; work = work; source = source })) ≡ Some u.line.op
inserts_line step (InsertWork line) (Some source) u e = ap (λ (v : Update). Some v.line.op) (same_Some _ u e)
inserts_line step (InsertWork line) None u e = absurd cc
inserts_line step (AskWork query) (Some source) u e = absurd cc
inserts_line step (AskWork query) None u e = absurd cc

pub inserts_at : (plan : Plan) (k : ℕ) (u : Update) → IsUpdateAt plan k u → insert_at plan k ≡ Some u.line.op
inserts_at plan k u at = ap insert_in at.here ∙ inserts_line at.it.step at.it.work at.it.source u at.is

-- ---- the step of an update

-- the step of this number is that of the update, whose line stands in its lane
pub record IsStepAt (lanes : LineLanes) (plan : Plan) (k : ℕ) (u : Update) : Type 0 where
  pub within : IsOperation (schedule_of plan) k
  pub lane : (step_of (schedule_of plan) k).lane ≡ u.lane
  pub t : (step_of (schedule_of plan) k).t ≡ u.line.t
  pub t_d : (step_of (schedule_of plan) k).t_d ≡ u.line.t_d
  pub dependency : is_dependency (schedule_of plan) k ≡ adds_awaited u.line.op
  pub dependent : (step_of (schedule_of plan) k).dependent ≡ waits u.line.op
  pub in_lanes : u.lane < length (numbered_lanes lanes)
  pub place : ℕ
  pub line : slice_get (lane_of lanes u.lane) place ≡ Some u.line

module _ {lanes : LineLanes} {lists : QueryLists} {frequencies : FrequencyTable} {ratio : ℕ} {plan : Plan} (is_plan : IsPlan lanes lists frequencies ratio plan) where
  -- the operation is one of the plan's updates, or one of its reads
  abbrev IsUpdateHere : Operation → Type 0
  IsUpdateHere o = IsUpdate lanes ratio (first_t plan.operations) is_plan.updates o

  abbrev IsReadHere : Operation → Type 0
  IsReadHere o = IsRead lanes lists ratio (first_t plan.operations) is_plan.updates is_plan.reads o

  -- the update of a line
  abbrev of_line : PlacedLine → Update
  of_line p = record { lane = p.lane; file = file_of lanes p.lane; line = p.line }

  -- and its operation
  abbrev as_planned : PlacedLine → Operation
  as_planned p = update_operation lanes ratio (first_t plan.operations) p

  -- what is inserted is an update
  pub update_at : (k : ℕ) (op : Op) → insert_at plan k ≡ Some op → (u : Update) × IsUpdateAt plan k u × (u.line.op ≡ op)
  update_at k op e = by (slice_get plan.operations k) refl e
    where
      by_kind : (o : Operation) → slice_get plan.operations k ≡ Some o → insert_in (Some o) ≡ Some op → IsUpdateHere o ⊎ IsReadHere o → (u : Update) × IsUpdateAt plan k u × (u.line.op ≡ op)
      by_kind o here q (inl (p, c, same)) =
          (of_line p, record { it = o; here = here; is = ap update_of same }, same_Some p.line.op op (sym (ap (λ (x : Operation). insert_in (Some x)) same) ∙ q))
      by_kind o here q (inr r) = absurd (let none = ap (λ (x : Operation). insert_in (Some x)) r.is in let both = sym none ∙ q in cc)

      by : (o : Option Operation) → slice_get plan.operations k ≡ o → insert_in o ≡ Some op → (u : Update) × IsUpdateAt plan k u × (u.line.op ≡ op)
      by None here q = absurd cc
      by (Some o) here q = by_kind o here q ((is_plan.numbered.those o).0 (at_contains plan.operations k o here))

  -- the step of a line that is planned
  pub step_planned : (k : ℕ) (o : Operation) (p : PlacedLine) → slice_get plan.operations k ≡ Some o → IsLineHere lanes p → o ≡ as_planned p → IsStepAt lanes plan k (of_line p)
  step_planned k o p here of same =
      let step : step_of (schedule_of plan) k ≡ (as_planned p).step = step_here plan k o here ∙ ap (λ (x : Operation). x.step) same in
      let within = slice_get_within plan.operations k o here in
      record {
        within = omega (arith, within, length-map plan.operations (λ (x : Operation). x.step));
        lane = ap (λ (s : Step). s.lane) step;
        t = ap (λ (s : Step). s.t) step;
        t_d = ap (λ (s : Step). s.t_d) step;
        dependency = ap (λ (s : Step). s.dependency) step;
        dependent = ap (λ (s : Step). s.dependent) step;
        in_lanes = of.in_lanes;
        place = p.place;
        line = of.here;
      }

  -- the step at an update is the update's
  pub step_at : (k : ℕ) (u : Update) → IsUpdateAt plan k u → IsStepAt lanes plan k u
  step_at k u at = by ((is_plan.numbered.those at.it).0 (at_contains plan.operations k at.it at.here))
    where
      by : IsUpdateHere at.it ⊎ IsReadHere at.it → IsStepAt lanes plan k u
      by (inl (p, c, same)) =
          subst (IsStepAt lanes plan k) (same_Some (of_line p) u (sym (ap update_of same) ∙ at.is))
          (step_planned k at.it p at.here ((is_plan.are_updates.those p).0 c) same)
      by (inr r) = absurd (let none = ap update_of r.is in let both = sym none ∙ at.is in cc)
