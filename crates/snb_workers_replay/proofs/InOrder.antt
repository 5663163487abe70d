-- In the order of their numbers, each insert of a closed plan is welcome: as after the history in which the operations of smaller number have
-- finished in turn.
use Rattle.std.proofs.Common.{◌≡◌, ◌∷◌, ◌++◌, ◌∙◌, ℕ, zero, suc, ◌<◌, ◌≤◌, List, [], length, true, false, inl, inr, refl, sym, ap, subst, arith}
use Rattle.std.specs.Prelude.{◌==◌}
use Rattle.std.proofs.lemmas.Bool.{cases_lt, cases_order, eq-eqb}
use Rattle.std.proofs.lemmas.List.{get_or_past}
use Rattle.std.proofs.lemmas.List.Folds.{list_any-append}
use Rattle.snb_history.specs.declared.event.Event.TheVariants.{Finish}
use Rattle.snb_schema.specs.declared.row.Row.{Row}
use Rattle.snb_history.specs.History.{finished, finishes}
use Rattle.snb_history.specs.Schedule.{Schedule, no_step, step_of}
use Rattle.snb_graph_model.specs.Graphs.{HasGained, HoldsKey}
use Rattle.snb_plan.specs.Plans.{Plan, schedule_of}
use Rattle.snb_plan.proofs.Laws.{closed_plan_is_timely}
use Rattle.snb_inserts.specs.Applying.{IsWelcome}
use Rattle.snb_workers_replay.specs.Laws.{IsReplayed, WelcomeInOrder}
use Rattle.snb_workers_replay.specs.Replay.{IsAfter}
use Rattle.snb_workers_replay.proofs.Laws.{in_turn, rows_in_turn}
use Rattle.snb_workers_replay.proofs.Updates.{step_at, update_at}
use Rattle.snb_workers_replay.proofs.Welcome.{IsOpen, welcome_here}

-- and exactly the operations of smaller number are finished
pub finished_below : (k j : ℕ) → j < k → finished (in_turn k) j ≡ true
finished_below zero j lt = absurd (omega (arith, lt))
finished_below (suc k) j lt =
    let a = list_any-append (finishes j) (in_turn k) (Finish k 0 0 0 ∷ []) in
    elim (cases_order j k) [
      | inl here ↦ (let e : (k == j) ≡ true = eq-eqb k j (sym here) in grind arith)
      | inr differ ↦ elim differ [
        | inl lower ↦ (let rest = finished_below k j lower in grind arith)
        | inr higher ↦ absurd (omega (arith, lt, higher))
      ]
    ]

pub finished_from : (k j : ℕ) → k ≤ j → finished (in_turn k) j ≡ false
finished_from zero j le = refl
finished_from (suc k) j le =
    let a = list_any-append (finishes j) (in_turn k) (Finish k 0 0 0 ∷ []) in
    let rest = finished_from k j (omega (arith, le)) in
    grind arith

-- past the last operation there is no dependency
dependency_within : (s : Schedule) (j : ℕ) → (step_of s j).dependency ≡ true → j < length s.steps
dependency_within s j d = elim (cases_lt j (length s.steps)) [
  | inl within ↦ within
  | inr past ↦ (let e : step_of s j ≡ no_step = get_or_past s.steps j no_step past in let none = ap (λ x. x.dependency) e in absurd cc)
]

-- after this history the operation of the number is as one that somebody has in hand
is_open : (base : List Row) (plan : Plan) (k : ℕ) → IsReplayed base plan → k < length (schedule_of plan).steps → IsOpen (schedule_of plan) (in_turn k) k
is_open base plan k r within =
    let timely = closed_plan_is_timely (HoldsKey base) plan r.of_streams r.closed in
    record {
      unfinished = finished_from k k (omega arith);
      cleared = λ waits j dependency before.
          elim (cases_lt j k) [
            | inl lower ↦ finished_below k j lower
            | inr later ↦ (
                let below = timely.below k waits in
                let t = timely.numbered k j later (dependency_within (schedule_of plan) j dependency) in
                absurd (omega (arith, below, t, before)))
          ];
      turn = λ forum j lt lane. finished_below k j lt;
    }

pub welcome_in_order : WelcomeInOrder
welcome_in_order base plan k op graph r inserts before =
    let after : IsAfter base plan (in_turn k) graph = subst (λ (rows : List Row). HasGained base rows graph) (sym (rows_in_turn plan k)) before in
    let found = update_at r.of_streams.is_plan k op inserts in
    let own = step_at r.of_streams.is_plan k found.0 found.1 in
    subst (IsWelcome graph) found.2 (welcome_here r after found.1 (is_open base plan k r own.within))
