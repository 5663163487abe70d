-- After a legal, complete history the inserts that are finished are all of the plan.
use Rattle.std.proofs.Common.{◌≡◌, ◌∷◌, ◌++◌, ◌∙◌, ℕ, suc, ◌+◌, ◌<◌, List, [], length, cond, Bool, true, false, Option, Some, None, inl, inr, refl, sym, ap, subst, arith}
use Rattle.std.specs.Prelude.{◌==◌, slice_get}
use Rattle.std.specs.List.{cons_option, count_by, filter_map, flat_map}
use Rattle.std.specs.List.Sorted.{IsPermutation}
use Rattle.std.proofs.lemmas.Bool.{cases_Bool, cases_lt, eqb-true}
use Rattle.std.proofs.lemmas.List.{length-map}
use Rattle.std.proofs.lemmas.List.Sums.{sum_by-cons}
use Rattle.std.proofs.lemmas.List.Sorted.{IsPermutation-append_right, IsPermutation-trans}
use Rattle.snb_history.specs.declared.event.Event.{Event}
use Rattle.snb_history.specs.declared.event.Event.TheVariants.{Start, Finish, Halt}
use Rattle.snb_schema.specs.declared.op.Op.{Op}
use Rattle.snb_schema.specs.declared.row.Row.{Row}
use Rattle.snb_history.specs.History.{finished, finishes}
use Rattle.snb_schema.specs.Inserts.{rows_of}
use Rattle.snb_history.specs.Laws.{OnceEach}
use Rattle.snb_history.specs.Rules.{IsComplete, IsLegal, V1}
use Rattle.snb_history.specs.Schedule.{IsOperation, Schedule}
use Rattle.snb_plan.specs.Plans.{Operation, Plan, schedule_of}
use Rattle.snb_workers_replay.specs.Laws.{CompleteIsFinal}
use Rattle.snb_workers_replay.specs.Replay.{all_rows, insert_at, insert_in, inserts_in, rows_in}
use Rattle.snb_workers_replay.proofs.Times.{above_none, from, moved, times, within_once}
use Rattle.snb_base.proofs.Laws.{contains_at, from_any, split_at}

-- ---- rows by the numbers of operations

abbrev rows_if : Option Op → List Row
rows_if None = []
rows_if (Some op) = rows_of op

abbrev rows_at : List Operation → ℕ → List Row
rows_at operations k = rows_if (insert_in (slice_get operations k))

rows_more : (o : Option Op) (rest : List Op) → flat_map rows_of (cons_option o rest) ≡ rows_if o ++ flat_map rows_of rest
rows_more None rest = refl
rows_more (Some op) rest = refl

-- the rows of all inserts
rows_from : (operations : List Operation) (f : ℕ → List Row) (i : ℕ) → ((k : ℕ) → f (i + k) ≡ rows_at operations k)
    → flat_map f (from i (length operations)) ≡ flat_map rows_of (filter_map (λ (o : Operation). insert_in (Some o)) operations)
rows_from [] f i same = refl
rows_from (o ∷ rest) f i same =
    let first : f i ≡ rows_if (insert_in (Some o)) = (let e : i ≡ i + 0 = omega arith in ap f e ∙ same 0) in
    let later = rows_from rest f (suc i) (λ k. let e : suc i + k ≡ i + suc k = omega arith in ap f e ∙ same (suc k)) in
    ap (λ (l : List Row). l ++ flat_map f (from (suc i) (length rest))) first
    ∙ (ap (λ (l : List Row). rows_if (insert_in (Some o)) ++ l) later ∙ sym (rows_more (insert_in (Some o)) (filter_map (λ (x : Operation). insert_in (Some x)) rest)))

all_from : (plan : Plan) → flat_map (rows_at plan.operations) (from 0 (length plan.operations)) ≡ all_rows plan
all_from plan = rows_from plan.operations (rows_at plan.operations) 0 (λ k. let e : 0 + k ≡ k = omega arith in ap (rows_at plan.operations) e)

-- ---- the numbers of what is finished, in order

abbrev finish_of : Event → Option ℕ
finish_of (Start op worker at) = None
finish_of (Finish op worker at front) = Some op
finish_of (Halt worker) = None

abbrev numbers : List Event → List ℕ
numbers h = filter_map finish_of h

rows_numbers : (plan : Plan) (h : List Event) → rows_in plan h ≡ flat_map (rows_at plan.operations) (numbers h)
rows_numbers plan [] = refl
rows_numbers plan (Start op worker at ∷ h) = rows_numbers plan h
rows_numbers plan (Finish op worker at front ∷ h) =
    rows_more (insert_at plan op) (inserts_in plan h) ∙ ap (λ (l : List Row). rows_if (insert_at plan op) ++ l) (rows_numbers plan h)
rows_numbers plan (Halt worker ∷ h) = rows_numbers plan h

count_more : (k : ℕ) (e : Event) (h : List Event) → cond (finishes k e) 1 0 + count_by (finishes k) h ≡ count_by (finishes k) (e ∷ h)
count_more k e h = sym (sum_by-cons (λ (x : Event). cond (finishes k x) 1 0) e h)

nothing_more : (n : ℕ) → n ≡ 0 + n
nothing_more n = omega arith

times-count : (k : ℕ) (h : List Event) → times k (numbers h) ≡ count_by (finishes k) h
times-count k [] = refl
times-count k (Start op worker at ∷ h) = times-count k h ∙ (nothing_more (count_by (finishes k) h) ∙ count_more k (Start op worker at) h)
times-count k (Finish op worker at front ∷ h) =
    by (op == k) ∙ (ap (λ (n : ℕ). cond (op == k) 1 0 + n) (times-count k h) ∙ count_more k (Finish op worker at front) h)
  where
    by : (b : Bool) → cond b (suc (times k (numbers h))) (times k (numbers h)) ≡ cond b 1 0 + times k (numbers h)
    by true = omega arith
    by false = omega arith
times-count k (Halt worker ∷ h) = times-count k h ∙ (nothing_more (count_by (finishes k) h) ∙ count_more k (Halt worker) h)

times-some : (k : ℕ) (h : List Event) → finished h k ≡ true → 0 < times k (numbers h)
times-some k [] done = absurd cc
times-some k (Start op worker at ∷ h) done = times-some k h done
times-some k (Finish op worker at front ∷ h) done = elim (cases_Bool (op == k)) [
  | inl hit ↦ grind arith
  | inr miss ↦ let rest = times-some k h in grind arith
]
times-some k (Halt worker ∷ h) done = times-some k h done

times-none : (k : ℕ) (h : List Event) → finished h k ≡ false → times k (numbers h) ≡ 0
times-none k [] left = refl
times-none k (Start op worker at ∷ h) left = times-none k h left
times-none k (Finish op worker at front ∷ h) left = let rest = times-none k h in grind arith
times-none k (Halt worker ∷ h) left = times-none k h left

-- what is finished is an operation
finished_within : (s : Schedule) (workers : ℕ) (h : List Event) (k : ℕ) → IsLegal s workers h → finished h k ≡ true → IsOperation s k
finished_within s workers h k legal done =
    let w = from_any (finishes k) h done in
    let place = contains_at h w.0 w.1 in
    by_event w.0 place.0 place.1 w.2
  where
    by_event : (e : Event) (i : ℕ) → slice_get h i ≡ Some e → finishes k e ≡ true → IsOperation s k
    by_event (Start op worker at) i here hit = absurd cc
    by_event (Finish op worker at front) i here hit = subst (IsOperation s) (eqb-true op k hit) ((legal.fits _ _ _ (split_at h i (Finish op worker at front) here)).obeys V1).0
    by_event (Halt worker) i here hit = absurd cc

-- ---- a history that is legal and complete

-- each operation is finished once
each_once : OnceEach → (s : Schedule) (workers : ℕ) (h : List Event) → IsLegal s workers h → IsComplete s h → (k : ℕ) → times k (numbers h) ≡ times k (from 0 (length s.steps))
each_once once s workers h legal complete k = elim (cases_Bool (finished h k)) [
  | inl done ↦ (
      let most = (once s workers h legal k).1 in
      let same = times-count k h in
      let some = times-some k h done in
      let one : times k (numbers h) ≡ 1 = omega (arith, most, same, some) in
      one ∙ sym (within_once k 0 (length s.steps) (omega arith) (let within = finished_within s workers h k legal done in omega (arith, within))))
  | inr left ↦ elim (cases_lt k (length s.steps)) [
    | inl within ↦ absurd (let done = complete.all_finished k within in cc)
    | inr past ↦ times-none k h left ∙ sym (above_none k 0 (length s.steps) (omega (arith, past)))
  ]
]

rows_moved : (plan : Plan) (h : List Event) → ((k : ℕ) → times k (numbers h) ≡ times k (from 0 (length plan.operations))) → IsPermutation (rows_in plan h) (all_rows plan)
rows_moved plan h same =
    subst (λ (l : List Row). IsPermutation l (all_rows plan)) (sym (rows_numbers plan h))
    (subst (λ (l : List Row). IsPermutation (flat_map (rows_at plan.operations) (numbers h)) l) (all_from plan)
    (moved (rows_at plan.operations) (numbers h) (from 0 (length plan.operations)) same))

pub complete_is_final : OnceEach → CompleteIsFinal
complete_is_final once base plan workers h graph legal complete after =
    let size : length (schedule_of plan).steps ≡ length plan.operations = length-map plan.operations (λ (o : Operation). o.step) in
    let each : (k : ℕ) → times k (numbers h) ≡ times k (from 0 (length plan.operations)) =
    λ k. each_once once (schedule_of plan) workers h legal complete k ∙ ap (λ (n : ℕ). times k (from 0 n)) size in
    record {
      graph = after.graph;
      rows = IsPermutation-trans graph (base ++ rows_in plan h) (base ++ all_rows plan) after.rows
          (IsPermutation-append_right base (rows_in plan h) (all_rows plan) (rows_moved plan h each));
    }
