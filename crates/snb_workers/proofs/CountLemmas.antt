-- Facts on the counts that a log tells.
use Rattle.std.proofs.Common.{◌≡◌, ◌≢◌, ◌∙◌, ℕ, ◌+◌, ◌<◌, ◌≤◌, ◌⊎◌, List, [], ◌∷◌, length, map, take, drop, Bool, true, cond, Some, inl, inr, refl, sym, ap, subst, arith}
use Rattle.snb_base.specs.Moments.{Moments}
use Rattle.std.specs.Prelude.{◌==◌, Contains, slice_get}
use Rattle.std.specs.List.{count_by}
use Rattle.std.proofs.lemmas.Bool.{cases_Bool, eq-eqb, eqb-true}
use Rattle.std.proofs.lemmas.List.{length-map}
use Rattle.std.proofs.lemmas.List.Elements.{All-contains, All-contains_itself, All-map}
use Rattle.std.proofs.lemmas.List.Sums.{sum_by-cons}
use Rattle.std.proofs.lemmas.Option.{same_Some}
use Rattle.serde_json.specs.Written.{compact_text}
use Rattle.snb_base.proofs.Laws.{contains_cases, contains_here, contains_there, some_got, split_here}
use Rattle.snb_history.specs.declared.event.Event.{Event}
use Rattle.snb_history.specs.declared.event.Event.TheVariants.{Start, Finish, Halt}
use Rattle.snb_history.specs.declared.logged.Logged.{Logged}
use Rattle.snb_schema.specs.declared.row.Row.{Row}
use Rattle.snb_history.specs.History.{finishes}
use Rattle.snb_history.specs.Laws.{OnceEach}
use Rattle.snb_history.specs.Rules.{IsLegal, V1}
use Rattle.snb_history.specs.Schedule.{IsOperation}
use Rattle.snb_plan.specs.Plans.{AskWork, InsertWork, Operation, Plan, Work, schedule_of}
use Rattle.snb_read_laws.specs.Laws.{OneReply}
use Rattle.snb_validation.specs.ReplyData.{reply_data}
use Rattle.snb_workers_replay.specs.Replay.{IsAfter}
use Rattle.snb_answered.specs.declared.done.Answered.{Answered}
use Rattle.snb_replica.specs.Counts.{HasRightCount, IsCountOf, TellsCounts, first_rows, logged_by, logged_of, rows_by}
use Rattle.snb_workers.specs.Laws.{CountsOfARun, FinishesAreOfOperations, OneEntry}
use Rattle.snb_replica.specs.Runs.{AreReplies, Asks, ReplyIsRight}

-- ---- what passes once

-- what passes counts one
counts_one : (b : Bool) → b ≡ true → cond {A = ℕ} b 1 0 ≡ 1
counts_one b e = ap (λ (c : Bool). cond {A = ℕ} c 1 0) e

passes : {X : Type 0} (p : X → Bool) (xs : List X) (e : X) → Contains xs e → p e ≡ true → 1 ≤ count_by p xs
passes p [] e c hit = absurd (let l = c.1 in omega (arith, l))
passes p (x ∷ xs) e c hit =
    let size = sum_by-cons (λ y. cond (p y) 1 0) x xs in
    elim (contains_cases x xs e c) [
      | inl same ↦ (let here : p x ≡ true = ap p same ∙ hit in let one = counts_one (p x) here in omega (arith, size, one))
      | inr later ↦ (let rest = passes p xs e later hit in omega (arith, size, rest))
    ]

-- of what passes at most once there is one
pub passes_once : {X : Type 0} (p : X → Bool) (xs : List X) (e f : X) → count_by p xs ≤ 1 → Contains xs e → Contains xs f → p e ≡ true → p f ≡ true → e ≡ f
passes_once p [] e f once c d hit also = absurd (let l = c.1 in omega (arith, l))
passes_once p (x ∷ xs) e f once c d hit also =
    let size = sum_by-cons (λ y. cond (p y) 1 0) x xs in
    elim (contains_cases x xs e c) [
      | inl same ↦ elim (contains_cases x xs f d) [
        | inl too ↦ sym same ∙ too
        | inr later ↦ absurd (
            let here : p x ≡ true = ap p same ∙ hit in
            let one = counts_one (p x) here in
            let rest = passes p xs f later also in
            omega (arith, size, one, rest, once))
      ]
      | inr later ↦ elim (contains_cases x xs f d) [
        | inl too ↦ absurd (
            let here : p x ≡ true = ap p too ∙ also in
            let one = counts_one (p x) here in
            let rest = passes p xs e later hit in
            omega (arith, size, one, rest, once))
        | inr after ↦ passes_once p xs e f (omega (arith, size, once)) later after hit also
      ]
    ]

-- ---- the entry of an operation

-- the rows by an operation are those of an entry of it, or there is none
abbrev pub IsFound : List Answered → ℕ → Type 0
IsFound replies op =
    ((b : Answered) × Contains replies b × (b.op ≡ op) × (rows_by replies op ≡ b.rows)) ⊎ (((b : Answered) → Contains replies b → b.op ≢ op) × (rows_by replies op ≡ 0))

pub found_by : (replies : List Answered) (op : ℕ) → IsFound replies op
found_by [] op = inr (λ b c same. (let l = c.1 in omega (arith, l)), refl)
found_by (a ∷ replies) op = elim (cases_Bool (a.op == op)) [
  | inl hit ↦ inl (a, contains_here a replies, eqb-true a.op op hit, ap (λ (b : Bool). cond b a.rows (rows_by replies op)) hit)
  | inr miss ↦ (
      let past : rows_by (a ∷ replies) op ≡ rows_by replies op = ap (λ (b : Bool). cond b a.rows (rows_by replies op)) miss in
      elim (found_by replies op) [
        | inl found ↦ inl (found.0, contains_there a replies found.0 found.1, found.2, past ∙ found.3)
        | inr none ↦ inr (
          λ b c same. elim (contains_cases a replies b c) [
            | inl here ↦ (let hit : (a.op == op) ≡ true = eq-eqb a.op op (ap (λ (x : Answered). x.op) here ∙ same) in absurd cc)
            | inr later ↦ none.0 b later same
          ],
          past ∙ none.1,
        )
      ])
]

-- ---- the counts of a run

-- what is told of an event is told of that event
told_of : (replies : List Answered) (e : Event) → (logged_by replies e).event ≡ e
told_of replies (Start op worker at) = refl
told_of replies (Finish op worker at front) = refl
told_of replies (Halt worker) = refl

told_in_turn : (replies : List Answered) (h : List Event) → map (λ (l : Logged). l.event) (logged_of replies h) ≡ h
told_in_turn replies [] = refl
told_in_turn replies (e ∷ h) =
    ap (λ (x : Event). x ∷ map (λ (l : Logged). l.event) (logged_of replies h)) (told_of replies e) ∙ ap (λ (g : List Event). e ∷ g) (told_in_turn replies h)

-- the operation of a Finish
finish_within : (plan : Plan) (workers : ℕ) (h : List Event) (op worker at front : ℕ) → IsLegal (schedule_of plan) workers h → Contains h (Finish op worker at front) → op < length plan.operations
finish_within plan workers h op worker at front legal c =
    let k : ℕ = c.0 in
    let e : Event = Finish op worker at front in
    let is : IsOperation (schedule_of plan) op = ((legal.fits (take k h) e (drop (k + 1) h) (split_here h k e c.1 (sym c.2))).obeys V1).0 in
    let size = length-map plan.operations (λ (o : Operation). o.step) in
    omega (arith, is, size)

pub finishes_are_of_operations : FinishesAreOfOperations
finishes_are_of_operations plan workers h (Start op worker at) legal c = tt
finishes_are_of_operations plan workers h (Finish op worker at front) legal c = finish_within plan workers h op worker at front legal c
finishes_are_of_operations plan workers h (Halt worker) legal c = tt

module _ (base : List Row) (plan : Plan) (moments : Moments) (workers : ℕ) (h : List Event) (replies : List Answered) (each_once : OnceEach) (legal : IsLegal (schedule_of plan) workers h) (are : AreReplies base plan moments h h replies) where
  -- the rows of an entry are the count of the Finish of its operation
  of_entry : (op worker at front : ℕ) (o : Operation) (b : Answered) → Contains h (Finish op worker at front) → slice_get plan.operations op ≡ Some o → Contains replies b → b.op ≡ op
      → IsCountOf base plan h front o.work b.rows
  of_entry op worker at front o b c here there number =
      let is : ReplyIsRight base plan moments h h b = All-contains (ReplyIsRight base plan moments h h) replies b are.each there in
      let asks : Asks plan op is.query = subst (λ (k : ℕ). Asks plan k is.query) number is.asks in
      let work : o.work ≡ AskWork is.query = ap (λ (x : Operation). x.work) (same_Some o asks.0 (sym here ∙ asks.1)) ∙ asks.2 in
      let same : Finish op worker at front ≡ Finish b.op is.worker is.at b.front =
      passes_once (finishes op) h (Finish op worker at front) (Finish b.op is.worker is.at b.front) (each_once (schedule_of plan) workers h legal op).1 c is.finished (eq-eqb op op refl) (eq-eqb b.op op number) in
      let fronts : b.front ≡ front = cc in
      let reply = is.replies in
      subst (λ (w : Work). IsCountOf base plan h front w b.rows) (sym work)
      (is.graph, subst (λ (k : ℕ). IsAfter base plan (take k h) is.graph) fronts is.after, reply.0, reply.1, reply.2)

  -- an operation that has no entry is an insert
  of_none : (op worker at front : ℕ) (o : Operation) → Contains h (Finish op worker at front) → slice_get plan.operations op ≡ Some o → ((b : Answered) → Contains replies b → b.op ≢ op)
      → (work : Work) → o.work ≡ work → IsCountOf base plan h front work 0
  of_none op worker at front o c here none (InsertWork line) is = refl
  of_none op worker at front o c here none (AskWork query) is = absurd (let found = are.all op worker at front query c (o, here, is) in none found.0 found.1 found.2)

  right_at : (e : Event) → Contains h e → HasRightCount base plan h (logged_by replies e)
  right_at (Start op worker at) c = refl
  right_at (Halt worker) c = refl
  right_at (Finish op worker at front) c =
      let there = some_got plan.operations op (finish_within plan workers h op worker at front legal c) in
      let o : Operation = there.0 in (
        rows_by replies op,
        refl,
        (
          o,
          there.1,
          elim (found_by replies op) [
            | inl found ↦ subst (IsCountOf base plan h front o.work) (sym found.3) (of_entry op worker at front o found.0 c there.1 found.1 found.2)
            | inr none ↦ subst (IsCountOf base plan h front o.work) (sym none.1) (of_none op worker at front o c there.1 none.0 o.work refl)
          ],
        ),
      )

  pub tells_counts : TellsCounts base plan h (logged_of replies h)
  tells_counts =
      record {
        events = told_in_turn replies h;
        counts = All-map (HasRightCount base plan h) (logged_by replies) h (λ k d lt. right_at _ (All-contains_itself h k d lt));
      }

pub counts_of_a_run : OnceEach → CountsOfARun
counts_of_a_run each_once workers plan moments base h replies graph run = tells_counts base plan moments workers h replies each_once run.legal run.answered

-- ---- one reply

pub one_entry : OneReply → OneEntry
one_entry one g query rows text reply is_graph sound replied is =
    let same : replied.0 ≡ reply = one g query replied.0 reply is_graph sound replied.1 is in
    (replied.2 ∙ ap first_rows same, replied.3 ∙ ap (λ (r : _). compact_text (reply_data r)) same)
