-- What a book keeps, after one more event.
use Rattle.std.proofs.Common.{◌≡◌, ℕ, zero, suc, ◌+◌, ◌*◌, ◌<◌, ◌≤◌, List, [], ◌∷◌, ◌++◌, length, get_or, set, replicate, Bool, true, false, cond, inl, inr, refl, sym, ap, ◌∙◌, subst, arith, Option, Some, None, eqb, append-nil, length-append}
use Rattle.std.specs.Prelude.{◌≤ℤ◌, nat_lt, slice_index}
use Rattle.std.proofs.lemmas.Bool.{cases_eq, eq-eqb, ne_eqb, le-ltb}
use Rattle.std.proofs.lemmas.Bool.Decides.{nat_tests}
use Rattle.std.proofs.lemmas.List.{get_or-replicate, length-replicate}
use Rattle.std.proofs.Math.ListN.{length-set}
use Rattle.snb_history.specs.declared.event.Event.{Event}
use Rattle.snb_history.specs.declared.event.Event.TheVariants.{Start, Finish, Halt}
use Rattle.snb_schema.specs.declared.limits.TheConstants.{MAX_AT, MAX_WORKERS}
use Rattle.snb_history.specs.Schedule.{Schedule, step_of, IsBefore, IsOperation, IsPlanned}
use Rattle.snb_history.specs.History.{is_by, started, hand, moment, last}
use Rattle.snb_history.specs.Completion.{completion}
use Rattle.snb_history.specs.Rules.{Rule, V1, V2, V3, V4, V5, V6, V7, V8, V9, MayAct, IsFront, Obeys, Fits, IsLegal}
use Rattle.snb_completion.specs.Progress.{Progress, nothing_started, IsNextInLane, IsOpen}
use Rattle.snb_book.specs.Kept.{Kept, IsAdding, moment_after}
use Rattle.snb_book.specs.Book.{IsSoundBook, IsTold}
use Rattle.snb_book.proofs.Places.{same_place}
use Rattle.snb_book.proofs.Heads.{next_from_head}
use Rattle.snb_history.proofs.Laws.{IsLegal-nil, IsLegal-push, completion_rises, finished-push, halted-push, hand-push, hand_has_start, keeps_legal, last-push, last_is_bounded, legal_is_short, started-push}
use Rattle.snb_base.proofs.Laws.{get_or-set}

-- the book with one more event
abbrev pub with_event : Kept → Event → Kept
with_event b e = record { schedule = b.schedule; workers = b.workers; history = b.history ++ e ∷ [] }

-- there is room for an event that fits
pub has_room : (b : Kept) (capacity : ℕ) (e : Event) → IsSoundBook b capacity → Fits b.schedule b.workers b.history e → moment e ≤ MAX_AT → length b.history < capacity
has_room b capacity e kept fits small =
    let short = legal_is_short b.schedule b.workers (b.history ++ e ∷ []) (IsLegal-push b.schedule b.workers b.history e kept.legal fits small) in
    let size = length-append b.history (e ∷ []) in
    let room = kept.room in
    omega arith

pub history_short : (b : Kept) (capacity : ℕ) → IsSoundBook b capacity → length b.history < 4294967296
history_short b capacity kept =
    let short = legal_is_short b.schedule b.workers b.history kept.legal in
    let few = kept.few in
    let steps = kept.planned.few_steps in
    omega arith

pub IsSoundBook-push : (b : Kept) (capacity capacity' : ℕ) (e : Event) → IsSoundBook b capacity → Fits b.schedule b.workers b.history e → moment e ≤ MAX_AT
    → capacity ≤ capacity' → IsSoundBook (with_event b e) capacity'
IsSoundBook-push b capacity capacity' e kept fits small more = record {
  planned = kept.planned;
  few = kept.few;
  legal = IsLegal-push b.schedule b.workers b.history e kept.legal fits small;
  room = (let r = kept.room in omega arith);
}

-- one more event adds, and so does none
pub adds_one : (b : Kept) (capacity worker : ℕ) (e : Event) → IsSoundBook b capacity → Fits b.schedule b.workers b.history e → moment e ≤ MAX_AT
    → is_by worker e ≡ true → IsAdding worker b (with_event b e)
adds_one b capacity worker e kept fits small by_worker =
    let more : IsSoundBook (with_event b e) capacity = IsSoundBook-push b capacity capacity e kept fits small (omega arith) in
    record {
      schedule = refl;
      workers = refl;
      more = e ∷ [];
      history = refl;
      theirs = λ k d lt. only k d lt;
      legal = more.legal;
      short = history_short (with_event b e) capacity more;
    }
  where
    only : (k : ℕ) (d : Event) → k < 1 → is_by worker (get_or (e ∷ []) k d) ≡ true
    only zero d lt = by_worker
    only (suc k) d lt = absurd (omega arith)

-- the same of a book that is seen otherwise
pub adds_event : (now inside : Kept) (s : Schedule) (h : List Event) (capacity worker : ℕ) (e : Event) → inside ≡ now → s ≡ inside.schedule
    → h ≡ inside.history ++ e ∷ [] → IsSoundBook inside capacity → Fits inside.schedule inside.workers inside.history e → moment e ≤ MAX_AT
    → is_by worker e ≡ true → IsAdding worker now (record { schedule = s; workers = inside.workers; history = h })
adds_event now inside s h capacity worker e same of_plan appended kept fits small by_worker =
    subst (λ (b : Kept). IsAdding worker b (record { schedule = s; workers = inside.workers; history = h })) same
    (subst (λ (t : Schedule). IsAdding worker inside (record { schedule = t; workers = inside.workers; history = h })) (sym of_plan)
    (subst (λ (g : List Event). IsAdding worker inside (record { schedule = inside.schedule; workers = inside.workers; history = g })) (sym appended)
    (adds_one inside capacity worker e kept fits small by_worker)))

pub adds_none : (b : Kept) (worker : ℕ) → IsLegal b.schedule b.workers b.history → length b.history < 4294967296 → IsAdding worker b b
adds_none b worker legal short = record {
  schedule = refl;
  workers = refl;
  more = [];
  history = sym (append-nil b.history);
  theirs = λ k d lt. absurd (omega arith);
  legal = legal;
  short = short;
}

-- what is added never lowers the completion time
pub adding_rises : (worker : ℕ) (old new : Kept) → IsAdding worker old new → completion old.schedule old.history ≤ℤ completion new.schedule new.history
adding_rises worker old new adding =
    subst (λ (s : Schedule). completion old.schedule old.history ≤ℤ completion s new.history) (sym adding.schedule)
    (subst (λ (h : List Event). completion old.schedule old.history ≤ℤ completion old.schedule h) (sym adding.history)
    (completion_rises old.schedule old.history adding.more))

-- the step, over plain numbers: k is the one, or stands in another lane, or elsewhere in the lane
begun_after : (one k lane_one lane_k place_one place_k head : ℕ) (begun : Bool) → (one ≡ k → (lane_one ≡ lane_k) × (place_one ≡ place_k))
    → (lane_one ≡ lane_k → place_one ≡ place_k → one ≡ k) → (lane_one ≡ lane_k → place_one ≡ head) → begun ≡ nat_lt place_k head
    → cond (eqb one k) true begun ≡ nat_lt place_k (cond (eqb lane_one lane_k) (place_one + 1) head)
begun_after one k lane_one lane_k place_one place_k head begun same one_place at_head is =
    elim (cases_eq lane_one lane_k) [
      | inl lane ↦ elim (cases_eq one k) [
        | inl e ↦ (let p = (same e).1 in let x = eq-eqb one k e in let y = eq-eqb lane_one lane_k lane in grind (arith, nat_tests))
        | inr ne ↦
            let h = at_head lane in
            let x = ne_eqb one k ne in
            let y = eq-eqb lane_one lane_k lane in
            let apart : place_one ≡ place_k → ⊥ = λ q. ne (one_place lane q) in
            elim (cases_eq place_one place_k) [
              | inl q ↦ absurd (apart q)
              | inr z ↦ grind (arith, nat_tests)
            ]
      ]
      | inr lane ↦
          let ne : one ≡ k → ⊥ = λ e. lane (same e).0 in
          let x = ne_eqb one k ne in
          let y = ne_eqb lane_one lane_k lane in
          grind (arith, nat_tests)
    ]

-- nothing has happened
abbrev pub of_nothing : Schedule → ℕ → Kept
of_nothing s workers = record { schedule = s; workers = workers; history = [] }

pub IsSoundBook-none : (s : Schedule) (workers capacity : ℕ) → IsPlanned s → workers ≤ MAX_WORKERS → 2 * length s.steps + workers ≤ capacity → IsSoundBook (of_nothing s workers) capacity
IsSoundBook-none s workers capacity planned few room = record {
  planned = planned;
  few = few;
  legal = IsLegal-nil s workers;
  room = room;
}

pub IsTold-none : (s : Schedule) (workers : ℕ) → IsPlanned s
    → IsTold (of_nothing s workers) (nothing_started s) (replicate (length s.kinds) 0) (replicate workers None) 0 false
IsTold-none s workers planned = record {
  a_start_each = length-replicate (length s.steps) false;
  flags = λ k lt. get_or-replicate (length s.steps) k false false lt;
  a_finish_each = length-replicate (length s.steps) false;
  over = λ k lt. get_or-replicate (length s.steps) k false false lt;
  a_head_each = length-replicate (length s.kinds) 0;
  begun = λ k lt.
      let none = get_or-replicate (length s.kinds) (step_of s k).lane 0 0 (planned.in_lanes k lt) in
      sym (ap (λ (p : ℕ). nat_lt (step_of s k).place p) none ∙ le-ltb (step_of s k).place 0 (omega arith));
  a_hand_each = length-replicate workers None;
  hands = λ w lt. get_or-replicate workers w None None lt;
  at = refl;
  stops = λ q. absurd cc;
  runs = λ q w. refl;
}

-- the times of the plan, where one operation more is started, or finished
abbrev pub with_started : Progress → ℕ → Progress
with_started times op = record { schedule = times.schedule; started = set times.started op true; finished = times.finished }

abbrev pub with_finished : Progress → ℕ → Progress
with_finished times op = record { schedule = times.schedule; started = times.started; finished = set times.finished op true }

pub IsTold-start : (b : Kept) (capacity : ℕ) (times : Progress) (heads : List ℕ) (held : List (Option ℕ)) (latest : ℕ) (stopped : Bool) (op worker at : ℕ)
    → IsSoundBook b capacity → IsTold b times heads held latest stopped → Fits b.schedule b.workers b.history (Start op worker at)
    → IsTold (with_event b (Start op worker at)) (with_started times op)
    (set heads (step_of b.schedule op).lane ((step_of b.schedule op).place + 1)) (set held worker (Some op)) at stopped
IsTold-start b capacity times heads held latest stopped op worker at kept told fits =
    let e : Event = Start op worker at in
    let s : Schedule = b.schedule in
    let within : IsOperation s op = (fits.obeys V1).0 in
    let known : worker < b.workers = (fits.obeys V1).1.known in
    let next = next_from_head s b.history heads kept.planned told.begun op (within, fits.obeys V2) in
    let flag_in : op < length times.started = (let a = told.a_start_each in omega arith) in
    let lane_in : (step_of s op).lane < length heads = (let a = kept.planned.in_lanes op within in let c = told.a_head_each in omega arith) in
    let hand_in : worker < length held = (let a = told.a_hand_each in omega arith) in
    record {
      a_start_each = length-set times.started op true ∙ told.a_start_each;
      flags = λ k lt.
          get_or-set times.started op k true false flag_in ∙ ap (cond (eqb op k) true) (told.flags k lt) ∙ sym (started-push b.history e k);
      a_finish_each = told.a_finish_each;
      over = λ k lt. told.over k lt ∙ sym (finished-push b.history e k);
      a_head_each = length-set heads (step_of s op).lane ((step_of s op).place + 1) ∙ told.a_head_each;
      begun = λ k lt.
          started-push b.history e k
          ∙ begun_after op k (step_of s op).lane (step_of s k).lane (step_of s op).place (step_of s k).place (slice_index heads (step_of s k).lane) (started b.history k)
          (λ q. (ap (λ i. (step_of s i).lane) q, ap (λ i. (step_of s i).place) q))
          (λ lane place. same_place s kept.planned op k within lt lane place)
          (λ lane. next.1 ∙ ap (λ l. slice_index heads l) lane)
          (told.begun k lt)
          ∙ ap (λ p. nat_lt (step_of s k).place p) (sym (get_or-set heads (step_of s op).lane (step_of s k).lane ((step_of s op).place + 1) 0 lane_in));
      a_hand_each = length-set held worker (Some op) ∙ told.a_hand_each;
      hands = λ w lt.
          get_or-set held worker w (Some op) None hand_in ∙ ap (cond (eqb worker w) (Some op)) (told.hands w lt) ∙ sym (hand-push b.history e w);
      at = sym (last-push b.history e);
      stops = λ q. let one = told.stops q in (one.0, halted-push b.history e one.0 ∙ one.1);
      runs = λ q w. halted-push b.history e w ∙ told.runs q w;
    }

-- what is in hand is an operation
held_within : (b : Kept) (w k : ℕ) → IsLegal b.schedule b.workers b.history → hand b.history w ≡ Some k → IsOperation b.schedule k
held_within b w k legal held =
    let p = hand_has_start w k b.history held in
    ((legal.fits p.0 (Start k w p.2) p.1 p.3).obeys V1).0

pub IsTold-finish : (b : Kept) (times : Progress) (heads : List ℕ) (held : List (Option ℕ)) (latest : ℕ) (stopped : Bool) (op worker at front : ℕ)
    → IsTold b times heads held latest stopped → Fits b.schedule b.workers b.history (Finish op worker at front)
    → IsTold (with_event b (Finish op worker at front)) (with_finished times op) heads (set held worker None) at stopped
IsTold-finish b times heads held latest stopped op worker at front told fits =
    let e : Event = Finish op worker at front in
    let within : IsOperation b.schedule op = (fits.obeys V1).0 in
    let known : worker < b.workers = (fits.obeys V1).1.known in
    let flag_in : op < length times.finished = (let a = told.a_finish_each in omega arith) in
    let hand_in : worker < length held = (let a = told.a_hand_each in omega arith) in
    record {
      a_start_each = told.a_start_each;
      flags = λ k lt. told.flags k lt ∙ sym (started-push b.history e k);
      a_finish_each = length-set times.finished op true ∙ told.a_finish_each;
      over = λ k lt.
          get_or-set times.finished op k true false flag_in ∙ ap (cond (eqb op k) true) (told.over k lt) ∙ sym (finished-push b.history e k);
      a_head_each = told.a_head_each;
      begun = λ k lt. started-push b.history e k ∙ told.begun k lt;
      a_hand_each = length-set held worker None ∙ told.a_hand_each;
      hands = λ w lt.
          get_or-set held worker w None None hand_in ∙ ap (cond (eqb worker w) None) (told.hands w lt) ∙ sym (hand-push b.history e w);
      at = sym (last-push b.history e);
      stops = λ q. let one = told.stops q in (one.0, halted-push b.history e one.0 ∙ one.1);
      runs = λ q w. halted-push b.history e w ∙ told.runs q w;
    }

pub IsTold-halt : (b : Kept) (times : Progress) (heads : List ℕ) (held : List (Option ℕ)) (latest : ℕ) (stopped : Bool) (worker : ℕ)
    → IsTold b times heads held latest stopped → IsTold (with_event b (Halt worker)) times heads held latest true
IsTold-halt b times heads held latest stopped worker told =
    let e : Event = Halt worker in
    record {
      a_start_each = told.a_start_each;
      flags = λ k lt. told.flags k lt ∙ sym (started-push b.history e k);
      a_finish_each = told.a_finish_each;
      over = λ k lt. told.over k lt ∙ sym (finished-push b.history e k);
      a_head_each = told.a_head_each;
      begun = λ k lt. started-push b.history e k ∙ told.begun k lt;
      a_hand_each = told.a_hand_each;
      hands = λ w lt. told.hands w lt ∙ sym (hand-push b.history e w);
      at = told.at ∙ sym (last-push b.history e);
      stops = λ q. (worker, let p = halted-push b.history e worker in let y = eq-eqb worker worker refl in grind arith);
      runs = λ q w. absurd cc;
    }

-- the operation of a Start that fits is the next of its lane
pub next_in_lane : (b : Kept) (times : Progress) (heads : List ℕ) (held : List (Option ℕ)) (latest : ℕ) (stopped : Bool) (op worker at : ℕ)
    → times.schedule ≡ b.schedule → IsTold b times heads held latest stopped → Fits b.schedule b.workers b.history (Start op worker at) → IsNextInLane times op
next_in_lane b times heads held latest stopped op worker at of_plan told fits =
    let within : IsOperation b.schedule op = (fits.obeys V1).0 in
    record {
      within = subst (λ (s : Schedule). IsOperation s op) (sym of_plan) within;
      fresh = told.flags op within ∙ (fits.obeys V2).fresh;
      led = λ j before.
          let here : IsBefore b.schedule j op = subst (λ (s : Schedule). IsBefore s j op) of_plan before in
          told.flags j (let lt = here.0 in omega arith) ∙ (fits.obeys V2).led j here;
    }

-- the operation of a Finish that fits is started and unfinished
pub open_yet : (b : Kept) (capacity : ℕ) (times : Progress) (heads : List ℕ) (held : List (Option ℕ)) (latest : ℕ) (stopped : Bool) (op worker at front : ℕ)
    → times.schedule ≡ b.schedule → IsSoundBook b capacity → IsTold b times heads held latest stopped → Fits b.schedule b.workers b.history (Finish op worker at front) → IsOpen times op
open_yet b capacity times heads held latest stopped op worker at front of_plan kept told fits =
    let within : IsOperation b.schedule op = (fits.obeys V1).0 in
    let keeps = keeps_legal b.schedule b.workers b.history kept.legal in
    record {
      within = subst (λ (s : Schedule). IsOperation s op) (sym of_plan) within;
      begun = told.flags op within ∙ keeps.held_begun worker op (fits.obeys V7);
      unfinished = told.over op within ∙ keeps.held_open worker op (fits.obeys V7);
    }

pub moment_bounded : (b : Kept) (capacity now : ℕ) → IsSoundBook b capacity → moment_after b.history now ≤ MAX_AT
moment_bounded b capacity now kept = let l = last_is_bounded b.schedule b.workers b.history kept.legal in omega arith

pub moment_later : (h : List Event) (now : ℕ) → last h ≤ moment_after h now
moment_later h now = omega arith

-- the Finish of what is in hand fits
pub finish_fits : (b : Kept) (op worker now front : ℕ) → IsLegal b.schedule b.workers b.history → hand b.history worker ≡ Some op → MayAct b.workers b.history worker
    → IsFront b.schedule b.history op front → Fits b.schedule b.workers b.history (Finish op worker (moment_after b.history now) front)
finish_fits b op worker now front legal held may at_front = record { obeys = by_rule }
  where
    by_rule : (r : Rule) → Obeys b.schedule b.workers b.history (Finish op worker (moment_after b.history now) front) r
    by_rule V1 = (held_within b worker op legal held, may)
    by_rule V2 = tt
    by_rule V3 = tt
    by_rule V4 = tt
    by_rule V5 = tt
    by_rule V6 = tt
    by_rule V7 = held
    by_rule V8 = at_front
    by_rule V9 = moment_later b.history now
