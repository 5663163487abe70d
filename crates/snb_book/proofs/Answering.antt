-- What the book's fields answer to a claim.
use Rattle.std.proofs.Common.{◌≡◌, ℕ, suc, ◌<◌, ◌≤◌, List, [], ◌∷◌, length, get_or, Bool, true, false, inl, inr, refl, sym, ◌∙◌, subst, arith, Option, Some, None}
use Rattle.std.specs.Prelude.{ℤ, pos, ◌<ℤ◌, ◌≤ℤ◌, ◌-ℤ◌}
use Rattle.std.specs.List.{list_all}
use Rattle.std.proofs.lemmas.Bool.{cases_Bool}
use Rattle.std.proofs.lemmas.Int.{ints}
use Rattle.std.proofs.lemmas.List.Folds.{list_all_at}
use Rattle.snb_base.proofs.Laws.{least_failing}
use Rattle.snb_history.specs.declared.event.Event.{Event}
use Rattle.snb_history.specs.Schedule.{Schedule, step_of, IsOperation, IsPlanned}
use Rattle.snb_history.specs.History.{started, finished, halted, hand}
use Rattle.snb_history.specs.Completion.{time_left, completion, is_awaited, least_t}
use Rattle.snb_history.specs.Rules.{IsCleared, IsComplete, LaneIsFinished}
use Rattle.snb_completion.specs.Progress.{Progress, flag}
use Rattle.snb_book.specs.declared.book.Firsts.{Firsts}
use Rattle.snb_book.specs.Kept.{Kept}
use Rattle.snb_book.specs.Book.{IsSoundBook, IsTold, IsNext}
use Rattle.snb_book.specs.Heads.{AreFirsts, AreFirstsBelow, IsLate, IsWithin, TellsFirst}
use Rattle.snb_book.specs.declared.claim.Claim.TheVariants.{Busy, Go, Blocked}
use Rattle.snb_book.specs.Claims.{HoldsBefore, IsPlanHead, IsDueHead, IsAdmitted, IsFirst, IsUnderWay, IsClaim}
use Rattle.snb_book.proofs.Blocking.{blocked_below}
use Rattle.snb_book.proofs.Firsts.{TellsFirst-same, none_due}
use Rattle.snb_book.proofs.Heads.{head_from_next, next_from_head}
use Rattle.snb_book.proofs.Waiting.{not_busy_where_free, free_where_not_busy}
use Rattle.snb_history.proofs.Laws.{completion_decides, time_left-same}

-- the completion time is told by the flags of what is finished
pub completion_is : (b : Kept) (times : Progress) (heads : List ℕ) (held : List (Option ℕ)) (latest : ℕ) (stopped : Bool)
    → IsTold b times heads held latest stopped → time_left b.schedule (flag times.finished) ≡ completion b.schedule b.history
completion_is b times heads held latest stopped told = time_left-same b.schedule (flag times.finished) (finished b.history) told.over

-- a dependent is cleared exactly where its t_d is below the least t that is waited for
pub within_cleared : (s : Schedule) (h : List Event) → IsPlanned s → (op : ℕ) → IsOperation s op → IsWithin s (least_t s (is_awaited s h)) op → IsCleared s h op
within_cleared s h planned op within below =
    (completion_decides s h op (planned.needs_timed op within)).1 (λ dependent. at_most (step_of s op).t_d (least_t s (is_awaited s h)) (below dependent))
  where
    at_most : (c l : ℕ) → c < l → pos c ≤ℤ (pos l -ℤ pos 1)
    at_most c l lt = omega (arith, ints)

pub cleared_within : (s : Schedule) (h : List Event) → IsPlanned s → (op : ℕ) → IsOperation s op → IsCleared s h op → IsWithin s (least_t s (is_awaited s h)) op
cleared_within s h planned op within cleared dependent =
    below (step_of s op).t_d (least_t s (is_awaited s h)) ((completion_decides s h op (planned.needs_timed op within)).0 cleared dependent)
  where
    below : (c l : ℕ) → pos c ≤ℤ (pos l -ℤ pos 1) → c < l
    below c l le = omega (arith, ints)

-- the firsts of all lanes are those of the heads
pub firsts_told : (b : Kept) (capacity : ℕ) (times : Progress) (heads : List ℕ) (held : List (Option ℕ)) (latest : ℕ) (stopped : Bool) (firsts : Firsts)
    → IsSoundBook b capacity → IsTold b times heads held latest stopped
    → AreFirstsBelow b.schedule heads times.finished (least_t b.schedule (is_awaited b.schedule b.history)) (length b.schedule.kinds) firsts
    → AreFirsts b.schedule b.history firsts
firsts_told b capacity times heads held latest stopped firsts kept told is = record {
  all = TellsFirst-same s _ (IsPlanHead s h) firsts.all (λ j q. head j q.0) (λ j q. (next j q, low j q)) is.all;
  free = TellsFirst-same s _ (λ j. IsPlanHead s h j × LaneIsFinished s h j) firsts.free
      (λ j q. (head j q.0.0, not_busy_where_free s b.workers h times.finished kept.planned kept.legal told.over j (head j q.0.0) q.0.1))
      (λ j q. ((next j q.0, free_where_not_busy s h times.finished told.over j q.0 q.1), low j q.0))
      is.free;
  ready = TellsFirst-same s _ (λ j. IsPlanHead s h j × IsAdmitted s h j) firsts.ready
      (λ j q. (
        head j q.0.0,
        (
          not_busy_where_free s b.workers h times.finished kept.planned kept.legal told.over j (head j q.0.0) q.0.1,
          within_cleared s h kept.planned j q.0.0.0 q.0.2,
        ),
      ))
      (λ j q. (
        (next j q.0, free_where_not_busy s h times.finished told.over j q.0 q.1.0, cleared_within s h kept.planned j q.0.0 q.1.1),
        low j q.0,
      ))
      is.ready;
}
  where
    s : Schedule
    s = b.schedule

    h : List Event
    h = b.history

    head : (j : ℕ) → IsNext b.schedule heads j → IsPlanHead b.schedule b.history j
    head = head_from_next b.schedule b.history heads kept.planned told.begun

    next : (j : ℕ) → IsPlanHead b.schedule b.history j → IsNext b.schedule heads j
    next = next_from_head b.schedule b.history heads kept.planned told.begun

    low : (j : ℕ) → IsPlanHead b.schedule b.history j → (step_of b.schedule j).lane < length b.schedule.kinds
    low j q = kept.planned.in_lanes j q.0

-- where no lane has a head all is started
pub all_started : (s : Schedule) (h : List Event) → ((j : ℕ) → ¬ IsPlanHead s h j) → (k : ℕ) → IsOperation s k → started h k ≡ true
all_started s h none =
    elim (least_failing (started h) (length s.steps)) [
      | inl all ↦ all
      | inr found ↦ absurd (none found.0 (found.1.within, record { fresh = found.1.fails; led = λ j before. found.1.before j before.0 }))
    ]

pub own_busy : (s : Schedule) (h : List Event) (first worker at k : ℕ) → ((w : ℕ) → halted h w ≡ false) → IsFirst s (IsPlanHead s h) first → hand h worker ≡ Some k
    → IsClaim s h worker at (Busy k worker)
own_busy s h first worker at k running is held = inl (record { running = running; left = (first, is.0.0, is.0.1.fresh); held = held; own = refl })

pub under_way : (s : Schedule) (h : List Event) (first worker : ℕ) → ((w : ℕ) → halted h w ≡ false) → IsFirst s (IsPlanHead s h) first → hand h worker ≡ None
    → IsUnderWay s h worker
under_way s h first worker running is free = record { running = running; left = (first, is.0.0, is.0.1.fresh); free = free }

-- where a head is due, the first of all is the first of those that are due
pub first_due_head : (s : Schedule) (h : List Event) (at first : ℕ) → IsFirst s (IsPlanHead s h) first → (step_of s first).due ≤ at → IsFirst s (IsDueHead s h at) first
first_due_head s h at first is due = ((is.0.0, is.0.1, due), λ j head. is.1 j (head.0, head.1))

pub none_admitted : (s : Schedule) (h : List Event) (at : ℕ) (ready : Option ℕ) → TellsFirst s (λ j. IsPlanHead s h j × IsAdmitted s h j) ready → IsLate s at ready
    → (j : ℕ) → IsDueHead s h at j → ¬ IsAdmitted s h j
none_admitted s h at ready is late j head admitted = none_due s (λ j. IsPlanHead s h j × IsAdmitted s h j) at ready is late j ((head.0, head.1), admitted) head.2

pub goes : (s : Schedule) (h : List Event) (worker at op start : ℕ) → IsUnderWay s h worker → TellsFirst s (λ j. IsPlanHead s h j × IsAdmitted s h j) (Some op)
    → (step_of s op).due ≤ at → start ≡ length h → IsClaim s h worker at (Go (record { op = op; worker = worker; start = start }))
goes s h worker at op start idle is due counted = (
  idle,
  (((is.0.0.0, is.0.0.1, due), is.0.1), λ j q. is.1 j ((q.0.0, q.0.1), q.1)),
  refl,
  counted,
)

pub blocked : (s : Schedule) (h : List Event) (worker at op needs : ℕ) (time : ℤ) → IsUnderWay s h worker → ((j : ℕ) → IsDueHead s h at j → ¬ IsAdmitted s h j)
    → TellsFirst s (λ j. IsPlanHead s h j × LaneIsFinished s h j) (Some op) → (step_of s op).due ≤ at
    → needs ≡ (step_of s op).t_d → time ≡ completion s h → IsClaim s h worker at (Blocked op needs time)
blocked s h worker at op needs time idle none is due needed reached = (
  idle,
  none,
  (((is.0.0.0, is.0.0.1, due), is.0.1), λ j q. is.1 j ((q.0.0, q.0.1), q.1)),
  needed,
  reached,
  subst (λ (c : ℤ). c <ℤ pos needs) (sym reached)
      (subst (λ (n : ℕ). completion s h <ℤ pos n) (sym needed) (blocked_below s h at op none (is.0.0.0, is.0.0.1, due) is.0.1)),
)

-- each due head is busy where the first that isn't is due later
pub all_busy : (s : Schedule) (h : List Event) (at : ℕ) (free : Option ℕ) → TellsFirst s (λ j. IsPlanHead s h j × LaneIsFinished s h j) free → IsLate s at free
    → (j : ℕ) → IsDueHead s h at j → ¬ LaneIsFinished s h j
all_busy s h at free is late j head not_busy = none_due s (λ j. IsPlanHead s h j × LaneIsFinished s h j) at free is late j ((head.0, head.1), not_busy) head.2

pub lane_busy : (s : Schedule) (h : List Event) (worker at first by_whom : ℕ) → IsUnderWay s h worker → IsFirst s (IsDueHead s h at) first
    → ((j : ℕ) → IsDueHead s h at j → ¬ LaneIsFinished s h j) → HoldsBefore s h first by_whom → IsClaim s h worker at (Busy first by_whom)
lane_busy s h worker at first by_whom idle is busy held = inr (record { under_way = idle; all_busy = busy; first = is; held = held })

all_set-at : (flags : List Bool) (i : ℕ) → i < length flags → list_all (λ flag. flag) flags ≡ true → get_or flags i false ≡ true
all_set-at flags i lt all = flag_is (get_or flags i false) (λ q. let a = list_all_at (λ flag. flag) flags i false lt q in cc)
  where
    flag_is : (flag : Bool) → (flag ≡ false → ⊥) → flag ≡ true
    flag_is true not_false = refl
    flag_is false not_false = absurd (not_false refl)

all_set-from : (flags : List Bool) → ((i : ℕ) → i < length flags → get_or flags i false ≡ true) → list_all (λ flag. flag) flags ≡ true
all_set-from [] each = refl
all_set-from (flag ∷ flags) each =
    let first : flag ≡ true = each 0 (omega arith) in
    let rest = all_set-from flags (λ i lt. each (suc i) (omega arith)) in
    grind arith

pub complete_where_set : (b : Kept) (times : Progress) (heads : List ℕ) (held : List (Option ℕ)) (latest : ℕ) (stopped : Bool)
    → IsTold b times heads held latest stopped → stopped ≡ false → list_all (λ flag. flag) times.finished ≡ true → IsComplete b.schedule b.history
complete_where_set b times heads held latest stopped told running all = record {
  all_finished = λ k within. sym (told.over k within) ∙ all_set-at times.finished k (let a = told.a_finish_each in omega arith) all;
  none_halted = told.runs running;
}

pub set_where_complete : (b : Kept) (times : Progress) (heads : List ℕ) (held : List (Option ℕ)) (latest : ℕ) (stopped : Bool)
    → IsTold b times heads held latest stopped → IsComplete b.schedule b.history → (stopped ≡ false) × (list_all (λ flag. flag) times.finished ≡ true)
set_where_complete b times heads held latest stopped told complete = (
  elim (cases_Bool stopped) [
    | inl set ↦ absurd (let one = told.stops set in let a = one.1 in let c = complete.none_halted one.0 in cc)
    | inr unset ↦ unset
  ],
  all_set-from times.finished (λ k lt. let within : IsOperation b.schedule k = (let a = told.a_finish_each in omega arith) in told.over k within ∙ complete.all_finished k within),
)
