-- What is kept of a history, and what is read of it.
use Rattle.std.proofs.Common.{◌≡◌, ℕ, ◌+◌, ◌-◌, ◌<◌, ◌≤◌, ◌&&◌, Bool, true, false, cond, nat_le, nat_lt, Option, Some, None, List, [], ◌∷◌, ◌++◌, length, get_or, set, replicate, inl, inr, refl, ap, sym, ◌∙◌, subst, arith}
use Rattle.std.specs.Prelude.{◌==◌, map, filter}
use Rattle.std.specs.List.{range_with_len}
use Rattle.std.specs.Option.{option_map_or}
use Rattle.std.proofs.lemmas.Bool.{cases_eq, cases_lt, eq-eqb, false≢true, le-ltb, lt-ltb, ne_eqb}
use Rattle.std.proofs.lemmas.Grind.{get_or-set_at}
use Rattle.std.proofs.lemmas.List.{get_or-replicate, get_or-set_other, get_or_default, get_or_past, get_or_push, get_or_append_left, length-replicate, length-set}
use Rattle.snb_history.specs.declared.event.Event.{Event}
use Rattle.snb_history.specs.declared.event.Event.TheVariants.{Start, Finish, Halt}
use Rattle.snb_history.specs.declared.step.Step.{Step}
use Rattle.snb_history.specs.History.{starts, finishes, latest, moment}
use Rattle.std.specs.List.Sorted.{IsNonDecreasingBy, IsPartitionPoint}
use Rattle.snb_history.specs.Schedule.{Schedule, IsPlanned, is_dependency, no_step, step_of}
use Rattle.snb_history.proofs.Laws.{t_rises_along}
use Rattle.snb_history.proofs.Laws.{find-reverse_push}
use Rattle.snb_summary.specs.declared.times.Heard.{Heard}
use Rattle.snb_summary.specs.Hearing.{AreFor, AreLasts, IsOf, finishes_after, last_below, later, moments_in, starts_after}
use Rattle.snb_summary.specs.Latencies.{OpMoments, cleared_at, greatest, moments_of, waits_for}
use Rattle.snb_summary.proofs.NumberLists.{filter_same, filter_stops, greatest_next}

-- ---- one more event

map_or_cond : (b : Bool) (e : Event) (o : Option Event) → option_map_or moment (cond b (Some e) o) 0 ≡ cond b (moment e) (option_map_or moment o 0)
map_or_cond true e o = refl
map_or_cond false e o = refl

pub latest_push : (p : Event → Bool) (h : List Event) (e : Event) → option_map_or moment (latest p (h ++ e ∷ [])) 0 ≡ cond (p e) (moment e) (option_map_or moment (latest p h) 0)
latest_push p h e = ap (λ (o : Option Event). option_map_or moment o 0) (find-reverse_push p h e) ∙ map_or_cond (p e) e (latest p h)

-- a number that is written at a place
written : (xs : List ℕ) (i at k : ℕ) → i < length xs → get_or (set xs i at) k 0 ≡ cond (i == k) at (get_or xs k 0)
written xs i at k lt =
    elim (cases_eq i k) [
      | inl same ↦ get_or-set_at xs i k at 0 (sym same) lt ∙ ap (λ (b : Bool). cond b at (get_or xs k 0)) (sym (eq-eqb i k same))
      | inr apart ↦ get_or-set_other xs i k at 0 (λ same. apart (sym same)) ∙ ap (λ (b : Bool). cond b at (get_or xs k 0)) (sym (ne_eqb i k apart))
    ]

starts_at : (e : Event) (xs : List ℕ) (k : ℕ) → IsOf (length xs) e → get_or (starts_after e xs) k 0 ≡ cond (starts k e) (moment e) (get_or xs k 0)
starts_at (Start op worker at) xs k within = written xs op at k within
starts_at (Finish op worker at front) xs k within = refl
starts_at (Halt worker) xs k within = refl

finishes_at : (e : Event) (xs : List ℕ) (k : ℕ) → IsOf (length xs) e → get_or (finishes_after e xs) k 0 ≡ cond (finishes k e) (moment e) (get_or xs k 0)
finishes_at (Start op worker at) xs k within = refl
finishes_at (Finish op worker at front) xs k within = written xs op at k within
finishes_at (Halt worker) xs k within = refl

pub length-starts_after : (e : Event) (xs : List ℕ) → length (starts_after e xs) ≡ length xs
length-starts_after (Start op worker at) xs = length-set xs op at
length-starts_after (Finish op worker at front) xs = refl
length-starts_after (Halt worker) xs = refl

pub length-finishes_after : (e : Event) (xs : List ℕ) → length (finishes_after e xs) ≡ length xs
length-finishes_after (Start op worker at) xs = refl
length-finishes_after (Finish op worker at front) xs = length-set xs op at
length-finishes_after (Halt worker) xs = refl

-- the moments that are kept are those of the history
pub record AreOf (h : List Event) (m : Heard) : Type 0 where
  pub start : (k : ℕ) → get_or m.starts.items k 0 ≡ (moments_of h).start k
  pub finish : (k : ℕ) → get_or m.finishes.items k 0 ≡ (moments_of h).finish k

-- at the begin there are none
zeros : (n k : ℕ) → get_or {A = ℕ} (replicate n 0) k 0 ≡ 0
zeros n k =
    elim (cases_lt k n) [
      | inl below ↦ get_or-replicate n k 0 0 below
      | inr past ↦ get_or_past (replicate n 0) k 0 (let e = length-replicate {A = ℕ} n 0 in omega arith)
    ]

pub heard_none : (n : ℕ) (m : Heard) → m.starts.items ≡ replicate n 0 → m.finishes.items ≡ replicate n 0 → AreFor n m × AreOf [] m
heard_none n m began ended = (
  record {
    starts = ap (λ (xs : List ℕ). length xs) began ∙ length-replicate {A = ℕ} n 0;
    finishes = ap (λ (xs : List ℕ). length xs) ended ∙ length-replicate {A = ℕ} n 0;
  },
  record {
    start = λ k. ap (λ (xs : List ℕ). get_or xs k 0) began ∙ zeros n k;
    finish = λ k. ap (λ (xs : List ℕ). get_or xs k 0) ended ∙ zeros n k;
  },
)

-- one more event is heard
pub heard_more : (n : ℕ) (h : List Event) (e : Event) (m new : Heard) → IsOf n e → AreFor n m → AreOf h m
    → new.starts.items ≡ starts_after e m.starts.items → new.finishes.items ≡ finishes_after e m.finishes.items → AreFor n new × AreOf (h ++ e ∷ []) new
heard_more n h e m new within sized are began ended = (
  record {
    starts = ap (λ (xs : List ℕ). length xs) began ∙ (length-starts_after e m.starts.items ∙ sized.starts);
    finishes = ap (λ (xs : List ℕ). length xs) ended ∙ (length-finishes_after e m.finishes.items ∙ sized.finishes);
  },
  record {
    start = λ k.
        ap (λ (xs : List ℕ). get_or xs k 0) began
        ∙ (starts_at e m.starts.items k (subst (λ (i : ℕ). IsOf i e) (sym sized.starts) within)
        ∙ (ap (λ (at : ℕ). cond (starts k e) (moment e) at) (are.start k) ∙ sym (latest_push (starts k) h e)));
    finish = λ k.
        ap (λ (xs : List ℕ). get_or xs k 0) ended
        ∙ (finishes_at e m.finishes.items k (subst (λ (i : ℕ). IsOf i e) (sym sized.finishes) within)
        ∙ (ap (λ (at : ℕ). cond (finishes k e) (moment e) at) (are.finish k) ∙ sym (latest_push (finishes k) h e)));
  },
)

pub moments_same : (h : List Event) (m : Heard) → AreOf h m → moments_in m ≡ moments_of h
moments_same h m are = λ i. record { start = λ k. are.start k i; finish = λ k. are.finish k i }

-- ---- what an operation waits for

waits_yes : (a b c : Bool) → a ≡ true → c ≡ true → (a && (b && c)) ≡ b
waits_yes true true c x y = y
waits_yes true false c x y = refl
waits_yes false b c x y = absurd (false≢true x)

waits_no : (a b c : Bool) → c ≡ false → (a && (b && c)) ≡ false
waits_no true true c y = y
waits_no true false c y = refl
waits_no false b c y = refl

waits_never : (a b : Bool) → a ≡ false → (a && b) ≡ false
waits_never true b x = absurd (false≢true (sym x))
waits_never false b x = refl

-- what waits for none
pub waits_for_none : (s : Schedule) (m : OpMoments) (k : ℕ) → (step_of s k).dependent ≡ false → cleared_at s m k ≡ None
waits_for_none s m k free =
    let e : length s.steps ≡ 0 + length s.steps = omega arith in
    ap (λ (n : ℕ). greatest (map m.finish (filter (waits_for s k) (range_with_len 0 n)))) e
    ∙ ap (λ (xs : List ℕ). greatest (map m.finish xs)) (filter_stops (waits_for s k) 0 (length s.steps) (λ j _ _. waits_never (step_of s k).dependent _ free))

-- what waits for the dependencies below a number
pub waits_below : (s : Schedule) (m : OpMoments) (k count : ℕ) → (step_of s k).dependent ≡ true → count ≤ length s.steps
    → ((j : ℕ) → j < length s.steps → nat_le (step_of s j).t (step_of s k).t_d ≡ nat_lt j count) → cleared_at s m k ≡ last_below s m.finish count
waits_below s m k count waits within tells =
    let n : ℕ = length s.steps in
    let e : n ≡ count + (n - count) = omega arith in
    ap (λ (i : ℕ). greatest (map m.finish (filter (waits_for s k) (range_with_len 0 i)))) e
    ∙ ap (λ (xs : List ℕ). greatest (map m.finish xs))
    (filter_stops (waits_for s k) count (n - count)
    (λ j from below. waits_no (step_of s k).dependent (is_dependency s j) (nat_le (step_of s j).t (step_of s k).t_d) (tells j (omega arith) ∙ le-ltb j count from))
    ∙ filter_same (waits_for s k) (is_dependency s) count
    (λ j below. waits_yes (step_of s k).dependent (is_dependency s j) (nat_le (step_of s j).t (step_of s k).t_d) waits (tells j (omega arith) ∙ lt-ltb j count below)))

-- ---- the last Finishes

-- one more is kept
pub lasts_more : (s : Schedule) (f : ℕ → ℕ) (lasts : List (Option ℕ)) (last : Option ℕ) (n : ℕ) → length lasts ≡ n → last ≡ last_below s f n
    → ((i : ℕ) → i < n → get_or lasts i None ≡ last_below s f i) → (i : ℕ) → i < n + 1 → get_or (lasts ++ last ∷ []) i None ≡ last_below s f i
lasts_more s f lasts last n size is each i lt =
    elim (cases_lt i n) [
      | inl below ↦ get_or_append_left lasts (last ∷ []) None i (omega arith) ∙ each i below
      | inr from ↦
          let e : n ≡ i = omega arith in
          get_or_push lasts last None i (size ∙ e) ∙ (is ∙ ap (λ (k : ℕ). last_below s f k) e)
    ]

-- ---- steps that are read

same_step : (s : Schedule) (steps : List Step) (k : ℕ) (d : Step) → steps ≡ s.steps → k < length s.steps → get_or steps k d ≡ step_of s k
same_step s steps k d is lt =
    let size : length steps ≡ length s.steps = ap (λ (xs : List Step). length xs) is in
    get_or_default steps k d no_step (omega arith) ∙ ap (λ (xs : List Step). get_or xs k no_step) is

-- t does not fall along the steps
pub steps_rise : (s : Schedule) (steps : List Step) → steps ≡ s.steps → IsPlanned s → IsNonDecreasingBy (λ (x : Step). x.t) steps
steps_rise s steps is planned i j d le lt =
    let size : length steps ≡ length s.steps = ap (λ (xs : List Step). length xs) is in
    let one : (get_or steps i d).t ≡ (step_of s i).t = ap (λ (x : Step). x.t) (same_step s steps i d is (omega arith)) in
    let other : (get_or steps j d).t ≡ (step_of s j).t = ap (λ (x : Step). x.t) (same_step s steps j d is (omega arith)) in
    omega (arith, t_rises_along s planned i j le (omega arith))

-- where the steps with a t of at most this end
pub count_told : (steps : List Step) (t i : ℕ) → IsPartitionPoint (λ (x : Step). nat_le x.t t ≡ true) (λ (x : Step). nat_le x.t t ≡ false) steps i
    → (k : ℕ) → k < length steps → nat_le (get_or steps k no_step).t t ≡ nat_lt k i
count_told steps t i point k lt =
    elim (cases_lt k i) [
      | inl below ↦ point.0 k no_step (omega arith) below ∙ sym (lt-ltb k i below)
      | inr from ↦ point.1 k no_step from lt ∙ sym (le-ltb k i from)
    ]

-- what is read for a dependent
pub cleared_told : (s : Schedule) (m : OpMoments) (steps : List Step) (lasts : List (Option ℕ)) (k count : ℕ) (d : Step) (found : Option ℕ) → steps ≡ s.steps → k < length s.steps
    → AreLasts s m.finish lasts → (get_or steps k d).dependent ≡ true → count ≤ length steps
    → ((j : ℕ) → j < length steps → nat_le (get_or steps j no_step).t (get_or steps k d).t_d ≡ nat_lt j count) → found ≡ get_or lasts count found → found ≡ cleared_at s m k
cleared_told s m steps lasts k count d found is lt kept waits within tells here =
    let size : length steps ≡ length s.steps = ap (λ (xs : List Step). length xs) is in
    let lasts_size : length lasts ≡ length s.steps + 1 = kept.size in
    let same : get_or steps k d ≡ step_of s k = same_step s steps k d is lt in
    here
    ∙ (get_or_default lasts count found None (omega arith)
    ∙ (kept.each count (omega arith)
    ∙ sym (waits_below s m k count (subst (λ (x : Step). x.dependent ≡ true) same waits) (omega arith)
    (λ j below. subst (λ (x : Step). nat_le (step_of s j).t x.t_d ≡ nat_lt j count) same
    (subst (λ (xs : List Step). nat_le (get_or xs j no_step).t (get_or steps k d).t_d ≡ nat_lt j count) is (tells j (omega arith)))))))

pub free_told : (s : Schedule) (m : OpMoments) (steps : List Step) (k : ℕ) (d : Step) → steps ≡ s.steps → k < length s.steps → (get_or steps k d).dependent ≡ false → None ≡ cleared_at s m k
free_told s m steps k d is lt free = sym (waits_for_none s m k (subst (λ (x : Step). x.dependent ≡ false) (same_step s steps k d is lt) free))

-- the last Finish below the next number
pub last_told : (s : Schedule) (f : ℕ → ℕ) (steps : List Step) (n : ℕ) (d : Step) (last next : Option ℕ) → steps ≡ s.steps → n < length s.steps → last ≡ last_below s f n
    → next ≡ cond (get_or steps n d).dependency (later last (f n)) last → next ≡ last_below s f (n + 1)
last_told s f steps n d last next is lt before here =
    here
    ∙ (ap (λ (x : Step). cond x.dependency (later last (f n)) last) (same_step s steps n d is lt)
    ∙ (ap (λ (o : Option ℕ). cond (is_dependency s n) (later o (f n)) o) before ∙ sym (greatest_next (is_dependency s) f n)))
