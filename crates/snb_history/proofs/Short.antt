-- How long a legal history is, and how late its events.
use Rattle.std.proofs.Common.{◌≡◌, ℕ, zero, suc, ◌+◌, ◌<◌, ◌≤◌, List, [], ◌∷◌, ◌++◌, length, Bool, true, false, cond, inl, inr, refl, subst, arith, eqb, length-append}
use Rattle.std.proofs.lemmas.Bool.{cases_lt, eq-eqb, ne_eqb}
use Rattle.snb_history.specs.declared.event.Event.{Event}
use Rattle.snb_history.specs.declared.event.Event.TheVariants.{Start, Finish, Halt}
use Rattle.snb_schema.specs.declared.limits.TheConstants.{MAX_AT}
use Rattle.snb_history.specs.Schedule.{Schedule}
use Rattle.snb_history.specs.History.{has_moment, halts, started, finished, halted, moment, last}
use Rattle.snb_history.specs.Rules.{Fits, IsLegal, V1, V2, V7}
use Rattle.snb_history.specs.ScheduleLaws.{LegalIsShort, LastIsBounded}
use Rattle.snb_history.proofs.Pushes.{list_any-push, find-reverse_push}
use Rattle.snb_history.proofs.Histories.{IsLegal-front, Fits-last}
use Rattle.snb_history.proofs.Held.{keeps_legal, started-push, finished-push}
use Rattle.snb_base.proofs.Laws.{by_push}

-- how many of the numbers below n pass the test
abbrev count_to : (ℕ → Bool) → ℕ → ℕ
count_to p zero = 0
count_to p (suc n) = cond (p n) 1 0 + count_to p n

count_to-le : (p : ℕ → Bool) (n : ℕ) → count_to p n ≤ n
count_to-le p zero = omega arith
count_to-le p (suc n) = let ih = count_to-le p n in grind arith

count_to-same : (p q : ℕ → Bool) (n : ℕ) → ((k : ℕ) → k < n → q k ≡ p k) → count_to q n ≡ count_to p n
count_to-same p q zero same = refl
count_to-same p q (suc n) same = let ih = count_to-same p q n (λ k lt. same k (omega arith)) in let e = same n (omega arith) in grind arith

-- one more number passes
count_to-more : (p q : ℕ → Bool) (n i : ℕ) → i < n → p i ≡ false → ((k : ℕ) → q k ≡ cond (eqb i k) true (p k)) → count_to q n ≡ count_to p n + 1
count_to-more p q zero i lt fresh one = absurd (omega arith)
count_to-more p q (suc n) i lt fresh one =
    elim (cases_lt i n) [
      | inl below ↦
          let ih = count_to-more p q n i below fresh one in
          let e = one n in
          let ne : eqb i n ≡ false = ne_eqb i n (λ e. omega arith) in
          grind arith
      | inr above ↦
          let e : i ≡ n = omega arith in
          let a : q n ≡ true = (let o = one n in let y = eq-eqb i n e in grind arith) in
          let b : p n ≡ false = subst (λ (k : ℕ). p k ≡ false) e fresh in
          let c = count_to-same p q n (λ k lt. let o = one k in let ne : eqb i k ≡ false = ne_eqb i k (λ e. omega arith) in grind arith) in
          grind arith
    ]

-- one more event halts whom it halts, and leaves the rest
pub halted-push : (h : List Event) (e : Event) (w : ℕ) → halted (h ++ e ∷ []) w ≡ cond (halts w e) true (halted h w)
halted-push h e w = list_any-push (halts w) h e

-- the events are those of what is started, finished and halted
IsCounted : Schedule → ℕ → List Event → Type 0
IsCounted s workers h = length h ≡ count_to (started h) (length s.steps) + count_to (finished h) (length s.steps) + count_to (halted h) workers

counted-event : (s : Schedule) (workers : ℕ) (h : List Event) (e : Event) → IsLegal s workers h → Fits s workers h e → IsCounted s workers h → IsCounted s workers (h ++ e ∷ [])
unfolding IsCounted
counted-event s workers h (Start op worker at) legal fits is =
    let e : Event = Start op worker at in
    let size = length-append h (e ∷ []) in
    let a = count_to-more (started h) (started (h ++ e ∷ [])) (length s.steps) op (fits.obeys V1).0 (fits.obeys V2).fresh (λ k. started-push h e k) in
    let b = count_to-same (finished h) (finished (h ++ e ∷ [])) (length s.steps) (λ k lt. finished-push h e k) in
    let c = count_to-same (halted h) (halted (h ++ e ∷ [])) workers (λ k lt. halted-push h e k) in
    omega arith
counted-event s workers h (Finish op worker at front) legal fits is =
    let e : Event = Finish op worker at front in
    let size = length-append h (e ∷ []) in
    let a = count_to-same (started h) (started (h ++ e ∷ [])) (length s.steps) (λ k lt. started-push h e k) in
    let b = count_to-more (finished h) (finished (h ++ e ∷ [])) (length s.steps) op (fits.obeys V1).0 ((keeps_legal s workers h legal).held_open worker op (fits.obeys V7)) (λ k. finished-push h e k) in
    let c = count_to-same (halted h) (halted (h ++ e ∷ [])) workers (λ k lt. halted-push h e k) in
    omega arith
counted-event s workers h (Halt worker) legal fits is =
    let e : Event = Halt worker in
    let size = length-append h (e ∷ []) in
    let a = count_to-same (started h) (started (h ++ e ∷ [])) (length s.steps) (λ k lt. started-push h e k) in
    let b = count_to-same (finished h) (finished (h ++ e ∷ [])) (length s.steps) (λ k lt. finished-push h e k) in
    let c = count_to-more (halted h) (halted (h ++ e ∷ [])) workers worker (fits.obeys V1).known (fits.obeys V1).running (λ k. halted-push h e k) in
    omega arith

counted_none : (p : ℕ → Bool) (n : ℕ) → ((k : ℕ) → p k ≡ false) → count_to p n ≡ 0
counted_none p zero none = refl
counted_none p (suc n) none = let ih = counted_none p n none in let e = none n in grind arith

counted_legal : (s : Schedule) (workers : ℕ) (h : List Event) → IsLegal s workers h → IsCounted s workers h
unfolding IsCounted
counted_legal s workers h =
    by_push (λ g. IsLegal s workers g → IsCounted s workers g)
    (λ legal. let a = counted_none (started []) (length s.steps) (λ k. refl) in let b = counted_none (finished []) (length s.steps) (λ k. refl) in let c = counted_none (halted []) workers (λ k. refl) in omega arith)
    (λ g e ih legal. let before = IsLegal-front s workers g (e ∷ []) legal in counted-event s workers g e before (Fits-last s workers g e legal) (ih before))
    h

-- a legal history has at most two events for each operation and one for each worker
pub legal_is_short : LegalIsShort
unfolding IsCounted
legal_is_short s workers h legal =
    let c : IsCounted s workers h = counted_legal s workers h legal in
    let x = count_to-le (started h) (length s.steps) in
    let y = count_to-le (finished h) (length s.steps) in
    let z = count_to-le (halted h) workers in
    omega arith

-- the last moment after one more event
pub last-push : (h : List Event) (e : Event) → last (h ++ e ∷ []) ≡ cond (has_moment e) (moment e) (last h)
last-push h (Start op worker at) = let e = find-reverse_push has_moment h (Start op worker at) in grind arith
last-push h (Finish op worker at front) = let e = find-reverse_push has_moment h (Finish op worker at front) in grind arith
last-push h (Halt worker) = let e = find-reverse_push has_moment h (Halt worker) in grind arith

-- no moment of a legal history is above the greatest
pub last_is_bounded : LastIsBounded
last_is_bounded s workers h =
    by_push (λ g. IsLegal s workers g → last g ≤ MAX_AT)
    (λ legal. omega arith)
    (λ g e ih legal.
    let before = ih (IsLegal-front s workers g (e ∷ []) legal) in
    let small : moment e ≤ MAX_AT = legal.bounded g e [] refl in
    let p = last-push g e in
    grind arith)
    h
