-- Facts on the sets of operations that are waited for.
use Rattle.std.proofs.Common.{◌≡◌, ℕ, ◌+◌, ◌<◌, ◌≤◌, Bool, true, false, ◌&&◌, ◌||◌, not, cond, List, [], ◌∷◌, length, get_or, take, refl, sym, ap, ◌∙◌, subst, inl, inr, arith, eqb, ltb, BTreeSet}
use Rattle.std.specs.Prelude.{◌==◌, nat_lt, Contains}
use Rattle.std.specs.BTreeMap.{is_at}
use Rattle.std.specs.List.{list_any}
use Rattle.std.specs.Ordering.{nat_cmp}
use Rattle.std.proofs.lemmas.Bool.{cases_lt, cases_eq, eq-eqb, ne_eqb, eqb-true, lt-ltb, le-ltb, ltb-true, and_parts, and_from}
use Rattle.std.proofs.lemmas.Bool.Decides.{nat_tests, same_from_decides}
use Rattle.std.proofs.lemmas.List.{take_all}
use Rattle.std.proofs.lemmas.List.Folds.{list_any_more, Any-from_list_any, list_any-from_Any}
use Rattle.snb_schema.specs.declared.limits.TheConstants.{MAX_TIME}
use Rattle.snb_history.specs.Schedule.{Schedule, step_of, IsOperation, IsPlanned, IsLane, is_dependency}
use Rattle.snb_history.specs.Completion.{least_t}
use Rattle.snb_completion.specs.Waiting.{has, HasThose}
use Rattle.snb_history.proofs.Laws.{le-least_of, least_of-le, least_of-reached, t_rises_along}

-- a number finds itself alone
pub finds-eqb : (j k : ℕ) → is_at (nat_cmp j) k ≡ eqb j k
finds-eqb j k = grind (arith, nat_tests)

-- a set without keys has nothing
pub has-none : (set : BTreeSet ℕ) (k : ℕ) → set.keys ≡ [] → has set k ≡ false
has-none set k empty = rw empty refl

pub HasThose-none : (set : BTreeSet ℕ) (p : ℕ → Bool) → set.keys ≡ [] → HasThose set 0 p
HasThose-none set p empty = record { each = λ k. has-none set k empty ∙ sym (rw (le-ltb k 0 (omega arith)) refl) }

-- one more number is tried, and is put in
pub HasThose-insert : (old new : BTreeSet ℕ) (n : ℕ) (p : ℕ → Bool) → HasThose old n p → p n ≡ true
    → ((k : ℕ) → has new k ≡ cond (is_at (nat_cmp n) k) true (has old k)) → HasThose new (n + 1) p
HasThose-insert old new n p those passes updates = record { each = each }
  where
    each : (k : ℕ) → has new k ≡ (nat_lt k (n + 1) && p k)
    each k = updates k ∙ ap (λ b. cond b true (has old k)) (finds-eqb n k) ∙ (elim (cases_eq n k) [
      | inl here ↦
          let yes_here : eqb n k ≡ true = eq-eqb n k here in
          let passes_k : p k ≡ true = subst (λ (i : ℕ). p i ≡ true) here passes in
          let below : ltb k (n + 1) ≡ true = lt-ltb k (n + 1) (omega arith) in
          rw (yes_here, passes_k, below) refl
      | inr other ↦
          let not_here : eqb n k ≡ false = ne_eqb n k other in
          let h : has old k ≡ (nat_lt k n && p k) = those.each k in
          let same : ltb k (n + 1) ≡ ltb k n = elim (cases_lt k n) [
            | inl lt ↦ lt-ltb k (n + 1) (omega arith) ∙ sym (lt-ltb k n lt)
            | inr ge ↦ le-ltb k (n + 1) (let a : n < k = omega (arith, other) in omega arith) ∙ sym (le-ltb k n ge)
          ] in
          rw (not_here, same) h
    ])

-- one more number is tried, and is passed over
pub HasThose-skip : (set : BTreeSet ℕ) (n : ℕ) (p : ℕ → Bool) → HasThose set n p → p n ≡ false → HasThose set (n + 1) p
HasThose-skip set n p those fails = record { each = each }
  where
    each : (k : ℕ) → has set k ≡ (nat_lt k (n + 1) && p k)
    each k = those.each k ∙ (elim (cases_eq n k) [
      | inl here ↦ (let fails_k : p k ≡ false = subst (λ (i : ℕ). p i ≡ false) here fails in elim (cases_lt k n) [
        | inl lt ↦ absurd (omega arith)
        | inr ge ↦ (let a : ltb k n ≡ false = le-ltb k n ge in let b : ltb k (n + 1) ≡ true = lt-ltb k (n + 1) (omega arith) in rw (a, b, fails_k) refl)
      ])
      | inr other ↦ elim (cases_lt k n) [
        | inl lt ↦ (let a : ltb k n ≡ true = lt-ltb k n lt in let b : ltb k (n + 1) ≡ true = lt-ltb k (n + 1) (omega arith) in rw (a, b) refl)
        | inr ge ↦
            (let past : n < k = omega (arith, other) in
            let a : ltb k n ≡ false = le-ltb k n ge in let b : ltb k (n + 1) ≡ false = le-ltb k (n + 1) (omega arith) in rw (a, b) refl)
      ]
    ])

-- tests that agree on the numbers below n
pub HasThose-same : (set : BTreeSet ℕ) (n : ℕ) (p q : ℕ → Bool) → HasThose set n p → ((k : ℕ) → k < n → p k ≡ q k) → HasThose set n q
HasThose-same set n p q those same = record { each = each }
  where
    each : (k : ℕ) → has set k ≡ (nat_lt k n && q k)
    each k = those.each k ∙ (elim (cases_lt k n) [
      | inl lt ↦ rw (same k lt) refl
      | inr ge ↦ (let a : ltb k n ≡ false = le-ltb k n ge in rw a refl)
    ])

-- a number is taken out
pub HasThose-remove : (old new : BTreeSet ℕ) (n op : ℕ) (p : ℕ → Bool) → HasThose old n p
    → ((k : ℕ) → has new k ≡ cond (is_at (nat_cmp op) k) false (has old k)) → HasThose new n (λ k. p k && not (eqb op k))
HasThose-remove old new n op p those updates = record { each = each }
  where
    drops : (here lt b : Bool) → cond here false (lt && b) ≡ (lt && (b && not here))
    drops true true true = refl
    drops true true false = refl
    drops true false b = refl
    drops false true true = refl
    drops false true false = refl
    drops false false b = refl

    each : (k : ℕ) → has new k ≡ (nat_lt k n && (p k && not (eqb op k)))
    each k =
        updates k
        ∙ ap (λ b. cond b false (has old k)) (finds-eqb op k)
        ∙ ap (λ b. cond (eqb op k) false b) (those.each k)
        ∙ drops (eqb op k) (nat_lt k n) (p k)

-- the set has those of these numbers that pass the test
pub record HasAmong (set : BTreeSet ℕ) (numbers : List ℕ) (p : ℕ → Bool) : Type 0 where
  pub each : (k : ℕ) → has set k ≡ (list_any (λ x. x == k) numbers && p k)

pub HasAmong-none : (set : BTreeSet ℕ) (numbers : List ℕ) (p : ℕ → Bool) → set.keys ≡ [] → HasAmong set (take 0 numbers) p
HasAmong-none set [] p empty = record { each = λ k. has-none set k empty }
HasAmong-none set (x ∷ xs) p empty = record { each = λ k. has-none set k empty }

pub HasAmong-insert : (old new : BTreeSet ℕ) (numbers : List ℕ) (i op : ℕ) (p : ℕ → Bool) → i < length numbers → op ≡ get_or numbers i 0
    → HasAmong old (take i numbers) p → p op ≡ true → ((k : ℕ) → has new k ≡ cond (is_at (nat_cmp op) k) true (has old k))
    → HasAmong new (take (i + 1) numbers) p
HasAmong-insert old new numbers i op p within is those passes updates = record { each = each }
  where
    puts : (any here b : Bool) → (here ≡ true → b ≡ true) → cond here true (any && b) ≡ ((any || here) && b)
    puts true true b f = rw (f refl) refl
    puts false true b f = rw (f refl) refl
    puts true false b f = refl
    puts false false b f = refl

    each : (k : ℕ) → has new k ≡ (list_any (λ x. x == k) (take (i + 1) numbers) && p k)
    each k =
        updates k
        ∙ ap (λ b. cond b true (has old k)) (finds-eqb op k)
        ∙ ap (λ b. cond (eqb op k) true b) (those.each k)
        ∙ puts (list_any (λ x. x == k) (take i numbers)) (eqb op k) (p k) (λ h. subst (λ (j : ℕ). p j ≡ true) (eqb-true op k h) passes)
        ∙ ap (λ x. (list_any (λ y. y == k) (take i numbers) || eqb x k) && p k) is
        ∙ ap (λ b. b && p k) (sym (list_any_more (λ x. x == k) numbers i 0 within))

pub HasAmong-skip : (set : BTreeSet ℕ) (numbers : List ℕ) (i op : ℕ) (p : ℕ → Bool) → i < length numbers → op ≡ get_or numbers i 0
    → HasAmong set (take i numbers) p → p op ≡ false → HasAmong set (take (i + 1) numbers) p
HasAmong-skip set numbers i op p within is those fails = record { each = each }
  where
    skips : (any here b : Bool) → (here ≡ true → b ≡ false) → (any && b) ≡ ((any || here) && b)
    skips true here b f = refl
    skips false true b f = rw (f refl) refl
    skips false false b f = refl

    each : (k : ℕ) → has set k ≡ (list_any (λ x. x == k) (take (i + 1) numbers) && p k)
    each k =
        those.each k
        ∙ skips (list_any (λ x. x == k) (take i numbers)) (eqb op k) (p k) (λ h. subst (λ (j : ℕ). p j ≡ false) (eqb-true op k h) fails)
        ∙ ap (λ x. (list_any (λ y. y == k) (take i numbers) || eqb x k) && p k) is
        ∙ ap (λ b. b && p k) (sym (list_any_more (λ x. x == k) numbers i 0 within))

contains_any : (numbers : List ℕ) (k : ℕ) → Contains numbers k → list_any (λ x. x == k) numbers ≡ true
contains_any numbers k at = list_any-from_Any (λ x. x == k) numbers (at.0, k, at.1, at.2, eq-eqb k k refl)

any_contains : (numbers : List ℕ) (k : ℕ) → list_any (λ x. x == k) numbers ≡ true → Contains numbers k
any_contains numbers k found =
    let at = Any-from_list_any (λ x. x == k) numbers found in
    subst (λ (x : ℕ). Contains numbers x) (eqb-true at.1 k at.4) (at.0, at.2, at.3)

-- the numbers of a lane are all tried
pub HasAmong-lane : (set : BTreeSet ℕ) (s : Schedule) (lane i : ℕ) (numbers : List ℕ) → IsLane s lane numbers → length numbers ≤ i
    → HasAmong set (take i numbers) (is_dependency s) → HasThose set (length s.steps) (λ k. ((step_of s k).lane == lane) && is_dependency s k)
HasAmong-lane set s lane i numbers is_lane all those = record { each = each }
  where
    regroup : (a b c : Bool) → ((a && b) && c) ≡ (a && (b && c))
    regroup true b c = refl
    regroup false b c = refl

    in_lane : (k : ℕ) → list_any (λ x. x == k) numbers ≡ (nat_lt k (length s.steps) && ((step_of s k).lane == lane))
    in_lane k = same_from_decides {P = IsOperation s k × ((step_of s k).lane ≡ lane)} (list_any (λ x. x == k) numbers) (nat_lt k (length s.steps) && ((step_of s k).lane == lane))
        (λ found. (is_lane.theirs k).0 (any_contains numbers k found), λ theirs. contains_any numbers k ((is_lane.theirs k).1 theirs)) (
          λ both. let parts = and_parts (nat_lt k (length s.steps)) ((step_of s k).lane == lane) both in (ltb-true k (length s.steps) parts.0, eqb-true (step_of s k).lane lane parts.1),
          λ theirs. and_from (nat_lt k (length s.steps)) ((step_of s k).lane == lane) (lt-ltb k (length s.steps) theirs.0) (eq-eqb (step_of s k).lane lane theirs.1),
        )

    each : (k : ℕ) → has set k ≡ (nat_lt k (length s.steps) && (((step_of s k).lane == lane) && is_dependency s k))
    each k =
        those.each k
        ∙ ap (λ (l : List ℕ). list_any (λ x. x == k) l && is_dependency s k) (take_all i numbers all)
        ∙ ap (λ b. b && is_dependency s k) (in_lane k)
        ∙ regroup (nat_lt k (length s.steps)) ((step_of s k).lane == lane) (is_dependency s k)

-- nothing is waited for
pub least_t-none : (s : Schedule) (p : ℕ → Bool) → ((k : ℕ) → k < length s.steps → p k ≡ false) → least_t s p ≡ MAX_TIME + 1
least_t-none s p none =
    elim (least_of-reached (λ k. (step_of s k).t) (MAX_TIME + 1) p (length s.steps)) [
      | inl top ↦ top
      | inr w ↦ absurd (let a = none w.0 w.1 in let b = w.2 in cc)
    ]

-- the first in number is the least in t
pub least_t-first : (s : Schedule) (p : ℕ → Bool) (k : ℕ) → IsPlanned s → IsOperation s k → p k ≡ true
    → ((q : ℕ) → q < length s.steps → p q ≡ true → k ≤ q) → least_t s p ≡ (step_of s k).t
least_t-first s p k planned within passes first =
    let small : (step_of s k).t ≤ MAX_TIME + 1 = (let t = planned.timed k within in omega arith) in
    let low = le-least_of (λ j. (step_of s j).t) (MAX_TIME + 1) p (length s.steps) (step_of s k).t small
    (λ q lt passes_q. t_rises_along s planned k q (first q lt passes_q) lt) in
    let high = least_of-le (λ j. (step_of s j).t) (MAX_TIME + 1) p (length s.steps) k within passes in
    omega (arith, low, high)
