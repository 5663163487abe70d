-- Whether a question is decided, and whether something answers it.
use Rattle.std.proofs.Common.{◌≡◌, ◌<◌, ◌≤◌, ◌⊎◌, [], ◌∷◌, ℕ, List, Bool, true, false, refl, subst, inl, inr, length, arith}
use Rattle.std.proofs.lemmas.Bool.{cases_Bool, cases_eq, cases_lt}
use Rattle.std.proofs.lemmas.Bool.Decides.{not_from_Decides}
use Rattle.std.proofs.lemmas.Slice.Eq.{bytes_eq-Decides}
use Rattle.std.specs.List.{AllByRecursion, slice_index}
use Rattle.std.specs.Str.{bytes_eq}
use Rattle.snb_base.specs.Calendar.{IsDigit}
use Rattle.snb_base.specs.Spellings.{Num, value_after}

-- it holds or it doesn't
abbrev pub Decided : Type 0 → Type 0
Decided P = P ⊎ ¬ P

-- something has it, or nothing does
abbrev pub Found : {A : Type 0} → (A → Type 0) → Type 0
Found {A} P = ((a : A) × P a) ⊎ ((a : A) → ¬ P a)

-- two questions, and one under a condition
pub both : {P Q : Type 0} → Decided P → Decided Q → Decided (P × Q)
both (inl p) (inl q) = inl (p, q)
both (inl p) (inr not_q) = inr (λ x. not_q x.1)
both (inr not_p) q = inr (λ x. not_p x.0)

pub where_so : {P Q : Type 0} → Decided P → Decided Q → Decided (P → Q)
where_so p (inl q) = inl (λ x. q)
where_so (inl p) (inr not_q) = inr (λ f. not_q (f p))
where_so (inr not_p) (inr not_q) = inl (λ p. absurd (not_p p))

-- tests, numbers, texts and digits
pub is_true : (b : Bool) → Decided (b ≡ true)
is_true true = inl refl
is_true false = inr (λ q. cc)

pub is_less : (a b : ℕ) → Decided (a < b)
is_less a b = elim (cases_lt a b) [ inl less ↦ inl less | inr more ↦ inr (λ q. omega arith) ]

pub is_at_most : (a b : ℕ) → Decided (a ≤ b)
is_at_most a b = elim (cases_lt b a) [ inl more ↦ inr (λ q. omega arith) | inr less ↦ inl less ]

pub is_text : (x y : List ℕ) → Decided (x ≡ y)
is_text x y = elim (cases_Bool (bytes_eq x y)) [
  | inl e ↦ inl ((bytes_eq-Decides x y).0 e)
  | inr e ↦ inr (not_from_Decides (bytes_eq x y) (bytes_eq-Decides x y) e)
]

pub is_digits : (x : List ℕ) → Decided (AllByRecursion IsDigit x)
is_digits [] = inl tt
is_digits (b ∷ bs) = both (both (is_at_most 48 b) (is_at_most b 57)) (is_digits bs)

-- a text is a number of at most so much, or it isn't
pub number_found : (x : List ℕ) (most : ℕ) → Found (λ n. Num x n most)
number_found x most = elim (both (is_digits x) (both (is_less 0 (length x)) (both (is_at_most (length x) 19) (both (where_so (cases_eq (slice_index x 0) 48) (cases_eq (length x) 1)) (is_at_most (value_after 0 x) most))))) [
  | inl s ↦ inl (value_after 0 x, record { digits = s.0; some = s.1.0; few = s.1.1.0; no_lead = s.1.1.1.0; value = refl; small = s.1.1.1.1 })
  | inr never ↦ inr (λ n s. never (s.digits, (s.some, (s.few, (s.no_lead, subst (λ k. k ≤ most) s.value s.small)))))
]
