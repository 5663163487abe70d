-- Loops over a person's friends, and over the persons of a level.
use Rattle.std.proofs.Common.{◌≡◌, ◌⊎◌, ℕ, ◌+◌, ◌<◌, ◌≤◌, true, List, [], ◌∷◌, length, get_or, ap, subst, inl, inr, arith}
use Rattle.std.proofs.lemmas.Bool.{cases_lt}
use Rattle.std.proofs.lemmas.List.{get_or_default}
use Rattle.std.proofs.lemmas.List.Sorted.{Contains-permutation, IsPermutation-sym}
use Rattle.std.specs.List.{All, Contains}
use Rattle.std.specs.List.Sorted.{IsPermutation}
use Rattle.snb_schema.specs.declared.row.Row.{Row}
use Rattle.snb_schema.specs.declared.row.Row.TheVariants as row
use Rattle.snb_schema.specs.declared.table.Kind.TheVariants as kinds
use Rattle.snb_schema.specs.declared.table.Table.TheVariants as table
use Rattle.snb_graph_model.specs.Soundness.{HoldsRefs}
use Rattle.snb_graph_model.specs.Around.{friends, is_friend}
use Rattle.snb_read_model.specs.Distance.{IsPerson}
use Rattle.snb_graph_model.proofs.Laws.{Friendship, friend_here, friend_tells, friend_there, friend_told}
use Rattle.snb_base.proofs.Laws.{contains_cases, contains_there}

-- the friends that a walk has still to give are friends held, and all others are met
pub record IsLooking (g : List Row) (p : ℕ) (left : List (ℕ × ℕ)) (IsMet : ℕ → Type 0) : Type 0 where
  pub friends : (q d : ℕ) → Contains left (q, d) → (is_friend g p q ≡ true) × IsPerson g q
  pub others : (q : ℕ) → is_friend g p q ≡ true → IsMet q ⊎ ((d : ℕ) × Contains left (q, d))

module _ (g : List Row) (p : ℕ) where
  pub looks : (left : List (ℕ × ℕ)) (IsMet : ℕ → Type 0) → HoldsRefs g → IsPermutation (friends g p) left → IsLooking g p left IsMet
  looks left IsMet held are = record {
    friends = λ q d c. (let f = friend_there g p q d (Contains-permutation left (friends g p) (q, d) (IsPermutation-sym (friends g p) left are) c) in (friend_tells g p q d f, known q d f));
    others = λ q e. (let (d, f) = friend_told g p q e in inr (d, Contains-permutation (friends g p) left (q, d) are (friend_here g p q d f)));
  }
    where
      known : (q d : ℕ) → Friendship g p q d → IsPerson g q
      known q d (inl c) = held (row.Dated table.PersonKnowsPerson p q d) c 1 (0, record { kind = kinds.Person; id = 0 }) (omega arith)
      known q d (inr c) = held (row.Dated table.PersonKnowsPerson q p d) c 0 (0, record { kind = kinds.Person; id = 0 }) (omega arith)

  pub looked : (left rest : List (ℕ × ℕ)) (q d : ℕ) (IsMet IsMet' : ℕ → Type 0) → left ≡ (q, d) ∷ rest → ((r : ℕ) → IsMet r → IsMet' r) → IsMet' q → IsLooking g p left IsMet → IsLooking g p rest IsMet'
  looked left rest q d IsMet IsMet' is stays here looking = record {
    friends = λ r e c. looking.friends r e (rw is (contains_there (q, d) rest (r, e) c));
    others = λ r e. elim (looking.others r e) [
      | inl h ↦ inl (stays r h)
      | inr (f, c) ↦ elim (contains_cases (q, d) rest (r, f) (rw is at c)) [
        | inl same ↦ inl (subst IsMet' (ap (λ (x : ℕ × ℕ). x.0) same) here)
        | inr later ↦ inr (f, later)
      ]
    ];
  }

  pub all_looked : (left : List (ℕ × ℕ)) (IsMet : ℕ → Type 0) → left ≡ [] → IsLooking g p left IsMet → (q : ℕ) → is_friend g p q ≡ true → IsMet q
  all_looked left IsMet none looking q e = elim (looking.others q e) [ inl h ↦ h | inr (d, c) ↦ (let n : Contains [] (q, d) = rw none at c in absurd (omega (arith, n.1))) ]

module _ (g : List Row) (IsMet IsMet' : ℕ → Type 0) (last : List ℕ) (i : ℕ) where
  -- of the persons so far, and of one more, all friends are met
  pub known_more : (d : ℕ) → i < length last → ((q : ℕ) → IsMet q → IsMet' q) → ((q : ℕ) → is_friend g (get_or last i d) q ≡ true → IsMet' q)
      → ((k e : ℕ) → k < i → (q : ℕ) → is_friend g (get_or last k e) q ≡ true → IsMet q) → (k e : ℕ) → k < i + 1 → (q : ℕ) → is_friend g (get_or last k e) q ≡ true → IsMet' q
  known_more d small stays here before k e below q knows =
      elim (cases_lt k i) as (λ _. IsMet' q) [
        | inl less ↦ stays q (before k e less q knows)
        | inr more ↦ (let same : k ≡ i = omega arith in here q (rw (same, get_or_default last i e d small) at knows))
      ]

pub all_met : (g : List Row) (IsMet : ℕ → Type 0) (last : List ℕ) (i : ℕ) → length last ≤ i → ((k e : ℕ) → k < i → (q : ℕ) → is_friend g (get_or last k e) q ≡ true → IsMet q)
    → All (λ p. (q : ℕ) → is_friend g p q ≡ true → IsMet q) last
all_met g IsMet last i high all k e low q knows = all k e (omega arith) q knows
