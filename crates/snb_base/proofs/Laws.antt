-- What other crates may cite: how numbers are spelled, facts about lists that no library states, and what calls that count faults do together.
use Rattle.std.proofs.Common.{◌≡◌, ◌≢◌, ℕ, zero, suc, ◌<◌, List, [], ◌∷◌, ◌++◌, Option, refl, sym, ◌∙◌, ◌⊎◌, inl, inr, subst, arith, Bool, true, false, All}
use Rattle.std.proofs.lemmas.Bool.{cases_Bool, cases_lt}
use Rattle.std.proofs.lemmas.List.Elements.{All-head, All-tail}
use Rattle.snb_base.specs.Shelf.{Counts, Files, HasCounted, HasRead, Names}
pub use Rattle.snb_base.proofs.ListLemmas.{all_at, all_back, all_of, all_recursive, any_of, at_contains, by_push, contains_at, contains_cases, contains_here, contains_map, contains_there, each_at, each_made, first_same, from_any, get_or-set, given_by, gives, in_filter, in_flat, in_map, in_one, none_in, not_empty, one_only, pairs_append, pairs_head, pairs_none, pairs_tail, prefix-length, prefix-refl, push_all, push_split, same_list_split, shuffled, slice_get-prefix, some_got, split_at, split_here, two_swapped}
pub use Rattle.snb_base.proofs.OutcomeLemmas.{compares_greater, compares_less, equal_from, if_ok, min_is, none_of, none_some, not_held, on_any_err, one_number, same_number, then_equal, then_last}
pub use Rattle.snb_base.proofs.Deciding.{both, Decided, Found, is_at_most, is_digits, is_less, is_text, is_true, number_found, where_so}
pub use Rattle.snb_base.proofs.Digits.{number_spelled, own_digits}

-- a text is cut at its first c in one way
pub one_cut : (c : ℕ) (a b x y : List ℕ) → All (λ d. d ≢ c) a → All (λ d. d ≢ c) x → a ++ c ∷ b ≡ x ++ c ∷ y → (a ≡ x) × (b ≡ y)
one_cut c [] b [] y h k e = (refl, cc)
one_cut c [] b (z ∷ x) y h k e = absurd (All-head (λ d. d ≢ c) z x k (cc))
one_cut c (z ∷ a) b [] y h k e = absurd (All-head (λ d. d ≢ c) z a h (cc))
one_cut c (z ∷ a) b (w ∷ x) y h k e =
    let rest : a ++ c ∷ b ≡ x ++ c ∷ y = cc in
    let same = one_cut c a b x y (All-tail (λ d. d ≢ c) z a h) (All-tail (λ d. d ≢ c) w x k) rest in
    let first : z ≡ w = cc in
    let front : a ≡ x = same.0 in
    (cc, same.1)

-- what is true of 0 and 1
pub by_two : (P : ℕ → Type 0) → P 0 → P 1 → (k : ℕ) → k < 2 → P k
by_two P at_zero at_one zero lt = at_zero
by_two P at_zero at_one (suc zero) lt = at_one
by_two P at_zero at_one (suc (suc k)) lt = absurd (omega arith)

-- the least number below n that fails a test, where one does
pub record IsLeastFailing (p : ℕ → Bool) (n m : ℕ) : Type 0 where
  pub within : m < n
  pub fails : p m ≡ false
  pub before : (j : ℕ) → j < m → p j ≡ true

-- all numbers below n pass a test, or there is a least one that fails it
pub least_failing : (p : ℕ → Bool) (n : ℕ) → ((j : ℕ) → j < n → p j ≡ true) ⊎ ((m : ℕ) × IsLeastFailing p n m)
least_failing p zero = inl (λ j lt. absurd (omega arith))
least_failing p (suc n) =
    elim (least_failing p n) [
      | inr found ↦ let f : IsLeastFailing p n found.0 = found.1 in inr (found.0, record { within = let w = f.within in omega arith; fails = f.fails; before = f.before })
      | inl all ↦ elim (cases_Bool (p n)) [
        | inl passes ↦ inl (λ j lt. elim (cases_lt j n) [ inl below ↦ all j below | inr here ↦ let e : n ≡ j = omega arith in subst (λ (i : ℕ). p i ≡ true) e passes ])
        | inr fails ↦ inr (n, record { within = omega arith; fails = fails; before = all })
      ]
    ]

-- what two calls count of which the first didn't fail is what one call counts
pub counted_after : {failed : Bool} {first mid last : ℕ} → HasCounted false first mid → HasCounted failed mid last → HasCounted failed first last
counted_after {failed} {first} {mid} {last} a b = record {
  later = (let p = a.later in let q = b.later in omega (arith, p, q));
  told = subst (λ n. Counts failed n last) a.told b.told;
}

-- two calls that read, of which the first didn't fail, do to a shelf what one call does
pub read_after : {failed : Bool} {files : Option Files} {may : Names} {first : ℕ} {between : Option Files} {might : Names} {mid : ℕ} {after : Option Files} {names : Names} {last : ℕ}
    → HasRead false files may first between might mid → HasRead failed between might mid after names last → HasRead failed files may first after names last
read_after {failed} {files} {may} {first} {between} {might} {mid} {after} {names} {last} a b = record {
  same = b.same ∙ a.same;
  names = b.names ∙ a.names;
  later = (let p = a.later in let q = b.later in omega (arith, p, q));
  told = subst (λ n. Counts failed n last) a.told b.told;
}

-- what reads without a fault, and then fails in no way of the shelf's
pub read_well : {failed : Bool} {files : Option Files} {may : Names} {first : ℕ} {after : Option Files} {names : Names} {last : ℕ} → failed ≡ false
    → HasRead false files may first after names last → HasRead failed files may first after names last
read_well {failed} {files} {may} {first} {after} {names} {last} well a = subst (λ b. HasRead b files may first after names last) (sym well) a
