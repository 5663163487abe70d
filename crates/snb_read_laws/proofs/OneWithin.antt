-- There is one list of the persons within a distance.
use Rattle.std.proofs.Common.{◌≡◌, ◌∙◌, ◌↔◌, ℕ, suc, ◌<◌, List, [], ◌∷◌, ap, arith, inl, inr, refl, subst, sym}
use Rattle.std.specs.List.{AllPairs, Contains}
use Rattle.snb_schema.specs.declared.row.Row.{Row}
use Rattle.snb_base.proofs.Laws.{contains_cases, contains_here, contains_there, none_in}
use Rattle.snb_read_model.specs.Distance.{IsWithin}

-- pairs by rising id
abbrev pub Rises : List (ℕ × ℕ) → Type 0
Rises = AllPairs (λ (x : ℕ × ℕ) (y : ℕ × ℕ). x.0 < y.0)

above : (x : ℕ × ℕ) (xs : List (ℕ × ℕ)) (z : ℕ × ℕ) → Rises (x ∷ xs) → Contains xs z → x.0 < z.0
above x xs z rises (k, small, is) = subst (λ (w : ℕ × ℕ). x.0 < w.0) is (rises 0 (suc k) z (omega arith) (omega arith))

later : (x : ℕ × ℕ) (xs : List (ℕ × ℕ)) → Rises (x ∷ xs) → Rises xs
later x xs rises i j d low small = rises (suc i) (suc j) d (omega arith) (omega arith)

-- what stands after the first stands after the first of the other list
after : (x : ℕ × ℕ) (xs : List (ℕ × ℕ)) (y : ℕ × ℕ) (ys : List (ℕ × ℕ)) (z : ℕ × ℕ) → Rises (x ∷ xs) → x ≡ y → Contains xs z → Contains (y ∷ ys) z → Contains ys z
after x xs y ys z rises same c d = elim (contains_cases y ys z d) [
  | inl e ↦ (let up = above x xs z rises c in
      let level : x.0 ≡ z.0 = ap (λ (w : ℕ × ℕ). w.0) (same ∙ e) in
      absurd (omega (arith, up, level)))
  | inr f ↦ f
]

-- two lists by rising id with the same pairs are one
pub same_rising : (xs ys : List (ℕ × ℕ)) → Rises xs → Rises ys → ((z : ℕ × ℕ) → Contains xs z ↔ Contains ys z) → xs ≡ ys
same_rising [] [] r s same = refl
same_rising [] (y ∷ ys) r s same = absurd (none_in y ((same y).1 (contains_here y ys)))
same_rising (x ∷ xs) [] r s same = absurd (none_in x ((same x).0 (contains_here x xs)))
same_rising (x ∷ xs) (y ∷ ys) r s same =
    let heads : x ≡ y = elim (contains_cases y ys x ((same x).0 (contains_here x xs))) [
      | inl e ↦ sym e
      | inr c ↦ elim (contains_cases x xs y ((same y).1 (contains_here y ys))) [
        | inl e ↦ e
        | inr d ↦ (let up = above x xs y r d in
            let down = above y ys x s c in
            absurd (omega (arith, up, down)))
      ]
    ] in
    let tails : xs ≡ ys = same_rising xs ys (later x xs r) (later y ys s) (λ z. (
      λ c. after x xs y ys z r heads c ((same z).0 (contains_there x xs z c)),
      λ c. after y ys x xs z s (sym heads) c ((same z).1 (contains_there y ys z c)),
    )) in
    λ i. heads i ∷ tails i

pub one_within : (g : List Row) (start steps : ℕ) (near other : List (ℕ × ℕ)) → IsWithin g start steps near → IsWithin g start steps other → near ≡ other
one_within g start steps near other f h =
    same_rising near other f.rises h.rises (λ z. (λ c. (h.exact z.0 z.1).1 ((f.exact z.0 z.1).0 c), λ c. (f.exact z.0 z.1).1 ((h.exact z.0 z.1).0 c)))
