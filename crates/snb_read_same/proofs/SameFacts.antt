-- Lists side by side, item by item.
use Rattle.std.proofs.Common.{◌≡◌, ◌↔◌, ℕ, zero, suc, ◌+◌, ◌<◌, false, true, IsTrue, List, [], ◌∷◌, arith, get_or, length, refl, subst, sym, take}
use Rattle.std.proofs.lemmas.List.{take_more}
use Rattle.std.proofs.lemmas.Slice.Zip.{all_zipped_more}
use Rattle.std.specs.List.{AllZip}

-- what doesn't hold is answered with false
pub not_so : {P : Type 0} → (P → ⊥) → IsTrue false ↔ P
not_so none = (λ f. (let told : false ≡ true = f in cc), λ p. absurd (none p))

module _ {A B : Type 0} (R : A → B → Type 0) where
  pub zip_at : (xs : List A) (ys : List B) (k : ℕ) (x : A) (y : B) → k < length xs → x ≡ get_or xs k x → y ≡ get_or ys k y → AllZip R xs ys → R x y
  zip_at [] ys k x y low e f z = absurd (omega arith)
  zip_at (a ∷ xs) [] k x y low e f z = absurd z
  zip_at (a ∷ xs) (b ∷ ys) zero x y low e f z = subst (λ w. R w y) (sym e) (subst (R a) (sym f) z.0)
  zip_at (a ∷ xs) (b ∷ ys) (suc k) x y low e f z = zip_at xs ys k x y (omega arith) e f z.1

  pub zip_next : (xs : List A) (ys : List B) (k : ℕ) (x : A) (y : B) → k < length xs → k < length ys → x ≡ get_or xs k x → y ≡ get_or ys k y
      → AllZip R (take k xs) (take k ys) → R x y → AllZip R (take (k + 1) xs) (take (k + 1) ys)
  zip_next xs ys k x y low high e f z r =
      rw (take_more xs k x low, take_more ys k y high) (all_zipped_more R (take k xs) (take k ys) _ _ z (subst (λ w. R w (get_or ys k y)) e (subst (R x) f r)))

-- lists of equal items are equal
pub lists_equal : {X : Type 0} (R : X → X → Type 0) → ((x y : X) → R x y ↔ (x ≡ y)) → (xs ys : List X) → AllZip R xs ys ↔ (xs ≡ ys)
lists_equal R is [] [] = (λ z. refl, λ e. tt)
lists_equal R is [] (y ∷ ys) = (λ z. absurd z, λ e. cc)
lists_equal R is (x ∷ xs) [] = (λ z. absurd z, λ e. cc)
lists_equal R is (x ∷ xs) (y ∷ ys) = (
  λ z. (let first = (is x y).0 z.0 in let others = (lists_equal R is xs ys).0 z.1 in cc),
  λ e. ((is x y).1 (cc), (lists_equal R is xs ys).1 (cc)),
)

pub items_equal : {X : Type 0} (xs ys : List X) → AllZip (λ x y. x ≡ y) xs ys ↔ (xs ≡ ys)
items_equal {X} = lists_equal (λ (x y : X). x ≡ y) (λ x y. (λ e. e, λ e. e))
