-- As many elements as numbers, each with an id of its own among the numbers: each number is the id of one.
use Rattle.std.proofs.Common.{◌≡◌, ℕ, Bool, true, false, List, [], ◌∷◌, length, map, eqb, eqb-true, refl, sym, ◌∙◌, subst, inl, inr, arith}
use Rattle.std.proofs.lemmas.List.{length-map}
use Rattle.std.proofs.lemmas.Map.Keys.{IsDistinct-cons}
use Rattle.std.proofs.lemmas.Map.Made.{length-le_from_is_member}
use Rattle.std.proofs.lemmas.Map.Views.{list_any-from_Contains}
use Rattle.std.specs.Cmp.{nat_eq_equiv}
use Rattle.std.specs.List.{Contains, IsDistinct, list_any}
use Rattle.snb_graph_model.proofs.Laws.{IsApart}
use Rattle.snb_base.proofs.Laws.{all_recursive, any_of, contains_cases, contains_here, contains_there, from_any, in_map}

-- what isn't found isn't among them
none_equal : (n : ℕ) (ns : List ℕ) → list_any (eqb n) ns ≡ false → (m : ℕ) → Contains ns m → eqb n m ≡ false
none_equal n ns none m c = by (eqb n m) refl
  where
    by : (b : Bool) → eqb n m ≡ b → eqb n m ≡ false
    by false e = e
    by true e = absurd (let found = any_of (eqb n) ns m c e in cc)

-- a number that differs from distinct ones is distinct with them
distinct_more : (n : ℕ) (ns : List ℕ) → ((m : ℕ) → Contains ns m → eqb n m ≡ false) → IsDistinct eqb ns → IsDistinct eqb (n ∷ ns)
distinct_more n ns other distinct = IsDistinct-cons eqb n ns (all_recursive (λ m. eqb n m ≡ false) ns other) distinct

module _ {X : Type 0} (id : X → ℕ) where
  -- no two have one id
  abbrev pub HaveOwnIds : List X → Type 0
  HaveOwnIds xs = (x y : X) → Contains xs x → Contains xs y → id x ≡ id y → x ≡ y

  ids_distinct : (xs : List X) → IsApart xs → HaveOwnIds xs → IsDistinct eqb (map id xs)
  unfolding IsDistinct
  ids_distinct [] apart own = tt
  ids_distinct (x ∷ xs) apart own = distinct_more (id x) (map id xs) other (ids_distinct xs apart.1 (λ y z c d. own y z (contains_there x xs y c) (contains_there x xs z d)))
    where
      other : (n : ℕ) → Contains (map id xs) n → eqb (id x) n ≡ false
      other n c = by (eqb (id x) n) refl
        where
          by : (b : Bool) → eqb (id x) n ≡ b → eqb (id x) n ≡ false
          by false e = e
          by true e =
              let (y, there, is) = in_map id xs n c in
              let same = own y x (contains_there x xs y there) (contains_here x xs) (is ∙ sym (eqb-true (id x) n e)) in
              absurd (apart.0 (subst (Contains xs) same there))

  -- where there are as many of them as numbers, and their ids are among these, each number is the id of one
  pub one_each : (xs : List X) (ns : List ℕ) → IsApart xs → HaveOwnIds xs → ((x : X) → Contains xs x → Contains ns (id x)) → length xs ≡ length ns → (n : ℕ) → Contains ns n → (x : X) × Contains xs x × (id x ≡ n)
  one_each xs ns apart own among same n has = by (list_any (eqb n) (map id xs)) refl
    where
      all : (m : ℕ) → list_any (eqb m) (n ∷ map id xs) ≡ true → list_any (eqb m) ns ≡ true
      all m e =
          let (k, c, is) = from_any (eqb m) (n ∷ map id xs) e in
          list_any-from_Contains nat_eq_equiv m ns
          (subst (Contains ns) (sym (eqb-true m k is)) (elim (contains_cases n (map id xs) k c) [
            | inl here ↦ subst (Contains ns) here has
            | inr later ↦ (let (x, there, gives) = in_map id xs k later in subst (Contains ns) gives (among x there))
          ]))

      by : (b : Bool) → list_any (eqb n) (map id xs) ≡ b → (x : X) × Contains xs x × (id x ≡ n)
      by true e =
          let (k, c, is) = from_any (eqb n) (map id xs) e in
          let (x, there, gives) = in_map id xs k c in
          (x, there, gives ∙ sym (eqb-true n k is))
      by false e =
          let most = length-le_from_is_member nat_eq_equiv (n ∷ map id xs) ns (distinct_more n (map id xs) (none_equal n (map id xs) e) (ids_distinct xs apart own)) all in
          absurd (omega (arith, most, same, length-map xs id))
