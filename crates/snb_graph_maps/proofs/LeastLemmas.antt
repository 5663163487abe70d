-- The least of some keys.
use Rattle.std.proofs.Common.{◌≡◌, ◌⊎◌, List, [], ◌∷◌, ◌++◌, Option, Some, None, Bool, true, false, cond, not, ◌&&◌, refl, sym, ◌∙◌, ap, subst, inl, inr, arith, IfSome, Contains}
use mathlib.Core.Bool.{false≢true}
use Rattle.std.specs.declared.cmp.Ordering.{Ordering}
use Rattle.std.specs.declared.cmp.Ordering.TheVariants.{Less, Equal, Greater}
use Rattle.std.specs.Ordering.{is_le, is_lt, ordering_reverse}
use Rattle.std.specs.Cmp.{IsTotalOrder, tied_itself}
use Rattle.std.specs.List.{AllByRecursion}
use Rattle.snb_graph_maps.specs.Ahead.{IsLeast, before, is_above, is_from}
use Rattle.snb_graph_maps.proofs.Facts.{contains_cases, contains_here, contains_there}

module _ {K : Type 0} (R : K → K → Ordering) (o : IsTotalOrder R) (exact : (x y : K) → R x y ≡ Equal → x ≡ y) where
  -- a key that is above another, or it
  le_both : (x y z : K) → is_le (R x y) ≡ true → is_le (R y z) ≡ true → is_le (R x z) ≡ true
  le_both x y z p q = by (R x y) refl (R y z) refl
    where
      by : (r : Ordering) → R x y ≡ r → (s : Ordering) → R y z ≡ s → is_le (R x z) ≡ true
      by Less t Less u = ap is_le (o.trans x y z t u)
      by Less t Equal u = ap (λ w. is_le (R x w)) (sym (exact y z u)) ∙ p
      by Equal t s u = ap (λ w. is_le (R w z)) (exact x y t) ∙ q
      by Greater t s u = absurd (false≢true (sym (ap is_le t) ∙ p))
      by r t Greater u = absurd (false≢true (sym (ap is_le u) ∙ q))

  lt_le : (x y z : K) → is_lt (R x y) ≡ true → is_le (R y z) ≡ true → is_lt (R x z) ≡ true
  lt_le x y z p q = by (R x y) refl (R y z) refl
    where
      by : (r : Ordering) → R x y ≡ r → (s : Ordering) → R y z ≡ s → is_lt (R x z) ≡ true
      by Less t Less u = ap is_lt (o.trans x y z t u)
      by Less t Equal u = ap (λ w. is_lt (R x w)) (sym (exact y z u)) ∙ p
      by Equal t s u = absurd (false≢true (sym (ap is_lt t) ∙ p))
      by Greater t s u = absurd (false≢true (sym (ap is_lt t) ∙ p))
      by r t Greater u = absurd (false≢true (sym (ap is_le u) ∙ q))

  le_if_not : (x y : K) → is_le (R x y) ≡ false → is_le (R y x) ≡ true
  le_if_not x y p = by (R x y) refl
    where
      by : (r : Ordering) → R x y ≡ r → is_le (R y x) ≡ true
      by Less t = absurd (false≢true (sym p ∙ ap is_le t))
      by Equal t = absurd (false≢true (sym p ∙ ap is_le t))
      by Greater t = ap is_le (o.antisymm y x ∙ ap ordering_reverse t)

  le_itself : (x : K) → is_le (R x x) ≡ true
  le_itself x = ap is_le (tied_itself o x)

  from_more : (end : Option K) (x y : K) → is_from R end x ≡ true → is_le (R x y) ≡ true → is_from R end y ≡ true
  from_more None x y p q = absurd (false≢true p)
  from_more (Some low) x y p q = le_both low x y p q

  pub above_more : (low : Option K) (x y : K) → is_above R low x ≡ true → is_le (R x y) ≡ true → is_above R low y ≡ true
  above_more None x y p q = refl
  above_more (Some low) x y p q = lt_le low x y p q

  -- of one key more the least that is above one
  pub least_none : (test : K → Bool) → IsLeast R test [] None
  least_none test = record { held = tt; from = λ k c. absurd (omega (arith, c.1)) }

  from_is : (test : K → Bool) (ks : List K) (least : Option K) → IsLeast R test ks least → (more : (x y : K) → test x ≡ true → is_le (R x y) ≡ true → test y ≡ true) → (k : K) → is_from R least k ≡ true → test k ≡ true
  from_is test ks None is more k p = absurd (false≢true p)
  from_is test ks (Some l) is more k p = more l k (sym (is.from l is.held) ∙ le_itself l) p

  more_held : (ks : List K) (k q : K) → Contains ks q → Contains (ks ++ k ∷ []) q
  more_held [] k q c = absurd (omega (arith, c.1))
  more_held (x ∷ ks) k q c = elim (contains_cases x ks q c) [
    | inl same ↦ subst (λ y. Contains (x ∷ ks ++ k ∷ []) y) same (contains_here x (ks ++ k ∷ []))
    | inr rest ↦ contains_there x (ks ++ k ∷ []) q (more_held ks k q rest)
  ]

  last_held : (ks : List K) (k : K) → Contains (ks ++ k ∷ []) k
  last_held [] k = contains_here k []
  last_held (x ∷ ks) k = contains_there x (ks ++ k ∷ []) k (last_held ks k)

  held_cases : (ks : List K) (k q : K) → Contains (ks ++ k ∷ []) q → Contains ks q ⊎ (k ≡ q)
  held_cases [] k q c = elim (contains_cases k [] q c) [ inl same ↦ inr same | inr rest ↦ absurd (omega (arith, rest.1)) ]
  held_cases (x ∷ ks) k q c = elim (contains_cases x (ks ++ k ∷ []) q c) [
    | inl same ↦ inl (subst (λ y. Contains (x ∷ ks) y) same (contains_here x ks))
    | inr rest ↦ elim (held_cases ks k q rest) [ inl old ↦ inl (contains_there x ks q old) | inr same ↦ inr same ]
  ]

  pub least_more : (low : Option K) (ks : List K) (k : K) (least : Option K) → IsLeast R (is_above R low) ks least → IsLeast R (is_above R low) (ks ++ k ∷ []) (cond (is_above R low k && not (is_from R least k)) (Some k) least)
  least_more low ks k least is = by (is_above R low k) refl (is_from R least k) refl
    where
      stays : (above from : Bool) → is_above R low k ≡ above → is_from R least k ≡ from → from ≡ above → IsLeast R (is_above R low) (ks ++ k ∷ []) least
      stays above from p q same = record {
        held = kept least is.held;
        from = λ x c. elim (held_cases ks k x c) [
          | inl old ↦ is.from x old
          | inr new ↦ subst (λ y. is_from R least y ≡ is_above R low y) new (q ∙ same ∙ sym p)
        ];
      }
        where
          kept : (l : Option K) → IfSome l (λ x. Contains ks x) → IfSome l (λ x. Contains (ks ++ k ∷ []) x)
          kept None h = tt
          kept (Some l) h = more_held ks k l h

      below : (l : Option K) → IsLeast R (is_above R low) ks l → is_from R l k ≡ false → (x : K) → is_from R l x ≡ true → is_le (R k x) ≡ true
      below None f q x p = absurd (false≢true p)
      below (Some l) f q x p = le_both k l x (le_if_not l k q) p

      fresh : is_above R low k ≡ true → is_from R least k ≡ false → (x : K) → Contains ks x → (b : Bool) → is_above R low x ≡ b → is_le (R k x) ≡ b
      fresh p q x old true u = below least is q x (is.from x old ∙ u)
      fresh p q x old false u = not_le (is_le (R k x)) refl
        where
          not_le : (b : Bool) → is_le (R k x) ≡ b → is_le (R k x) ≡ false
          not_le true w = absurd (false≢true (sym u ∙ above_more low k x p w))
          not_le false w = w

      by : (above : Bool) → is_above R low k ≡ above → (from : Bool) → is_from R least k ≡ from → IsLeast R (is_above R low) (ks ++ k ∷ []) (cond (is_above R low k && not (is_from R least k)) (Some k) least)
      by true p true q = subst (λ b. IsLeast R (is_above R low) (ks ++ k ∷ []) (cond b (Some k) least)) (sym (ap (λ b. is_above R low k && not b) q ∙ ap (λ b. b && false) p)) (stays true true p q refl)
      by false p false q = subst (λ b. IsLeast R (is_above R low) (ks ++ k ∷ []) (cond b (Some k) least)) (sym (ap (λ b. b && not (is_from R least k)) p)) (stays false false p q refl)
      by false p true q = absurd (false≢true (sym p ∙ from_is (is_above R low) ks least is (above_more low) k q))
      by true p false q = subst (λ b. IsLeast R (is_above R low) (ks ++ k ∷ []) (cond b (Some k) least)) (sym (ap (λ b. is_above R low k && not b) q ∙ ap (λ b. b && true) p)) (record {
        held = last_held ks k;
        from = λ x c. elim (held_cases ks k x c) [
          | inl old ↦ fresh p q x old (is_above R low x) refl
          | inr new ↦ subst (λ y. is_le (R k y) ≡ is_above R low y) new (le_itself k ∙ sym p)
        ];
      })

  -- a key beyond the end is cut off
  pub cut : (next end : Option K) (q : K) → (is_from R (before R next end) q && not (is_from R end q)) ≡ (is_from R next q && not (is_from R end q))
  cut None end q = refl
  cut (Some n) end q = by (is_from R end n) refl
    where
      beyond : is_from R end n ≡ true → (b : Bool) → is_le (R n q) ≡ b → false ≡ (b && not (is_from R end q))
      beyond p true u = sym (ap not (from_more end n q p u))
      beyond p false u = refl

      by : (b : Bool) → is_from R end n ≡ b → (is_from R (cond (is_from R end n) None (Some n)) q && not (is_from R end q)) ≡ (is_le (R n q) && not (is_from R end q))
      by true p = ap (λ b. is_from R (cond b None (Some n)) q && not (is_from R end q)) p ∙ beyond p (is_le (R n q)) refl
      by false p = ap (λ b. is_from R (cond b None (Some n)) q && not (is_from R end q)) p

  -- a key is below those that another is below
  pub all_after : (x y : K) → R x y ≡ Less → (ks : List K) → AllByRecursion (λ z. R y z ≡ Less) ks → AllByRecursion (λ z. R x z ≡ Less) ks
  all_after x y l [] h = tt
  all_after x y l (k ∷ ks) h = (o.trans x y k l h.0, all_after x y l ks h.1)
