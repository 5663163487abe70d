-- Keys and values in a list each, seen as entries.
use Rattle.std.proofs.Common.{◌≡◌, ℕ, zero, suc, ◌+◌, ◌-◌, ◌<◌, ◌≤◌, ◌++◌, inl, inr, List, [], ◌∷◌, Some, None, Bool, true, false, not, Result, Ok, Err, length, get_or, slice_get, map, take, drop, filter, refl, sym, ◌∙◌, ap, subst, arith}
use Rattle.std.specs.declared.cmp.Ordering.{Ordering}
use Rattle.std.specs.declared.cmp.Ordering.TheVariants.{Less, Equal, Greater}
use Rattle.std.specs.Ordering.{is_le, is_lt, ordering_index, ordering_reverse}
use Rattle.std.specs.Cmp.{IsTotalOrder}
use Rattle.std.specs.List.{AllWithin, zip}
use Rattle.std.specs.List.Sorted.{IsNonDecreasingBy, IsPartitionedBy, IsSortedBy, IsStrictlySortedBy}
use Rattle.std.specs.Map.{keys_of}
use Rattle.std.specs.Result.{is_err, is_ok}
use mathlib.Core.Bool.{false≢true}
use Rattle.std.proofs.lemmas.List.Sorted.{searchable_from_sorted}
use Rattle.std.proofs.lemmas.Map.Keys.{Less-from_sorted}
use Rattle.std.proofs.lemmas.Map.Made.{keys_of-zip}
use Rattle.std.proofs.lemmas.Slice.Zip.{get_or-zip, length-zip}
use Rattle.snb_graph_maps.specs.Merged.{Rises, value_at}
use Rattle.snb_graph_maps.proofs.SearchLemmas.{below_or_same, drop_is, found_at, got_place, less, less_or_equal, missed_at, take_is}

module _ {K X : Type 0} where
  pub zip-none : (ks : List K) → zip {K = K} {X = X} ks [] ≡ []
  zip-none [] = refl
  zip-none (k ∷ ks) = refl

  -- the keys and the values of entries, side by side
  pub zip-sides : (es : List (K × X)) → zip (keys_of es) (map (λ e. e.1) es) ≡ es
  zip-sides [] = refl
  zip-sides (e ∷ es) = ap (λ fs. e ∷ fs) (zip-sides es)

  pub take-zip : (i : ℕ) (ks : List K) (vs : List X) → take i (zip ks vs) ≡ zip (take i ks) (take i vs)
  take-zip zero ks vs = refl
  take-zip (suc i) [] vs = refl
  take-zip (suc i) (k ∷ ks) [] = refl
  take-zip (suc i) (k ∷ ks) (v ∷ vs) = ap (λ es. (k, v) ∷ es) (take-zip i ks vs)

  pub drop-zip : (i : ℕ) (ks : List K) (vs : List X) → drop i (zip ks vs) ≡ zip (drop i ks) (drop i vs)
  drop-zip zero ks vs = refl
  drop-zip (suc i) [] vs = refl
  drop-zip (suc i) (k ∷ ks) [] = sym (zip-none (drop i ks))
  drop-zip (suc i) (k ∷ ks) (v ∷ vs) = drop-zip i ks vs

  -- one entry more
  pub zip-more : (ks : List K) (vs : List X) (k : K) (v : X) → length vs ≡ length ks → zip (ks ++ k ∷ []) (vs ++ v ∷ []) ≡ zip ks vs ++ (k, v) ∷ []
  zip-more [] [] k v e = refl
  zip-more [] (w ∷ vs) k v e = absurd (omega arith)
  zip-more (j ∷ ks) [] k v e = absurd (omega arith)
  zip-more (j ∷ ks) (w ∷ vs) k v e = ap (λ es. (j, w) ∷ es) (zip-more ks vs k v (omega arith))

  pub zip_length : (ks : List K) (vs : List X) → length vs ≡ length ks → length (zip ks vs) ≡ length ks
  zip_length ks vs e = omega (arith, length-zip ks vs)

  -- what holds of keys holds of the entries at their places
  pub within-zip : (P : K → Type 0) (ks : List K) (vs : List X) (lo hi : ℕ) → length vs ≡ length ks → hi ≤ length ks → AllWithin P ks lo hi → AllWithin (λ (e : K × X). P e.0) (zip ks vs) lo hi
  within-zip P ks vs lo hi same le all j d l h = subst (λ (e : K × X). P e.0) (sym (get_or-zip ks vs j d (omega arith) (omega arith))) (all j d.0 l h)

  -- where a test of the keys parts them in two
  pub taken_beside : (p : K → Bool) (ks : List K) (vs : List X) (i : ℕ) → length vs ≡ length ks → AllWithin (λ k. p k ≡ true) ks 0 i → AllWithin (λ k. p k ≡ false) ks i (length ks) → i ≤ length ks
      → zip (take i ks) (take i vs) ≡ filter (λ e. p e.0) (zip ks vs)
  taken_beside p ks vs i same lo hi le =
      let long : length (zip ks vs) ≡ length ks = zip_length ks vs same in
      sym (take-zip i ks vs)
      ∙ take_is (λ (e : K × X). p e.0) (zip ks vs) i (within-zip (λ k. p k ≡ true) ks vs 0 i same le lo)
      (subst (λ n. AllWithin (λ (e : K × X). p e.0 ≡ false) (zip ks vs) i n) (sym long) (within-zip (λ k. p k ≡ false) ks vs i (length ks) same (omega arith) hi)) (omega arith)

  pub left_beside : (p : K → Bool) (ks : List K) (vs : List X) (i : ℕ) → length vs ≡ length ks → AllWithin (λ k. p k ≡ true) ks 0 i → AllWithin (λ k. p k ≡ false) ks i (length ks) → i ≤ length ks
      → zip (drop i ks) (drop i vs) ≡ filter (λ e. not (p e.0)) (zip ks vs)
  left_beside p ks vs i same lo hi le =
      let long : length (zip ks vs) ≡ length ks = zip_length ks vs same in
      sym (drop-zip i ks vs)
      ∙ drop_is (λ (e : K × X). p e.0) (zip ks vs) i (within-zip (λ k. p k ≡ true) ks vs 0 i same le lo)
      (subst (λ n. AllWithin (λ (e : K × X). p e.0 ≡ false) (zip ks vs) i n) (sym long) (within-zip (λ k. p k ≡ false) ks vs i (length ks) same (omega arith) hi)) (omega arith)

-- a result that isn't an error
pub not_err : {T E : Type 0} (r : Result T E) → false ≡ is_err r → is_ok r ≡ true
not_err (Ok x) e = refl
not_err (Err x) e = absurd (false≢true e)

got_at : {X : Type 0} (xs : List X) (i : ℕ) (x d : X) → slice_get xs i ≡ Some x → get_or xs i d ≡ x
got_at [] i x d e = absurd cc
got_at (y ∷ xs) zero x d e = cc
got_at (y ∷ xs) (suc i) x d e = got_at xs i x d e

module _ {K : Type 0} (R : K → K → Ordering) (o : IsTotalOrder R) (exact : (x y : K) → R x y ≡ Equal → x ≡ y) where
  sorted : (ks : List K) → IsStrictlySortedBy R ks → IsSortedBy (λ a b. is_lt (R a b)) ks
  sorted ks h k d le lt = ap is_lt (o.antisymm (get_or ks (k + 1) d) (get_or ks k d) ∙ ap ordering_reverse (Less-from_sorted R ks k (k + 1) d h (omega arith) lt))

  -- what a binary search of the keys asks
  pub keys_searchable : (ks : List K) (q : K) → IsStrictlySortedBy R ks → IsNonDecreasingBy (λ k. ordering_index (R k q)) ks
  keys_searchable ks q h = searchable_from_sorted o (λ (k : K). k) ks q (sorted ks h)

  -- the keys below one come first
  pub keys_below : (ks : List K) (q : K) → IsStrictlySortedBy R ks → IsPartitionedBy (λ k. is_lt (R k q)) ks
  keys_below ks q h i j d le l passes = elim (below_or_same i j le) [
    | inl lt ↦ ap is_lt (o.trans (get_or ks i d) (get_or ks j d) q (Less-from_sorted R ks i j d h lt l) (less (R (get_or ks j d) q) passes))
    | inr same ↦ ap (λ n. is_lt (R (get_or ks n d) q)) same ∙ passes
  ]

  -- and so do those that aren't above it
  pub keys_through : (ks : List K) (q : K) → IsStrictlySortedBy R ks → IsPartitionedBy (λ k. is_le (R k q)) ks
  keys_through ks q h i j d le l passes = elim (below_or_same i j le) [
    | inl lt ↦ elim (less_or_equal (R (get_or ks j d) q) passes) [
      | inl below ↦ ap is_le (o.trans (get_or ks i d) (get_or ks j d) q (Less-from_sorted R ks i j d h lt l) below)
      | inr same ↦ ap is_le (ap (R (get_or ks i d)) (sym (exact (get_or ks j d) q same)) ∙ Less-from_sorted R ks i j d h lt l)
    ]
    | inr same ↦ ap (λ n. is_le (R (get_or ks n d) q)) same ∙ passes
  ]

  -- a key above the last is above all
  pub all_below : (ks : List K) (x q : K) → IsStrictlySortedBy R ks → slice_get ks (length ks - 1) ≡ Some x → R x q ≡ Less → AllWithin (λ k. R k q ≡ Less) ks 0 (length ks)
  all_below ks x q h last below j d lo hi =
      let bound = got_place ks (length ks - 1) x last in
      let is : get_or ks (length ks - 1) d ≡ x = got_at ks (length ks - 1) x d last in
      elim (below_or_same j (length ks - 1) (omega arith)) [
        | inl lt ↦ o.trans (get_or ks j d) x q (subst (λ y. R (get_or ks j d) y ≡ Less) is (Less-from_sorted R ks j (length ks - 1) d h lt bound.0)) below
        | inr same ↦ ap (λ n. R (get_or ks n d) q) same ∙ ap (λ y. R y q) is ∙ below
      ]

module _ {K X : Type 0} (R : K → K → Ordering) (o : IsTotalOrder R) (exact : (x y : K) → R x y ≡ Equal → x ≡ y) where
  pub keys_rise : (ks : List K) (vs : List X) → length vs ≡ length ks → Rises R (zip ks vs) → IsStrictlySortedBy R ks
  keys_rise ks vs same h = subst (IsStrictlySortedBy R) (keys_of-zip ks vs same) h

  -- a search of the keys that hits, and one that misses
  pub found_beside : (ks : List K) (vs : List X) (q : K) (i : ℕ) (v : X) → length vs ≡ length ks → Rises R (zip ks vs) → i < length ks → R (get_or ks i q) q ≡ Equal → value_at R (zip ks vs) q ≡ Some (get_or vs i v)
  found_beside ks vs q i v same h l hit =
      let long : length (zip ks vs) ≡ length ks = zip_length ks vs same in
      let at : get_or (zip ks vs) i (q, v) ≡ (get_or ks i q, get_or vs i v) = get_or-zip ks vs i (q, v) l (omega arith) in
      found_at R o exact (zip ks vs) q i (q, v) h (omega arith) (ap (λ (e : K × X). R e.0 q) at ∙ hit) ∙ ap (λ (e : K × X). Some e.1) at

  pub missed_beside : (ks : List K) (vs : List X) (q : K) (i : ℕ) → length vs ≡ length ks → Rises R (zip ks vs) → i ≤ length ks → AllWithin (λ k. R k q ≡ Less) ks 0 i → AllWithin (λ k. R k q ≡ Greater) ks i (length ks) → value_at R (zip ks vs) q ≡ None
  missed_beside ks vs q i same h le lo hi =
      let long : length (zip ks vs) ≡ length ks = zip_length ks vs same in
      missed_at R o exact (zip ks vs) q i h (within-zip (λ k. R k q ≡ Less) ks vs 0 i same le lo)
      (subst (λ n. AllWithin (λ (e : K × X). R e.0 q ≡ Greater) (zip ks vs) i n) (sym long) (within-zip (λ k. R k q ≡ Greater) ks vs i (length ks) same (omega arith) hi))
