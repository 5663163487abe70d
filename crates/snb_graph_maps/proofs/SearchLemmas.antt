-- Binary searches in lists in the order of their keys.
use Rattle.std.proofs.Common.{◌≡◌, ℕ, zero, suc, ◌+◌, ◌-◌, ◌<◌, ◌≤◌, ◌⊎◌, inl, inr, List, [], ◌∷◌, Some, None, Bool, true, false, not, length, get_or, take, drop, filter, refl, sym, ◌∙◌, ap, subst, arith, slice_get}
use mathlib.Core.Bool.{false≢true}
use Rattle.std.specs.declared.cmp.Ordering.{Ordering}
use Rattle.std.specs.declared.cmp.Ordering.TheVariants.{Less, Equal, Greater}
use Rattle.std.specs.Ordering.{is_le, is_lt, ordering_index, ordering_reverse}
use Rattle.std.specs.Cmp.{IsTotalOrder, eq_by_cmp_equiv}
use Rattle.std.specs.List.{AllWithin}
use Rattle.std.specs.List.Sorted.{IsSortedBy, IsNonDecreasingBy, IsPartitionedBy}
use Rattle.std.specs.Map.{keys_of}
use Rattle.std.proofs.lemmas.List.Sorted.{searchable_from_sorted}
use Rattle.std.proofs.lemmas.Map.Keys.{IsDistinct-from_sorted, Less-from_sorted}
use Rattle.std.proofs.lemmas.Map.Entries.{length-keys_of, lookup_at_gap, lookup_from_place}
use Rattle.std.proofs.Math.ListN.{get_or-map}
use Rattle.snb_graph_maps.specs.Merged.{Rises, value_at}
use Rattle.snb_graph_maps.specs.Parted.{Begins, PartsAt}

-- ---- where a test parts a list in two

pub take_is : {X : Type 0} (p : X → Bool) (xs : List X) (i : ℕ) → AllWithin (λ y. p y ≡ true) xs 0 i → AllWithin (λ y. p y ≡ false) xs i (length xs) → i ≤ length xs → take i xs ≡ filter p xs
take_is p [] zero lo hi le = refl
take_is p [] (suc i) lo hi le = absurd (omega arith)
take_is p (x ∷ xs) zero lo hi le =
    let here : p x ≡ false = hi 0 x (omega arith) (omega arith) in
    rw here (take_is p xs zero (λ j d l h. absurd (omega arith)) (λ j d l h. hi (suc j) d (omega arith) (omega arith)) (omega arith))
take_is p (x ∷ xs) (suc i) lo hi le =
    let here : p x ≡ true = lo 0 x (omega arith) (omega arith) in
    rw here (ap (λ ys. x ∷ ys) (take_is p xs i (λ j d l h. lo (suc j) d (omega arith) (omega arith)) (λ j d l h. hi (suc j) d (omega arith) (omega arith)) (omega arith)))

pub drop_is : {X : Type 0} (p : X → Bool) (xs : List X) (i : ℕ) → AllWithin (λ y. p y ≡ true) xs 0 i → AllWithin (λ y. p y ≡ false) xs i (length xs) → i ≤ length xs → drop i xs ≡ filter (λ y. not (p y)) xs
drop_is p [] zero lo hi le = refl
drop_is p [] (suc i) lo hi le = absurd (omega arith)
drop_is p (x ∷ xs) zero lo hi le =
    let here : p x ≡ false = hi 0 x (omega arith) (omega arith) in
    rw here (ap (λ ys. x ∷ ys) (drop_is p xs zero (λ j d l h. absurd (omega arith)) (λ j d l h. hi (suc j) d (omega arith) (omega arith)) (omega arith)))
drop_is p (x ∷ xs) (suc i) lo hi le =
    let here : p x ≡ true = lo 0 x (omega arith) (omega arith) in
    rw here (drop_is p xs i (λ j d l h. lo (suc j) d (omega arith) (omega arith)) (λ j d l h. hi (suc j) d (omega arith) (omega arith)) (omega arith))

pub same_filter : {X : Type 0} (p q : X → Bool) → ((x : X) → p x ≡ q x) → (xs : List X) → filter p xs ≡ filter q xs
same_filter p q same xs = ap (λ f. filter f xs) (λ i x. same x i)

-- a place after some that pass the test, where it fails
pub parts_from : {K : Type 0} (p : K → Bool) (ks : List K) → IsPartitionedBy p ks → (i : ℕ) → i ≤ length ks → AllWithin (λ k. p k ≡ true) ks 0 i → ((d : K) → i < length ks → p (get_or ks i d) ≡ false) → PartsAt p ks i
parts_from p ks parted i le low here = record { bound = le; low = low; high = λ j d l h. by j d l h (p (get_or ks j d)) refl }
  where
    by : (j : ℕ) (d : _) → i ≤ j → j < length ks → (b : Bool) → p (get_or ks j d) ≡ b → p (get_or ks j d) ≡ false
    by j d l h true t = absurd (false≢true (sym (here d (omega arith)) ∙ parted i j d l h t))
    by j d l h false t = t

-- a place where it fails for the first time
pub parts_begin : {K : Type 0} (p : K → Bool) (ks : List K) → IsPartitionedBy p ks → (i : ℕ) → Begins p ks i → PartsAt p ks i
parts_begin p ks parted i b =
    let bound = b.bound in
    parts_from p ks parted i (omega arith) (λ j d l h. parted j (i - 1) d (omega arith) (omega arith) (b.before d (omega arith))) (λ d l. b.here d)

-- ---- an element by its place

pub get_place : {X : Type 0} (xs : List X) (i : ℕ) (d : X) → i < length xs → slice_get xs i ≡ Some (get_or xs i d)
get_place [] i d l = absurd (omega arith)
get_place (x ∷ xs) zero d l = refl
get_place (x ∷ xs) (suc i) d l = get_place xs i d (omega arith)

not_some : {X : Type 0} (x : X) → None ≡ Some x → ⊥
not_some x e = cc

pub got_place : {X : Type 0} (xs : List X) (i : ℕ) (x : X) → slice_get xs i ≡ Some x → (i < length xs) × (get_or xs i x ≡ x)
got_place [] i x e = absurd (not_some x e)
got_place (y ∷ xs) zero x e = (omega arith, cc)
got_place (y ∷ xs) (suc i) x e = let rest = got_place xs i x e in (omega arith, rest.1)

-- ---- comparisons the other way round

reversed_le : (r : Ordering) → is_le (ordering_reverse r) ≡ not (is_lt r)
reversed_le Less = refl
reversed_le Equal = refl
reversed_le Greater = refl

reversed_gt : (r : Ordering) → not (is_le (ordering_reverse r)) ≡ is_lt r
reversed_gt Less = refl
reversed_gt Equal = refl
reversed_gt Greater = refl

reversed_ge : (r : Ordering) → not (is_lt (ordering_reverse r)) ≡ is_le r
reversed_ge Less = refl
reversed_ge Equal = refl
reversed_ge Greater = refl

pub less : (r : Ordering) → is_lt r ≡ true → r ≡ Less
less Less e = refl
less Equal e = absurd (false≢true e)
less Greater e = absurd (false≢true e)

pub less_or_equal : (r : Ordering) → is_le r ≡ true → (r ≡ Less) ⊎ (r ≡ Equal)
less_or_equal Less e = inl refl
less_or_equal Equal e = inr refl
less_or_equal Greater e = absurd (false≢true e)

pub below_or_same : (i j : ℕ) → i ≤ j → (i < j) ⊎ (i ≡ j)
below_or_same i j le = grind arith

module _ {K : Type 0} (R : K → K → Ordering) (o : IsTotalOrder R) where
  pub not_below : (k x : K) → is_le (R k x) ≡ not (is_lt (R x k))
  not_below k x = ap is_le (o.antisymm k x) ∙ reversed_le (R x k)

  pub below : (k x : K) → not (is_le (R k x)) ≡ is_lt (R x k)
  below k x = ap (λ r. not (is_le r)) (o.antisymm k x) ∙ reversed_gt (R x k)

  pub not_above : (k x : K) → not (is_lt (R k x)) ≡ is_le (R x k)
  not_above k x = ap (λ r. not (is_lt r)) (o.antisymm k x) ∙ reversed_ge (R x k)

module _ {K X : Type 0} (R : K → K → Ordering) (o : IsTotalOrder R) (exact : (x y : K) → R x y ≡ Equal → x ≡ y) where
  rise : (es : List (K × X)) → Rises R es → (i j : ℕ) (d : K × X) → i < j → j < length es → R (get_or es i d).0 (get_or es j d).0 ≡ Less
  rise es h i j d lt l =
      let long : length (keys_of es) ≡ length es = length-keys_of es in
      ap (λ k. R k (get_or es j d).0) (sym (get_or-map (λ (e : K × X). e.0) es i d))
      ∙ ap (R (get_or (keys_of es) i d.0)) (sym (get_or-map (λ (e : K × X). e.0) es j d))
      ∙ Less-from_sorted R (keys_of es) i j d.0 h lt (omega arith)

  sorted : (es : List (K × X)) → Rises R es → IsSortedBy (λ a b. is_lt (R a.0 b.0)) es
  sorted es h k d le lt = ap is_lt (o.antisymm (get_or es (k + 1) d).0 (get_or es k d).0 ∙ ap ordering_reverse (rise es h k (k + 1) d (omega arith) lt))

  -- what a binary search asks
  pub searchable : (es : List (K × X)) (q : K) → Rises R es → IsNonDecreasingBy (λ e. ordering_index (R e.0 q)) es
  searchable es q h = searchable_from_sorted o (λ (e : K × X). e.0) es q (sorted es h)

  -- a search that hits, and one that misses
  pub found_at : (es : List (K × X)) (q : K) (i : ℕ) (d : K × X) → Rises R es → i < length es → R (get_or es i d).0 q ≡ Equal → value_at R es q ≡ Some (get_or es i d).1
  found_at es q i d h l same =
      ap (value_at R es) (sym (exact (get_or es i d).0 q same))
      ∙ lookup_from_place (eq_by_cmp_equiv o) es i (get_or es i d).0 (get_or es i d).1 (IsDistinct-from_sorted R (keys_of es) h) (get_place es i d l)

  pub missed_at : (es : List (K × X)) (q : K) (i : ℕ) → Rises R es → AllWithin (λ e. R e.0 q ≡ Less) es 0 i → AllWithin (λ e. R e.0 q ≡ Greater) es i (length es) → value_at R es q ≡ None
  missed_at es q i h lo hi = lookup_at_gap o q es i h
      (λ j e l got. o.antisymm q e.0 ∙ ap ordering_reverse (subst (λ (x : K × X). R x.0 q ≡ Less) (got_place es j e got).1 (lo j e (omega arith) l)))
      (λ e got. o.antisymm q e.0 ∙ ap ordering_reverse (subst (λ (x : K × X). R x.0 q ≡ Greater) (got_place es i e got).1 (hi i e (omega arith) (got_place es i e got).0)))

  -- the keys below one come first
  pub parted_below : (es : List (K × X)) (q : K) → Rises R es → IsPartitionedBy (λ e. is_lt (R e.0 q)) es
  parted_below es q h i j d le l passes = elim (below_or_same i j le) [
    | inl lt ↦ ap is_lt (o.trans (get_or es i d).0 (get_or es j d).0 q (rise es h i j d lt l) (less (R (get_or es j d).0 q) passes))
    | inr same ↦ ap (λ n. is_lt (R (get_or es n d).0 q)) same ∙ passes
  ]

  -- and so do those that aren't above it
  pub parted_through : (es : List (K × X)) (q : K) → Rises R es → IsPartitionedBy (λ e. is_le (R e.0 q)) es
  parted_through es q h i j d le l passes = elim (below_or_same i j le) [
    | inl lt ↦ elim (less_or_equal (R (get_or es j d).0 q) passes) [
      | inl below ↦ ap is_le (o.trans (get_or es i d).0 (get_or es j d).0 q (rise es h i j d lt l) below)
      | inr same ↦ ap is_le (ap (R (get_or es i d).0) (sym (exact (get_or es j d).0 q same)) ∙ rise es h i j d lt l)
    ]
    | inr same ↦ ap (λ n. is_le (R (get_or es n d).0 q)) same ∙ passes
  ]
