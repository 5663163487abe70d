-- The rows of entries, and their keys.
use Rattle.std.proofs.Common.{◌≡◌, ◌↔◌, ℕ, Bool, filter, Some, None, Option, false, true, List, [], ◌∷◌, ◌++◌, map, refl, sym, ap, ◌∙◌, subst, cond, arith}
use Rattle.std.specs.declared.cmp.Ordering.{Ordering}
use Rattle.std.specs.declared.cmp.Ordering.TheVariants.{Less, Equal, Greater}
use Rattle.std.specs.Ordering.{is_eq, nat_cmp, ordering_then}
use Rattle.std.specs.BTreeMap.{insert_entry, is_at}
use Rattle.std.specs.Cmp.{IsTotalOrder, eq_by_cmp_equiv, tied_itself, nat_cmp_total}
use Rattle.std.specs.Map.{lookup, keys_of, remove_entry}
use Rattle.std.specs.Option.{is_some, IsSome, IfSome, unwrap_or}
use Rattle.std.specs.List.{All, Contains, AllByRecursion}
use Rattle.std.specs.List.Sorted.{IsPermutation, IsStrictlySortedBy}
use Rattle.std.proofs.lemmas.Map.Lookups.{CmpEqualImpliesEq}
use Rattle.std.proofs.lemmas.Map.Views.{All-map-remove_entry, Contains-keys_from_lookup, IsSome-lookup_from_Contains, Contains-from_lookup, lookup-from_Contains, tells_apart}
use Rattle.std.proofs.lemmas.Map.Keys.{IsDistinct-from_sorted}
use Rattle.std.proofs.lemmas.List.Elements.{All-cons, All-contains, All-contains_itself, All-tail, All-weaker}
use Rattle.std.proofs.lemmas.List.Sorted.{IsPermutation-refl, IsPermutation-cons, IsPermutation-trans, IsPermutation-sym, IsPermutation-map, IsPermutation-to_front, All-permutation, Contains-permutation}
use mathlib.Core.Bool.{false≢true}
use Rattle.snb_schema.specs.declared.row.Row.{Row}
use Rattle.snb_schema.specs.Layouts.{shape}
use Rattle.snb_schema.specs.RowKeys.{RowKey, row_key}
use Rattle.snb_graph_rows.specs.Keyed.{key_table, IsPart}
use Rattle.snb_graph_model.specs.Graphs.{part, part_of, key_order, row_order, HasKey}
use Rattle.snb_graph_rows.specs.Rows.{entry_row, rows_by, Fits, AreKept, HasLost}
use Rattle.snb_graph_maps.specs.Merged.{AreParts, HasAllOf, merged}
use Rattle.snb_graph_maps.proofs.Laws.{frozen_within, IsPermutation-insert_entry}
use Rattle.snb_graph_rows.proofs.Laws.{filter_map}
use Rattle.snb_base.proofs.Laws.{contains_here, contains_map, in_map, two_swapped}

-- more entries have more rows
pub rows_more : {K V : Type 0} (f : K → V → Row) (es gs : List (K × V)) → HasAllOf es gs → (r : Row) → Contains (rows_by f es) r → Contains (rows_by f gs) r
rows_more {K} {V} f es gs more r c =
    let e = in_map (λ (x : K × V). f x.0 x.1) es r c in
    subst (λ (x : Row). Contains (rows_by f gs) x) e.2 (contains_map (λ (x : K × V). f x.0 x.1) gs e.0 (more e.0 e.1))

-- what a test doesn't find isn't there
pub none_from_test : {X : Type 0} (o : Option X) → is_some o ≡ false → o ≡ None
none_from_test None h = refl
none_from_test (Some x) h = absurd (false≢true (sym h))

-- what isn't there where that would make something false isn't there
pub none_if_new : {X H : Type 0} (o : Option X) → IsSome o ↔ H → ¬ H → o ≡ None
none_if_new None same new = refl
none_if_new (Some x) same new = absurd (new (same.0 refl))

-- a fact of what was found
pub if_found : {X : Type 0} (o : Option X) (P : X → Type 0) → ((v : X) → o ≡ Some v → P v) → IfSome o P
if_found None P h = tt
if_found (Some v) P h = h v refl

-- taking out what a look-up doesn't find leaves all entries
pub none_removed : {K V : Type 0} (test : K → Bool) (es : List (K × V)) → lookup test es ≡ None → remove_entry test es ≡ es
none_removed test [] n = refl
none_removed {K} {V} test (e ∷ es) n = by (test e.0) n (none_removed test es)
  where
    by : (b : Bool) → cond b (Some e.1) (lookup test es) ≡ None → (lookup test es ≡ None → remove_entry test es ≡ es) → cond b es (e ∷ remove_entry test es) ≡ e ∷ es
    by true m rest = absurd cc
    by false m rest = ap (λ (l : List (K × V)). e ∷ l) (rest m)

-- taking out what a look-up finds leaves one entry fewer
pub IsPermutation-remove_entry : {K V : Type 0} (cmp : K → K → Ordering) (es : List (K × V)) (k : K) → IsSome (lookup (is_at (cmp k)) es) → (e : K × V) × (cmp k e.0 ≡ Equal) × IsPermutation es (e ∷ remove_entry (is_at (cmp k)) es)
IsPermutation-remove_entry cmp [] k found = absurd (false≢true found)
IsPermutation-remove_entry {K} {V} cmp (e ∷ es) k found = by (cmp k e.0) refl (IsPermutation-remove_entry cmp es k)
  where
    later : (o : Ordering) → cmp k e.0 ≡ o → is_eq o ≡ false → (IsSome (lookup (is_at (cmp k)) es) → (x : K × V) × (cmp k x.0 ≡ Equal) × IsPermutation es (x ∷ remove_entry (is_at (cmp k)) es)) → (x : K × V) × (cmp k x.0 ≡ Equal) × IsPermutation (e ∷ es) (x ∷ remove_entry (is_at (cmp k)) (e ∷ es))
    later o is differs more =
        let test : is_eq (cmp k e.0) ≡ false = ap is_eq is ∙ differs in
        let rest = more (ap (λ t. is_some (cond t (Some e.1) (lookup (is_at (cmp k)) es))) (sym test) ∙ found) in
        (rest.0, rest.1, subst (λ t. IsPermutation (e ∷ es) (rest.0 ∷ cond t es (e ∷ remove_entry (is_at (cmp k)) es))) (sym test) (IsPermutation-trans _ _ _ (IsPermutation-cons e _ _ rest.2) (two_swapped e rest.0 _)))

    by : (o : Ordering) → cmp k e.0 ≡ o → (IsSome (lookup (is_at (cmp k)) es) → (x : K × V) × (cmp k x.0 ≡ Equal) × IsPermutation es (x ∷ remove_entry (is_at (cmp k)) es)) → (x : K × V) × (cmp k x.0 ≡ Equal) × IsPermutation (e ∷ es) (x ∷ remove_entry (is_at (cmp k)) (e ∷ es))
    by Less is more = later Less is refl more
    by Equal is more = (e, is, subst (λ o. IsPermutation (e ∷ es) (e ∷ cond (is_eq o) es (e ∷ remove_entry (is_at (cmp k)) es))) (sym is) (IsPermutation-refl _))
    by Greater is more = later Greater is refl more

map_same : {X : Type 0} (xs : List X) → map (λ (x : X). x) xs ≡ xs
map_same [] = refl
map_same (x ∷ xs) = ap (λ ys. x ∷ ys) (map_same xs)

-- what holds of each entry holds of each that is left
pub All-remove_entry : {K V : Type 0} (P : K × V → Type 0) (test : K → Bool) (es : List (K × V)) → All P es → All P (remove_entry test es)
All-remove_entry {K} {V} P test es all = subst (λ l. All P l) (map_same (remove_entry test es)) (All-map-remove_entry test (λ (x : K × V). x) P es (subst (λ l. All P l) (sym (map_same es)) all))

module _ {K V : Type 0} (cmp : K → K → Ordering) (total : IsTotalOrder cmp) (exact : CmpEqualImpliesEq cmp) (n : ℕ) (key : K → RowKey) (row_at : RowKey → V → Row) (ordered : (j k : K) → key_order (key j) (key k) ≡ cmp j k) where
  abbrev f : K → V → Row
  f = entry_row key row_at

  abbrev fits : K → V → Type 0
  fits = Fits n key row_at

  named : (k : K) (v : V) → fits k v → row_key (f k v) ≡ key k
  named k v fit = fit.0

  placed : (k : K) (v : V) → fits k v → part_of (shape (key k).0) ≡ n
  placed k v fit = fit.1

  -- keys of one name are one
  pub one_key : (j k : K) → key j ≡ key k → j ≡ k
  one_key j k same = exact j k (sym (ordered j k) ∙ ap (λ x. key_order x (key k)) same ∙ ordered k k ∙ tied_itself total k)

  -- the rows stand in their part
  pub in_part : (k : K) (v : V) → fits k v → part (f k v) ≡ n
  in_part k v fit = ap (λ t. part_of (shape t)) (sym (key_table (f k v)) ∙ ap (λ x. x.0) (named k v fit)) ∙ placed k v fit

  -- a look-up finds a key exactly where a row has it
  pub found_iff : (es : List (K × V)) → All (λ e. fits e.0 e.1) es → (k : K) → IsSome (lookup (is_at (cmp k)) es) ↔ HasKey (rows_by f es) (key k)
  found_iff es fit k = (
    λ found.
        let e = in_map (λ (x : K × V). x.0) es k (Contains-keys_from_lookup (tells_apart exact) k es found) in
        record { it = f e.0.0 e.0.1; held = contains_map (λ (x : K × V). f x.0 x.1) es e.0 e.1; keyed = named e.0.0 e.0.1 (All-contains (λ (x : K × V). fits x.0 x.1) es e.0 fit e.1) ∙ ap key e.2 },
    λ has.
        let e = in_map (λ (x : K × V). f x.0 x.1) es has.it has.held in
        let same = one_key e.0.0 k (sym (named e.0.0 e.0.1 (All-contains (λ (x : K × V). fits x.0 x.1) es e.0 fit e.1)) ∙ ap row_key e.2 ∙ has.keyed) in
        IsSome-lookup_from_Contains (eq_by_cmp_equiv total) k es (subst (Contains (keys_of es)) same (contains_map (λ (x : K × V). x.0) es e.0 e.1)),
  )

  -- what a look-up finds is a row
  pub found_row : (es : List (K × V)) (k : K) (v : V) → lookup (is_at (cmp k)) es ≡ Some v → All (λ e. fits e.0 e.1) es → fits k v × Contains (rows_by f es) (f k v)
  found_row es k v is fit =
      let there = Contains-from_lookup (tells_apart exact) k v es is in
      (All-contains (λ (x : K × V). fits x.0 x.1) es (k, v) fit there, contains_map (λ (x : K × V). f x.0 x.1) es (k, v) there)

  compare : (j k : K) (v w : V) → fits j v → fits k w → row_order (f j v) (f k w) ≡ cmp j k
  compare j k v w fj fk =
      ap (λ o. ordering_then o (key_order (row_key (f j v)) (row_key (f k w)))) (ap (λ m. nat_cmp m (part (f k w))) (in_part j v fj) ∙ ap (nat_cmp n) (in_part k w fk) ∙ tied_itself nat_cmp_total n)
      ∙ ap (λ x. key_order x (row_key (f k w))) (named j v fj) ∙ ap (key_order (key j)) (named k w fk) ∙ ordered j k

  rows_above : (k : K) (v : V) → fits k v → (es : List (K × V)) → All (λ e. fits e.0 e.1) es → AllByRecursion (λ y. cmp k y ≡ Less) (keys_of es) → AllByRecursion (λ r. row_order (f k v) r ≡ Less) (rows_by f es)
  rows_above k v fit [] all h = tt
  rows_above k v fit (e ∷ es) all h = (compare k e.0 v e.1 fit (All-contains (λ (x : K × V). fits x.0 x.1) (e ∷ es) e all (contains_here e es)) ∙ h.0, rows_above k v fit es (All-tail (λ (x : K × V). fits x.0 x.1) e es all) h.1)

  rows_rise : (es : List (K × V)) → All (λ e. fits e.0 e.1) es → IsStrictlySortedBy cmp (keys_of es) → IsStrictlySortedBy row_order (rows_by f es)
  unfolding IsStrictlySortedBy
  rows_rise [] all h = tt
  rows_rise (e ∷ es) all h =
      (rows_above e.0 e.1 (All-contains (λ (x : K × V). fits x.0 x.1) (e ∷ es) e all (contains_here e es)) es (All-tail (λ (x : K × V). fits x.0 x.1) e es all) h.0, rows_rise es (All-tail (λ (x : K × V). fits x.0 x.1) e es all) h.1)

  own : (es : List (K × V)) → All (λ e. fits e.0 e.1) es → All (λ r. part r ≡ n) (rows_by f es)
  own [] all = λ k d l. absurd (omega (arith, l))
  own (e ∷ es) all = All-cons (λ r. part r ≡ n) (f e.0 e.1) (rows_by f es) (in_part e.0 e.1 (All-contains (λ (x : K × V). fits x.0 x.1) (e ∷ es) e all (contains_here e es))) (own es (All-tail (λ (x : K × V). fits x.0 x.1) e es all))

  -- the rows are a part of a graph
  pub part_whole : (es : List (K × V)) → AreKept cmp fits es → IsPart n (rows_by f es)
  part_whole es kept = record { own = own es kept.fit; rises = rows_rise es kept.fit kept.rises }

  -- one row more
  pub rows_added : (es : List (K × V)) (k : K) (v : V) → lookup (is_at (cmp k)) es ≡ None → IsPermutation (rows_by f (insert_entry cmp es k v)) (rows_by f es ++ f k v ∷ [])
  rows_added es k v none =
      IsPermutation-trans _ _ _ (IsPermutation-map (λ (e : K × V). f e.0 e.1) _ _ (IsPermutation-insert_entry cmp es k v none)) (IsPermutation-sym _ _ (IsPermutation-to_front (rows_by f es) (f k v)))

  pub kept_added : (es : List (K × V)) (k : K) (v : V) → lookup (is_at (cmp k)) es ≡ None → AreKept cmp fits es → fits k v → IsStrictlySortedBy cmp (keys_of (insert_entry cmp es k v)) → AreKept cmp fits (insert_entry cmp es k v)
  kept_added es k v none kept fit rises = record {
    fit = All-permutation (λ (e : K × V). fits e.0 e.1) _ _ (IsPermutation-sym _ _ (IsPermutation-insert_entry cmp es k v none)) (All-cons (λ (e : K × V). fits e.0 e.1) (k, v) es fit kept.fit);
    rises = rises;
  }

  -- the row of a key taken out
  pub rows_lost : (es : List (K × V)) → AreKept cmp fits es → (k : K) → HasLost (rows_by f es) (key k) (rows_by f (remove_entry (is_at (cmp k)) es))
  rows_lost es kept k r held keyed =
      let found = (found_iff es kept.fit k).1 (record { it = r; held = held; keyed = keyed }) in
      let taken = IsPermutation-remove_entry cmp es k found in
      let e = in_map (λ (x : K × V). f x.0 x.1) es r held in
      let same_key : e.0.0 ≡ taken.0.0 = one_key e.0.0 k (sym (named e.0.0 e.0.1 (All-contains (λ (x : K × V). fits x.0 x.1) es e.0 kept.fit e.1)) ∙ ap row_key e.2 ∙ keyed) ∙ exact k taken.0.0 taken.1 in
      let there = Contains-permutation _ _ taken.0 (IsPermutation-sym _ _ taken.2) (contains_here taken.0 (remove_entry (is_at (cmp k)) es)) in
      let one_value : Some e.0.1 ≡ Some taken.0.1 = sym (lookup-from_Contains (eq_by_cmp_equiv total) e.0.0 e.0.1 es (IsDistinct-from_sorted cmp (keys_of es) kept.rises) e.1) ∙ ap (λ q. lookup (is_at (cmp q)) es) same_key ∙ lookup-from_Contains (eq_by_cmp_equiv total) taken.0.0 taken.0.1 es (IsDistinct-from_sorted cmp (keys_of es) kept.rises) there in
      let same_row : f taken.0.0 taken.0.1 ≡ r = sym (ap (λ q. f q taken.0.1) same_key) ∙ sym (ap (λ o. f e.0.0 (unwrap_or o e.0.1)) one_value) ∙ e.2 in
      subst (λ x. IsPermutation (rows_by f es) (rows_by f (remove_entry (is_at (cmp k)) es) ++ x ∷ [])) same_row
      (IsPermutation-trans _ _ _ (IsPermutation-map (λ (x : K × V). f x.0 x.1) _ _ taken.2) (IsPermutation-sym _ _ (IsPermutation-to_front (rows_by f (remove_entry (is_at (cmp k)) es)) (f taken.0.0 taken.0.1))))

  -- where no row has the key, taking it out changes nothing
  pub none_lost : (es : List (K × V)) → AreKept cmp fits es → (k : K) → ¬ HasKey (rows_by f es) (key k) → rows_by f (remove_entry (is_at (cmp k)) es) ≡ rows_by f es
  none_lost es kept k none = ap (rows_by f) (none_removed (is_at (cmp k)) es (none_if_new (lookup (is_at (cmp k)) es) (found_iff es kept.fit k) none))

  pub kept_lost : (es : List (K × V)) (k : K) → AreKept cmp fits es → IsStrictlySortedBy cmp (keys_of (remove_entry (is_at (cmp k)) es)) → AreKept cmp fits (remove_entry (is_at (cmp k)) es)
  kept_lost es k kept rises = record { fit = All-remove_entry (λ (x : K × V). fits x.0 x.1) (is_at (cmp k)) es kept.fit; rises = rises }

  -- the frozen entries fit as all do
  pub frozen_fit : (es fs : List (K × V)) → AreParts cmp es fs → AreKept cmp fits (merged cmp es fs) → All (λ e. fits e.0 e.1) es
  frozen_fit es fs parts kept = All-weaker (Contains es) (λ (e : K × V). fits e.0 e.1) (λ e c. All-contains (λ (x : K × V). fits x.0 x.1) (merged cmp es fs) e kept.fit (frozen_within cmp total exact es fs parts e c)) es (All-contains_itself es)

  -- the frozen rows are among all
  pub frozen_among : (es fs : List (K × V)) → AreParts cmp es fs → (r : Row) → Contains (rows_by f es) r → Contains (rows_by f (merged cmp es fs)) r
  frozen_among es fs parts = rows_more f es (merged cmp es fs) (frozen_within cmp total exact es fs parts)

  -- the rows of a range
  within : (test : Ordering → Ordering → Bool) (lo hi : K) (es : List (K × V)) → All (λ e. fits e.0 e.1) es →
      All (λ e. test (key_order (key lo) (row_key (f e.0 e.1))) (key_order (key hi) (row_key (f e.0 e.1))) ≡ test (cmp lo e.0) (cmp hi e.0)) es
  within test lo hi [] all = λ k d l. absurd (omega (arith, l))
  within test lo hi (e ∷ es) all =
      let fit = All-contains (λ (x : K × V). fits x.0 x.1) (e ∷ es) e all (contains_here e es) in
      All-cons (λ x. test (key_order (key lo) (row_key (f x.0 x.1))) (key_order (key hi) (row_key (f x.0 x.1))) ≡ test (cmp lo x.0) (cmp hi x.0)) e es
      (ap (λ k. test (key_order (key lo) k) (key_order (key hi) k)) (named e.0 e.1 fit) ∙ ap (λ o. test o (key_order (key hi) (key e.0))) (ordered lo e.0) ∙ ap (test (cmp lo e.0)) (ordered hi e.0))
      (within test lo hi es (All-tail (λ (x : K × V). fits x.0 x.1) e es all))

  pub rows_within : (test : Ordering → Ordering → Bool) (lo hi : K) (es : List (K × V)) → AreKept cmp fits es →
      rows_by f (filter (λ e. test (cmp lo e.0) (cmp hi e.0)) es) ≡ filter (λ r. test (key_order (key lo) (row_key r)) (key_order (key hi) (row_key r))) (rows_by f es)
  rows_within test lo hi es kept =
      filter_map (λ (e : K × V). f e.0 e.1) (λ e. test (cmp lo e.0) (cmp hi e.0)) (λ r. test (key_order (key lo) (row_key r)) (key_order (key hi) (row_key r))) es (within test lo hi es kept.fit)
