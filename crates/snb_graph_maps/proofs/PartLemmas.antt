-- Ranges of both parts, and an entry that is taken out.
use Rattle.std.proofs.Common.{◌≡◌, ℕ, ◌≤◌, ◌<◌, ◌^◌, List, [], ◌∷◌, Option, Some, None, Bool, true, false, cond, not, ◌&&◌, length, filter, refl, sym, ◌∙◌, ap, subst, arith, is_some, IsSome}
use mathlib.Core.Bool.{false≢true}
use Rattle.std.specs.declared.cmp.Ordering.{Ordering}
use Rattle.std.specs.declared.cmp.Ordering.TheVariants.{Less, Equal, Greater}
use Rattle.std.specs.Ordering.{is_eq, is_le, is_lt}
use Rattle.std.specs.Cmp.{IsTotalOrder, eq_by_cmp_equiv}
use Rattle.std.specs.BTreeMap.{insert_entry, is_at}
use Rattle.std.specs.List.{AllByRecursion}
use Rattle.std.specs.List.Sorted.{IsStrictlySortedBy}
use Rattle.std.specs.Map.{keys_of, remove_entry}
use Rattle.std.specs.Option.{option_or}
use Rattle.std.proofs.lemmas.List.Kept.{IsStrictlySortedBy-filter}
use Rattle.std.proofs.lemmas.Map.{lookup-remove_entry}
use Rattle.std.proofs.lemmas.Map.Entries.{lookup-filter-keys}
use Rattle.std.proofs.lemmas.Map.Keys.{IsDistinct-from_sorted}
use Rattle.snb_graph_maps.specs.Merged.{value_at, merged, Rises, AreParts, AreStored, most_entries}
use Rattle.snb_graph_maps.proofs.MergedLemmas.{same_rows, rises-merged, rises-insert, value_at-merged, value_at-insert, value_at_tied, length-merged, length-insert, parts-all, parts-insert, parts-remove}
use Rattle.snb_graph_maps.proofs.Facts.{equal_from}

-- a filter by the keys
pub keys_filter : {K X : Type 0} (p : K → Bool) (es : List (K × X)) → keys_of (filter (λ e. p e.0) es) ≡ filter p (keys_of es)
keys_filter p [] = refl
keys_filter p (e ∷ es) = elim (p e.0) as (λ b. keys_of (cond b (e ∷ filter (λ x. p x.0) es) (filter (λ x. p x.0) es)) ≡ cond b (e.0 ∷ filter p (keys_of es)) (filter p (keys_of es))) [
  | true ↦ ap (λ ks. e.0 ∷ ks) (keys_filter p es)
  | false ↦ keys_filter p es
]

-- a filter that all pass
pub filter_all : {X : Type 0} (xs : List X) → filter (λ x. true) xs ≡ xs
filter_all [] = refl
filter_all (x ∷ xs) = ap (λ ys. x ∷ ys) (filter_all xs)

-- one filter after another
pub filter_twice : {X : Type 0} (p q : X → Bool) (xs : List X) → filter q (filter p xs) ≡ filter (λ x. p x && q x) xs
filter_twice p q [] = refl
filter_twice p q (x ∷ xs) = elim (p x) as (λ b. filter q (cond b (x ∷ filter p xs) (filter p xs)) ≡ cond (b && q x) (x ∷ filter (λ y. p y && q y) xs) (filter (λ y. p y && q y) xs)) [
  | true ↦ elim (q x) as (λ c. cond c (x ∷ filter q (filter p xs)) (filter q (filter p xs)) ≡ cond c (x ∷ filter (λ y. p y && q y) xs) (filter (λ y. p y && q y) xs)) [
    | true ↦ ap (λ ys. x ∷ ys) (filter_twice p q xs)
    | false ↦ filter_twice p q xs
  ]
  | false ↦ filter_twice p q xs
]

module _ {K X : Type 0} (R : K → K → Ordering) (o : IsTotalOrder R) (exact : (x y : K) → R x y ≡ Equal → x ≡ y) where
  -- what a filter by the keys leaves under a key
  pub value_at-filter : (p : K → Bool) (es : List (K × X)) (q : K) → value_at R (filter (λ e. p e.0) es) q ≡ cond (p q) (value_at R es q) None
  value_at-filter p es q = lookup-filter-keys (is_at (R q)) p (p q) (λ k t. ap p (sym (exact q k (equal_from (R q k) t)))) es

  pub rises-filter : (p : K → Bool) (es : List (K × X)) → Rises R es → Rises R (filter (λ e. p e.0) es)
  rises-filter p es h = subst (IsStrictlySortedBy R) (sym (keys_filter p es)) (IsStrictlySortedBy-filter R p (keys_of es) h)

  -- the filter of both parts is that of each, merged
  pub filter-merged : (p : K → Bool) (es fs : List (K × X)) → Rises R es → filter (λ e. p e.0) (merged R es fs) ≡ merged R (filter (λ e. p e.0) es) (filter (λ e. p e.0) fs)
  filter-merged p es fs h = same_rows R o exact _ _ (rises-filter p (merged R es fs) (rises-merged R o es fs h)) (rises-merged R o (filter (λ e. p e.0) es) (filter (λ e. p e.0) fs) (rises-filter p es h)) (λ q.
      value_at-filter p (merged R es fs) q
      ∙ ap (λ v. cond (p q) v None) (value_at-merged R o es fs q)
      ∙ by (p q) (value_at R fs q) (value_at R es q)
      ∙ sym (value_at-merged R o (filter (λ e. p e.0) es) (filter (λ e. p e.0) fs) q ∙ ap (λ v. option_or v (value_at R (filter (λ e. p e.0) es) q)) (value_at-filter p fs q) ∙ ap (option_or (cond (p q) (value_at R fs q) None)) (value_at-filter p es q)))
    where
      by : (b : Bool) (v w : Option X) → cond b (option_or v w) None ≡ option_or (cond b v None) (cond b w None)
      by true v w = refl
      by false v w = refl

  pub parts-filter : (p : K → Bool) (es fs : List (K × X)) → AreParts R es fs → AreParts R (filter (λ e. p e.0) es) (filter (λ e. p e.0) fs)
  parts-filter p es fs parts = record {
    frozen_rises = rises-filter p es parts.frozen_rises;
    added_rises = rises-filter p fs parts.added_rises;
    apart = λ k some. value_at-filter p fs k ∙ by (p k) k (subst IsSome (value_at-filter p es k) some);
  }
    where
      by : (b : Bool) (k : K) → IsSome (cond b (value_at R es k) None) → cond b (value_at R fs k) None ≡ None
      by true k some = parts.apart k some
      by false k some = refl

  none_of : (v w : Option X) → option_or v w ≡ None → (v ≡ None) × (w ≡ None)
  none_of None w e = (refl, e)
  none_of (Some x) w e = absurd (false≢true (sym (ap is_some e)))

  -- a key that is new is in neither part
  pub none_in_parts : (es fs : List (K × X)) (q : K) → value_at R (merged R es fs) q ≡ None → (value_at R fs q ≡ None) × (value_at R es q ≡ None)
  none_in_parts es fs q e = none_of _ _ (sym (value_at-merged R o es fs q) ∙ e)

  -- a range of each part
  pub both_ranges : (p q : K → Bool) (es fs xs ys : List (K × X)) → AreParts R es fs → xs ≡ filter (λ e. q e.0) (filter (λ e. p e.0) es) → ys ≡ filter (λ e. p e.0 && q e.0) fs → AreParts R xs ys × (merged R xs ys ≡ filter (λ e. p e.0 && q e.0) (merged R es fs))
  both_ranges p q es fs xs ys parts is_xs is_ys =
      let first : xs ≡ filter (λ (e : K × X). p e.0 && q e.0) es = is_xs ∙ filter_twice (λ (e : K × X). p e.0) (λ (e : K × X). q e.0) es in (
        subst (λ zs. AreParts R zs ys) (sym first) (subst (AreParts R (filter (λ (e : K × X). p e.0 && q e.0) es)) (sym is_ys) (parts-filter (λ k. p k && q k) es fs parts)),
        ap (λ zs. merged R zs ys) first ∙ ap (merged R (filter (λ (e : K × X). p e.0 && q e.0) es)) is_ys ∙ sym (filter-merged (λ k. p k && q k) es fs parts.frozen_rises),
      )

  -- the ranges that a map and a list in order give
  pub ranges_before : (lo hi : K) (es fs xs mid ys : List (K × X)) → AreParts R es fs → mid ≡ filter (λ e. is_le (R lo e.0)) es → xs ≡ filter (λ e. not (is_le (R hi e.0))) mid → ys ≡ filter (λ e. is_le (R lo e.0) && not (is_le (R hi e.0))) fs → AreParts R xs ys × (merged R xs ys ≡ filter (λ e. is_le (R lo e.0) && not (is_le (R hi e.0))) (merged R es fs))
  ranges_before lo hi es fs xs mid ys parts first second own = both_ranges (λ k. is_le (R lo k)) (λ k. not (is_le (R hi k))) es fs xs ys parts (second ∙ ap (filter (λ (e : K × X). not (is_le (R hi e.0)))) first) own

  pub ranges_through : (lo hi : K) (es fs xs mid ys : List (K × X)) → AreParts R es fs → mid ≡ filter (λ e. is_le (R lo e.0)) es → xs ≡ filter (λ e. not (is_lt (R hi e.0))) mid → ys ≡ filter (λ e. is_le (R lo e.0) && not (is_lt (R hi e.0))) fs → AreParts R xs ys × (merged R xs ys ≡ filter (λ e. is_le (R lo e.0) && not (is_lt (R hi e.0))) (merged R es fs))
  ranges_through lo hi es fs xs mid ys parts first second own = both_ranges (λ k. is_le (R lo k)) (λ k. not (is_lt (R hi k))) es fs xs ys parts (second ∙ ap (filter (λ (e : K × X). not (is_lt (R hi e.0)))) first) own

  -- a filter keeps no more than there is
  length-filter_le : (p : K × X → Bool) (es : List (K × X)) → length (filter p es) ≤ length es
  length-filter_le p [] = omega arith
  length-filter_le p (e ∷ es) = elim (p e) as (λ b. length (cond b (e ∷ filter p es) (filter p es)) ≤ length (e ∷ es)) [
    | true ↦ (let rest = length-filter_le p es in omega arith)
    | false ↦ (let rest = length-filter_le p es in omega arith)
  ]

  pub few_of : (p : K × X → Bool) (es fs zs : List (K × X)) → AreStored R es fs → zs ≡ filter p (merged R es fs) → length zs < 2 ^ 63
  few_of p es fs zs stored is =
      let all = length-merged R o es fs stored.parts in
      let kept = length-filter_le p (merged R es fs) in
      let same = ap length is in
      omega (arith, stored.few)

  -- nothing added, all frozen
  pub stored_all : (es fs : List (K × X)) → AreStored R es fs → AreStored R (merged R es fs) []
  stored_all es fs stored = record {
    parts = parts-all R o exact (merged R es fs) (rises-merged R o es fs stored.parts.frozen_rises);
    few = omega (arith, stored.few, length-merged R o es fs stored.parts);
  }

  -- an entry more among the added ones
  pub stored_more : (es fs gs : List (K × X)) (k : K) (v : X) (n : ℕ) → AreStored R es fs → value_at R (merged R es fs) k ≡ None → gs ≡ insert_entry R fs k v → n ≡ length (merged R es fs) → n < most_entries → AreStored R es gs
  stored_more es fs gs k v n stored none is count room =
      let nones = none_in_parts es fs k none in
      let rises : Rises R gs = subst (Rises R) (sym is) (rises-insert R o fs k v stored.parts.added_rises) in
      record {
        parts = parts-insert R o es fs gs k v stored.parts nones.1 (λ q. ap (λ hs. value_at R hs q) is ∙ value_at-insert R o fs k v q ∙ ap (λ b. cond b (Some v) (value_at R fs q)) ((eq_by_cmp_equiv o).symm q k)) rises;
        few = omega (arith, ap length is, length-insert R o fs k v stored.parts.added_rises nones.0, count, room, length-merged R o es fs stored.parts);
      }

  -- ---- an entry taken out

  all-remove : (P : K → Type 0) (test : K → Bool) (es : List (K × X)) → AllByRecursion P (keys_of es) → AllByRecursion P (keys_of (remove_entry test es))
  all-remove P test [] h = tt
  all-remove P test (e ∷ es) h = elim (test e.0) as (λ b. AllByRecursion P (keys_of (cond b es (e ∷ remove_entry test es)))) [
    | true ↦ h.1
    | false ↦ (h.0, all-remove P test es h.1)
  ]

  pub rises-remove : (test : K → Bool) (es : List (K × X)) → Rises R es → Rises R (remove_entry test es)
  unfolding IsStrictlySortedBy
  rises-remove test [] h = tt
  rises-remove test (e ∷ es) h = elim (test e.0) as (λ b. Rises R (cond b es (e ∷ remove_entry test es))) [
    | true ↦ h.1
    | false ↦ (all-remove (λ y. R e.0 y ≡ Less) test es h.0, rises-remove test es h.1)
  ]

  pub value_at-gone : (es : List (K × X)) (k q : K) → Rises R es → value_at R (remove_entry (is_at (R k)) es) q ≡ cond (is_eq (R k q)) None (value_at R es q)
  value_at-gone es k q h = lookup-remove_entry (eq_by_cmp_equiv o) (is_at (R k)) (λ x y t. (eq_by_cmp_equiv o).congr k x y t) q es (IsDistinct-from_sorted R (keys_of es) h)

  -- an added entry that is taken out is taken out of all
  pub merged-remove : (es fs : List (K × X)) (k : K) → Rises R es → Rises R fs → value_at R es k ≡ None → merged R es (remove_entry (is_at (R k)) fs) ≡ remove_entry (is_at (R k)) (merged R es fs)
  merged-remove es fs k g h none = same_rows R o exact _ _ (rises-merged R o es (remove_entry (is_at (R k)) fs) g) (rises-remove (is_at (R k)) (merged R es fs) (rises-merged R o es fs g)) (λ q.
      value_at-merged R o es (remove_entry (is_at (R k)) fs) q
      ∙ ap (λ v. option_or v (value_at R es q)) (value_at-gone fs k q h)
      ∙ by q (R k q) refl
      ∙ sym (value_at-gone (merged R es fs) k q (rises-merged R o es fs g) ∙ ap (cond (is_eq (R k q)) None) (value_at-merged R o es fs q)))
    where
      by : (q : K) (r : Ordering) → R k q ≡ r → option_or (cond (is_eq (R k q)) None (value_at R fs q)) (value_at R es q) ≡ cond (is_eq (R k q)) None (option_or (value_at R fs q) (value_at R es q))
      by q Less t = rw t refl
      by q Equal t = rw t (value_at_tied R o es k q t ∙ none)
      by q Greater t = rw t refl

  length-remove_le : (test : K → Bool) (es : List (K × X)) → length (remove_entry test es) ≤ length es
  length-remove_le test [] = omega arith
  length-remove_le test (e ∷ es) = elim (test e.0) as (λ b. length (cond b es (e ∷ remove_entry test es)) ≤ length (e ∷ es)) [
    | true ↦ omega arith
    | false ↦ (let rest = length-remove_le test es in omega arith)
  ]

  pub stored_fewer : (es fs gs : List (K × X)) (k : K) → AreStored R es fs → gs ≡ remove_entry (is_at (R k)) fs → AreStored R es gs
  stored_fewer es fs gs k stored is = record {
    parts = parts-remove R o es fs gs k stored.parts is (subst (Rises R) (sym is) (rises-remove (is_at (R k)) fs stored.parts.added_rises));
    few = omega (arith, stored.few, ap length is, length-remove_le (is_at (R k)) fs);
  }

  pub stored_none : (fs : List (K × X)) → fs ≡ [] → AreStored R [] fs
  unfolding IsStrictlySortedBy
  stored_none fs is = subst (AreStored R []) (sym is) (record { parts = record { frozen_rises = tt; added_rises = tt; apart = λ k some. refl }; few = omega arith })

  -- a key that is frozen isn't an added one
  pub found_frozen_first : (es fs : List (K × X)) (q : K) (v : X) → AreParts R es fs → value_at R es q ≡ Some v → value_at R (merged R es fs) q ≡ Some v
  found_frozen_first es fs q v parts e = value_at-merged R o es fs q ∙ ap (λ w. option_or w (value_at R es q)) (parts.apart q (ap is_some e)) ∙ e

  pub found_added_first : (es fs : List (K × X)) (q : K) (v : X) → value_at R fs q ≡ Some v → value_at R (merged R es fs) q ≡ Some v
  found_added_first es fs q v e = value_at-merged R o es fs q ∙ ap (λ w. option_or w (value_at R es q)) e

  pub found_frozen_else : (es fs : List (K × X)) (q : K) → value_at R fs q ≡ None → value_at R (merged R es fs) q ≡ value_at R es q
  found_frozen_else es fs q none = value_at-merged R o es fs q ∙ ap (λ w. option_or w (value_at R es q)) none
