-- What a list contains, and what its entries are under a key.
use Rattle.std.proofs.Common.{◌≡◌, ◌↔◌, ◌⊎◌, inl, inr, cond, List, [], ◌∷◌, Some, None, sym, ap, ◌∙◌, subst, is_some}
use mathlib.Core.Bool.{false≢true}
use Rattle.std.specs.declared.cmp.Ordering.{Ordering}
use Rattle.std.specs.declared.cmp.Ordering.TheVariants.{Less, Equal, Greater}
use Rattle.std.specs.Ordering.{is_eq, match_ordering}
use Rattle.std.specs.Cmp.{IsTotalOrder, eq_by_cmp_equiv}
use Rattle.std.specs.BTreeMap.{insert_entry, is_at}
use Rattle.std.specs.List.{Contains}
use Rattle.std.specs.List.Sorted.{IsPermutation}
use Rattle.std.specs.Map.{lookup, keys_of}
use Rattle.std.proofs.lemmas.List.Sorted.{IsPermutation-append_comm, IsPermutation-append_left, IsPermutation-refl, IsPermutation-cons, IsPermutation-trans, IsPermutation-sym, Contains-permutation}
use Rattle.std.proofs.lemmas.Map.Keys.{IsDistinct-from_sorted}
use Rattle.std.proofs.lemmas.Map.Lookups.{CmpEqualImpliesEq}
use Rattle.std.proofs.lemmas.Map.Views.{Contains-from_lookup, lookup-from_Contains, tells_apart}
use Rattle.snb_graph_maps.specs.Merged.{value_at, Rises}
use Rattle.snb_graph_maps.proofs.Facts.{contains_cases, contains_here, contains_there, none_of}

-- an entry under a new key is one entry more
pub IsPermutation-insert_entry : {K V : Type 0} (cmp : K → K → Ordering) (es : List (K × V)) (k : K) (v : V) → lookup (is_at (cmp k)) es ≡ None → IsPermutation (insert_entry cmp es k v) ((k, v) ∷ es)
IsPermutation-insert_entry cmp [] k v n = IsPermutation-refl _
IsPermutation-insert_entry cmp (e ∷ es) k v n =
    elim (cmp k e.0) as (λ o. cond (is_eq o) (Some e.1) (lookup (is_at (cmp k)) es) ≡ None → IsPermutation (match_ordering o ((k, v) ∷ e ∷ es) ((e.0, v) ∷ es) (e ∷ insert_entry cmp es k v)) ((k, v) ∷ e ∷ es)) [
      | Less ↦ λ m. IsPermutation-refl _
      | Equal ↦ λ m. absurd cc
      | Greater ↦ λ m. IsPermutation-trans _ _ _ (IsPermutation-cons e _ _ (IsPermutation-insert_entry cmp es k v m)) (IsPermutation-append_left es (e ∷ (k, v) ∷ []) ((k, v) ∷ e ∷ []) (IsPermutation-append_comm (e ∷ []) ((k, v) ∷ [])))
    ] n

module _ {K X : Type 0} (R : K → K → Ordering) (o : IsTotalOrder R) (exact : CmpEqualImpliesEq R) where
  -- an entry is there exactly where its key has its value
  pub entry_at : (es : List (K × X)) (k : K) (v : X) → Rises R es → Contains es (k, v) ↔ (value_at R es k ≡ Some v)
  entry_at es k v h = (
    λ c. lookup-from_Contains (eq_by_cmp_equiv o) k v es (IsDistinct-from_sorted R (keys_of es) h) c,
    λ f. Contains-from_lookup (tells_apart exact) k v es f,
  )

  -- a key without entries has no value
  pub value_none : (es : List (K × X)) (k : K) → ((v : X) → ¬ Contains es (k, v)) → value_at R es k ≡ None
  value_none es k none = none_of _ (λ v is. none v (Contains-from_lookup (tells_apart exact) k v es is))

  -- and the other way round
  pub none_there : (es : List (K × X)) (k : K) → Rises R es → value_at R es k ≡ None → (v : X) → ¬ Contains es (k, v)
  none_there es k h none v c = false≢true (ap is_some (sym none ∙ (entry_at es k v h).0 c))

  -- what an insertion of a new entry leaves
  pub contains-insert : (es : List (K × X)) (k : K) (v : X) → value_at R es k ≡ None → (e : K × X) → Contains (insert_entry R es k v) e ↔ (Contains es e ⊎ (◌≡◌ {A = K × X} (k, v) e))
  contains-insert es k v none e =
      let p = IsPermutation-insert_entry R es k v none in (
        λ there. elim (contains_cases (k, v) es e (Contains-permutation _ _ e p there)) [ inl same ↦ inr same | inr old ↦ inl old ],
        λ or. Contains-permutation _ _ e (IsPermutation-sym _ _ p) (elim or [
          | inl old ↦ contains_there (k, v) es e old
          | inr same ↦ subst (λ (x : K × X). Contains ((k, v) ∷ es) x) same (contains_here (k, v) es)
        ]),
      )
