-- Pairs in an index.
use Rattle.std.proofs.Common.{◌≡◌, ◌↔◌, ℕ, ◌<◌, ◌≤◌, ◌+◌, ◌^◌, ◌⊎◌, List, ◌∷◌, Bool, true, false, Option, Some, None, refl, sym, ap, ◌∙◌, subst, inl, inr, arith, cond, filter, not, ◌&&◌}
use Rattle.std.specs.declared.cmp.Ordering.{Ordering}
use Rattle.std.specs.declared.cmp.Ordering.TheVariants.{Less, Equal, Greater}
use Rattle.std.specs.Ordering.{nat_cmp, ordering_then, is_eq, is_lt, is_le}
use Rattle.std.specs.BTreeMap.{insert_entry, is_at}
use Rattle.std.specs.Cmp.{IsTotalOrder, eq_by_cmp_equiv, tied_itself, nat_cmp_total, then_total, on_total}
use Rattle.std.specs.Map.{lookup, keys_of, remove_entry}
use Rattle.std.specs.Option.{is_some, IsSome}
use Rattle.std.specs.List.{Contains}
use Rattle.std.specs.List.Sorted.{IsStrictlySortedBy}
use Rattle.std.proofs.lemmas.Map.{lookup-remove_entry}
use Rattle.std.proofs.lemmas.Map.Keys.{IsDistinct-from_sorted}
use Rattle.std.proofs.lemmas.Map.Lookups.{CmpEqualImpliesEq, exact_unsigned, exact_pairs}
use Rattle.std.proofs.lemmas.Map.Views.{Contains-from_lookup, lookup-from_Contains, tells_apart}
use Rattle.std.proofs.lemmas.List.Elements.{All-cons, All-contains}
use Rattle.std.proofs.lemmas.List.Sorted.{IsPermutation-sym, All-permutation, Contains-permutation}
use Rattle.std.proofs.lemmas.List.Kept.{IsStrictlySortedBy-filter}
use mathlib.Core.Bool.{false≢true}
use Rattle.snb_graph_rows.proofs.Entries.{All-remove_entry}
use Rattle.snb_graph_rows.proofs.Laws.{filter_map, high_end, low_end}
use Rattle.snb_graph_rows.specs.Pairs.{pair_order, HasPair, IsIndex, HasAdded, HasDropped, ArePairsOf}
use Rattle.snb_base.proofs.Laws.{compares_greater, compares_less, contains_cases, contains_here, contains_there, in_filter, none_of}
use Rattle.snb_graph_maps.proofs.Laws.{IsPermutation-insert_entry}

pub pair_total : IsTotalOrder pair_order
pair_total = then_total (on_total (λ (p : ℕ × ℕ). p.0) nat_cmp_total) (on_total (λ (p : ℕ × ℕ). p.1) nat_cmp_total)

pub pair_exact : CmpEqualImpliesEq pair_order
pair_exact = exact_pairs nat_cmp nat_cmp exact_unsigned exact_unsigned

pub pair_new : (es : List ((ℕ × ℕ) × ℕ)) (of id : ℕ) → ((d : ℕ) → ¬ HasPair es of id d) → lookup (is_at (pair_order (of, id))) es ≡ None
pair_new es of id new = none_of _ (λ d is. new d (Contains-from_lookup (tells_apart pair_exact) (of, id) d es is))

pub index_added : (es : List ((ℕ × ℕ) × ℕ)) (of id date : ℕ) → IsIndex es → ((d : ℕ) → ¬ HasPair es of id d) → id < 2 ^ 64 → IsStrictlySortedBy pair_order (keys_of (insert_entry pair_order es (of, id) date)) → IsIndex (insert_entry pair_order es (of, id) date)
index_added es of id date is new fits rises = record {
  rises = rises;
  small = All-permutation (λ (e : (ℕ × ℕ) × ℕ). e.0.1 < 2 ^ 64) _ _ (IsPermutation-sym _ _ (IsPermutation-insert_entry pair_order es (of, id) date (pair_new es of id new))) (All-cons (λ (e : (ℕ × ℕ) × ℕ). e.0.1 < 2 ^ 64) ((of, id), date) es fits is.small);
}

pub pair_added : (es : List ((ℕ × ℕ) × ℕ)) (of id date : ℕ) → ((d : ℕ) → ¬ HasPair es of id d) → HasAdded es of id date (insert_entry pair_order es (of, id) date)
pair_added es of id date new e =
    let p = IsPermutation-insert_entry pair_order es (of, id) date (pair_new es of id new) in (
      λ there. elim (contains_cases ((of, id), date) es e (Contains-permutation _ _ e p there)) [ inl same ↦ inr same | inr old ↦ inl old ],
      λ or. Contains-permutation _ _ e (IsPermutation-sym _ _ p) (elim or [
        | inl old ↦ contains_there ((of, id), date) es e old
        | inr same ↦ subst (λ (x : (ℕ × ℕ) × ℕ). Contains (((of, id), date) ∷ es) x) same (contains_here ((of, id), date) es)
      ]),
    )

-- an entry is there exactly where its key is found with its value
found : (es : List ((ℕ × ℕ) × ℕ)) → IsStrictlySortedBy pair_order (keys_of es) → (e : (ℕ × ℕ) × ℕ) → Contains es e ↔ (lookup (is_at (pair_order e.0)) es ≡ Some e.1)
found es rises e = (
  λ c. lookup-from_Contains (eq_by_cmp_equiv pair_total) e.0 e.1 es (IsDistinct-from_sorted pair_order (keys_of es) rises) c,
  λ f. Contains-from_lookup (tells_apart pair_exact) e.0 e.1 es f,
)

after_drop : (es : List ((ℕ × ℕ) × ℕ)) (k : ℕ × ℕ) → IsStrictlySortedBy pair_order (keys_of es) → (q : ℕ × ℕ) → lookup (is_at (pair_order q)) (remove_entry (is_at (pair_order k)) es) ≡ cond (is_eq (pair_order k q)) None (lookup (is_at (pair_order q)) es)
after_drop es k rises q = lookup-remove_entry (eq_by_cmp_equiv pair_total) (is_at (pair_order k)) (λ x y h. (eq_by_cmp_equiv pair_total).congr k x y h) q es (IsDistinct-from_sorted pair_order (keys_of es) rises)

pub pair_dropped : (es : List ((ℕ × ℕ) × ℕ)) (of id : ℕ) → IsStrictlySortedBy pair_order (keys_of es) → IsStrictlySortedBy pair_order (keys_of (remove_entry (is_at (pair_order (of, id))) es)) → HasDropped es of id (remove_entry (is_at (pair_order (of, id))) es)
pair_dropped es of id rises after e = (
  λ there.
      let f = (found _ after e).0 there in
      let still = sym (after_drop es (of, id) rises e.0) ∙ f in
      ((found es rises e).1 (kept (is_eq (pair_order (of, id) e.0)) _ e.1 still), λ same. gone (is_eq (pair_order (of, id) e.0)) _ e.1 (ap is_eq (ap (pair_order (of, id)) same ∙ tied_itself pair_total (of, id))) still),
  λ both.
      (found _ after e).1 (after_drop es (of, id) rises e.0 ∙ stays (is_eq (pair_order (of, id) e.0)) (lookup (is_at (pair_order e.0)) es) e.1 (λ t. both.1 (sym (pair_exact (of, id) e.0 (equal (pair_order (of, id) e.0) t)))) ((found es rises e).0 both.0)),
)
  where
    kept : (b : Bool) (o : Option ℕ) (v : ℕ) → cond b None o ≡ Some v → o ≡ Some v
    kept true o v h = absurd (false≢true (ap is_some h))
    kept false o v h = h

    gone : (b : Bool) (o : Option ℕ) (v : ℕ) → b ≡ true → cond b None o ≡ Some v → ⊥
    gone true o v t h = false≢true (ap is_some h)
    gone false o v t h = false≢true t

    stays : (b : Bool) (o : Option ℕ) (v : ℕ) → (b ≡ true → ⊥) → o ≡ Some v → cond b None o ≡ Some v
    stays true o v n h = absurd (n refl)
    stays false o v n h = h

    equal : (o : Ordering) → is_eq o ≡ true → o ≡ Equal
    equal Less t = absurd (false≢true t)
    equal Equal t = refl
    equal Greater t = absurd (false≢true t)

pub index_dropped : (es : List ((ℕ × ℕ) × ℕ)) (of id : ℕ) → IsIndex es → IsStrictlySortedBy pair_order (keys_of (remove_entry (is_at (pair_order (of, id))) es)) → IsIndex (remove_entry (is_at (pair_order (of, id))) es)
index_dropped es of id is rises = record { rises = rises; small = All-remove_entry (λ (e : (ℕ × ℕ) × ℕ). e.0.1 < 2 ^ 64) (is_at (pair_order (of, id))) es is.small }

-- ---- the range of an id

-- a key lies in the range of an id
abbrev pub is_of : ℕ → ℕ → ℕ × ℕ → Bool
is_of of most k = is_le (pair_order (of, 0) k) && not (is_lt (pair_order (of, most) k))

three_ways : (n m : ℕ) → (n < m) ⊎ (n ≡ m) ⊎ (m < n)
three_ways n m = grind arith

of_to : (of most : ℕ) (k : ℕ × ℕ) → is_of of most k ≡ true → k.0 ≡ of
of_to of most k h =
    elim (three_ways of k.0) [
      | inl l ↦ absurd (false≢true (sym (ap (λ o. is_le (ordering_then o (nat_cmp 0 k.1)) && not (is_lt (ordering_then o (nat_cmp most k.1)))) (compares_less of k.0 l)) ∙ h))
      | inr r ↦ elim r [
        | inl e ↦ sym e
        | inr l ↦ absurd (false≢true (sym (ap (λ o. is_le (ordering_then o (nat_cmp 0 k.1)) && not (is_lt (ordering_then o (nat_cmp most k.1)))) (compares_greater of k.0 l)) ∙ h))
      ]
    ]

of_from : (of most : ℕ) (k : ℕ × ℕ) → k.0 ≡ of → k.1 ≤ most → is_of of most k ≡ true
of_from of most k same l =
    ap (λ a. is_le (ordering_then (nat_cmp of a) (nat_cmp 0 k.1)) && not (is_lt (ordering_then (nat_cmp of a) (nat_cmp most k.1)))) same
    ∙ ap (λ o. is_le (ordering_then o (nat_cmp 0 k.1)) && not (is_lt (ordering_then o (nat_cmp most k.1)))) (tied_itself nat_cmp_total of)
    ∙ both (is_le (nat_cmp 0 k.1)) (is_lt (nat_cmp most k.1)) (low_end k.1) (high_end most k.1 l)
  where
    both : (a b : Bool) → a ≡ true → b ≡ false → (a && not b) ≡ true
    both true false p q = refl
    both true true p q = absurd (false≢true (sym q))
    both false b p q = absurd (false≢true p)

pub pairs_in_range : (es : List ((ℕ × ℕ) × ℕ)) (of most : ℕ) → IsIndex es → 2 ^ 64 ≡ most + 1 → ArePairsOf es of (filter (λ e. is_of of most e.0) es)
pairs_in_range es of most is top = record {
  rises = subst (IsStrictlySortedBy pair_order) (sym (filter_map (λ (e : (ℕ × ℕ) × ℕ). e.0) (λ e. is_of of most e.0) (is_of of most) es (λ k d l. refl))) (IsStrictlySortedBy-filter pair_order (is_of of most) (keys_of es) is.rises);
  same = λ e. let keeps = in_filter (λ (x : (ℕ × ℕ) × ℕ). is_of of most x.0) es e in (
    λ c. let r = keeps.0 c in (r.0, of_to of most e.0 r.1),
    λ c. let l = All-contains (λ (x : (ℕ × ℕ) × ℕ). x.0.1 < 2 ^ 64) es e is.small c.0 in keeps.1 (c.0, of_from of most e.0 c.1 (omega (arith, l, top))),
  );
}

-- a key is found exactly where it has a pair
pub has_pair : (es : List ((ℕ × ℕ) × ℕ)) (of id : ℕ) → IsIndex es → IsSome (lookup (is_at (pair_order (of, id))) es) ↔ ((d : ℕ) × HasPair es of id d)
has_pair es of id is = (
  λ some. by (lookup (is_at (pair_order (of, id))) es) refl some,
  λ pair. ap is_some ((found es is.rises ((of, id), pair.0)).0 pair.1),
)
  where
    by : (o : Option ℕ) → lookup (is_at (pair_order (of, id))) es ≡ o → IsSome o → (d : ℕ) × HasPair es of id d
    by None e some = absurd (false≢true some)
    by (Some d) e some = (d, Contains-from_lookup (tells_apart pair_exact) (of, id) d es e)
