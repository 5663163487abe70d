-- Entries that came in any order, put in order, and walks over them.
use Rattle.std.proofs.Common.{◌≡◌, ◌++◌, List, [], ◌∷◌, Option, Some, None, Bool, true, false, cond, not, ◌&&◌, length, map, drop, get_or, filter, refl, sym, ◌∙◌, ap, subst, inl, inr, arith, is_some, unwrap_or, IsSome, IfSome, Contains}
use mathlib.Core.Bool.{false≢true}
use Rattle.std.specs.declared.cmp.Ordering.{Ordering}
use Rattle.std.specs.declared.cmp.Ordering.TheVariants.{Less, Equal, Greater}
use Rattle.std.specs.Ordering.{eq_by_cmp, is_eq, is_le, is_lt}
use Rattle.std.specs.Cmp.{IsTotalOrder, eq_by_cmp_equiv, tied_itself}
use Rattle.std.specs.BTreeMap.{insert_entry, is_at}
use Rattle.std.specs.List.{AllByRecursion, IsDistinct, dedup, dedup_from, zip}
use Rattle.std.specs.List.Sorted.{IsSorted, IsStrictlySortedBy}
use Rattle.std.specs.Map.{keys_of, lookup, remove_entry, values_of}
use Rattle.std.specs.Option.{option_or}
use Rattle.std.proofs.lemmas.List.{length-map, map-append}
use Rattle.std.proofs.lemmas.List.Kept.{IsStrictlySortedBy-dedup}
use Rattle.std.proofs.lemmas.Map.Made.{keys_of-zip}
use Rattle.snb_graph_maps.specs.Ahead.{AreAt, IsLeast, IsWithin, ahead, before, is_above, is_from}
use Rattle.snb_graph_maps.specs.Merged.{Rises, merged, value_at}
use Rattle.snb_graph_maps.proofs.ListLemmas.{entry_at}
use Rattle.snb_graph_maps.proofs.LeastLemmas.{all_after, cut}
use Rattle.snb_graph_maps.proofs.MergedLemmas.{length-insert, merged-nil, rises-insert, rises-merged, same_rows, value_at-insert, value_at-merged, value_below}
use Rattle.snb_graph_maps.proofs.PartLemmas.{filter_all, rises-remove, value_at-gone}
use Rattle.snb_graph_maps.proofs.Facts.{contains_cases, contains_here, contains_there, equal_from, none_of}
use Rattle.snb_graph_maps.proofs.ZipLemmas.{zip-sides}

or_none : {X : Type 0} (p : Option X) → option_or p None ≡ p
or_none None = refl
or_none (Some x) = refl

-- two tests that agree find the same
pub lookup_alike : {K X : Type 0} (e f : K → Bool) → ((k : K) → e k ≡ f k) → (es : List (K × X)) → lookup e es ≡ lookup f es
lookup_alike e f same es = λ i. lookup (λ k. same k i) es

-- keys that differ are left by `dedup`
dedup_distinct : {K : Type 0} (E : K → K → Bool) → ((x y : K) → E x y ≡ E y x) → (k : K) (ks : List K) → AllByRecursion (λ y. E k y ≡ false) ks → IsDistinct E ks → dedup_from E k ks ≡ k ∷ ks
unfolding IsDistinct
dedup_distinct E symm k [] h d = refl
dedup_distinct E symm k (x ∷ xs) h d = ap (λ b. cond b (dedup_from E k xs) (k ∷ dedup_from E x xs)) (symm x k ∙ h.0) ∙ ap (λ ys. k ∷ ys) (dedup_distinct E symm x xs d.0 d.1)

still_distinct : {K : Type 0} (E : K → K → Bool) → ((x y : K) → E x y ≡ E y x) → (ks : List K) → IsDistinct E ks → dedup E ks ≡ ks
unfolding IsDistinct
still_distinct E symm [] d = refl
still_distinct E symm (k ∷ ks) d = dedup_distinct E symm k ks d.0 d.1

-- a filter by two tests that agree on what there is
filter_alike : {X : Type 0} (p q : X → Bool) (xs : List X) → ((x : X) → Contains xs x → p x ≡ q x) → filter p xs ≡ filter q xs
filter_alike p q [] same = refl
filter_alike p q (x ∷ xs) same =
    ap (λ b. cond b (x ∷ filter p xs) (filter p xs)) (same x (contains_here x xs))
    ∙ ap (λ ys. cond (q x) (x ∷ ys) ys) (filter_alike p q xs (λ y c. same y (contains_there x xs y c)))

-- the key of an entry is among the keys
pub key_there : {K X : Type 0} (es : List (K × X)) (e : K × X) → Contains es e → Contains (keys_of es) e.0
key_there [] e c = absurd (omega (arith, c.1))
key_there (f ∷ es) e c = elim (contains_cases f es e c) [
  | inl same ↦ subst (λ k. Contains (keys_of (f ∷ es)) k) (ap (λ (x : _ × _). x.0) same) (contains_here f.0 (keys_of es))
  | inr rest ↦ contains_there f.0 (keys_of es) e.0 (key_there es e rest)
]

-- keys that differ by `==` differ by an order that ties the same
pub distinct_alike : {K : Type 0} (R : K → K → Ordering) (eq : K → K → Bool) → ((x y : K) → eq x y ≡ is_eq (R x y)) → (ks : List K) → IsDistinct eq ks → IsDistinct (eq_by_cmp R) ks
distinct_alike R eq ties ks d = subst (λ e. IsDistinct e ks) (λ i x y. ties x y i) d

-- one value more
pub at_more : {K X : Type 0} (R : K → K → Ordering) (es : List (K × X)) (ks : List K) (vs : List X) (k : K) (v : X) → AreAt R es ks vs → Some v ≡ value_at R es k → AreAt R es (ks ++ k ∷ []) (vs ++ v ∷ [])
at_more R es ks vs k v at is = map-append Some vs (v ∷ []) ∙ ap (λ xs. xs ++ Some v ∷ []) at ∙ ap (λ w. map (value_at R es) ks ++ w ∷ []) is ∙ sym (map-append (value_at R es) ks (k ∷ []))

-- as many values as keys
pub at_length : {K X : Type 0} (R : K → K → Ordering) (es : List (K × X)) (ks : List K) (vs : List X) → AreAt R es ks vs → length vs ≡ length ks
at_length R es ks vs at = sym (length-map vs Some) ∙ ap length at ∙ length-map ks (value_at R es)

no_end : {K : Type 0} (R : K → K → Ordering) (next : Option K) → before R next None ≡ next
no_end R None = refl
no_end R (Some k) = refl

module _ {K : Type 0} (R : K → K → Ordering) (o : IsTotalOrder R) where
  -- keys that differ and don't fall rise
  pub strict_from : (ks : List K) → IsSorted R ks → IsDistinct (eq_by_cmp R) ks → IsStrictlySortedBy R ks
  strict_from ks sorted d = subst (IsStrictlySortedBy R) (still_distinct (eq_by_cmp R) (eq_by_cmp_equiv o).symm ks d) (IsStrictlySortedBy-dedup o (λ x y. refl) ks sorted)

module _ {K X : Type 0} (R : K → K → Ordering) (o : IsTotalOrder R) (exact : (x y : K) → R x y ≡ Equal → x ≡ y) where
  -- what is kept under a key is what came with it
  pub value_pending : (es : List (K × X)) (q : K) → value_at R (merged R [] es) q ≡ value_at R es q
  value_pending es q = value_at-merged R o [] es q ∙ or_none (value_at R es q)

  pub rises_pending : (es : List (K × X)) → Rises R (merged R [] es)
  unfolding IsStrictlySortedBy
  rises_pending es = rises-merged R o [] es tt

  -- a change of what a map tells by `==` is one of what it tells by order
  pub told_alike : (eq : K → K → Bool) → ((x y : K) → eq x y ≡ is_eq (R x y)) → (es : List (K × X)) (q : K) → lookup (eq q) es ≡ value_at R es q
  told_alike eq ties es q = lookup_alike (eq q) (is_at (R q)) (ties q) es

  pub puts_alike : (eq : K → K → Bool) → ((x y : K) → eq x y ≡ is_eq (R x y)) → (es fs : List (K × X)) (k : K) (w : Option X) → ((q : K) → lookup (eq q) fs ≡ cond (eq k q) w (lookup (eq q) es)) → (q : K) → value_at R fs q ≡ cond (eq_by_cmp R k q) w (value_at R es q)
  puts_alike eq ties es fs k w h q = sym (told_alike eq ties fs q) ∙ h q ∙ ap (λ b. cond b w (lookup (eq q) es)) (ties k q) ∙ ap (cond (eq_by_cmp R k q) w) (told_alike eq ties es q)

  -- where nothing is frozen, what isn't is all
  pub all_added : (es fs gs : List (K × X)) → es ≡ [] → Rises R fs → gs ≡ fs → gs ≡ merged R es fs
  all_added es fs gs none rises is = is ∙ sym (merged-nil R o exact fs rises) ∙ ap (λ xs. merged R xs fs) (sym none)

  -- an entry more
  pub pending_more : (es fs : List (K × X)) (k : K) (v : X) → ((q : K) → value_at R fs q ≡ cond (eq_by_cmp R k q) (Some v) (value_at R es q)) → merged R [] fs ≡ insert_entry R (merged R [] es) k v
  pending_more es fs k v puts = same_rows R o exact _ _ (rises_pending fs) (rises-insert R o (merged R [] es) k v (rises_pending es)) (λ q.
      value_pending fs q ∙ puts q ∙ ap (λ b. cond b (Some v) (value_at R es q)) ((eq_by_cmp_equiv o).symm k q)
      ∙ sym (value_at-insert R o (merged R [] es) k v q ∙ ap (cond (eq_by_cmp R q k) (Some v)) (value_pending es q)))

  -- an entry fewer
  pub pending_fewer : (es fs : List (K × X)) (k : K) → ((q : K) → value_at R fs q ≡ cond (eq_by_cmp R k q) None (value_at R es q)) → merged R [] fs ≡ remove_entry (is_at (R k)) (merged R [] es)
  pending_fewer es fs k takes = same_rows R o exact _ _ (rises_pending fs) (rises-remove R o exact (is_at (R k)) (merged R [] es) (rises_pending es)) (λ q.
      value_pending fs q ∙ takes q
      ∙ sym (value_at-gone R o exact (merged R [] es) k q (rises_pending es) ∙ ap (cond (is_eq (R k q)) None) (value_pending es q)))

  -- a key that is taken out leaves those above it
  pub left_alone : (eq : K → K → Bool) → ((x y : K) → eq x y ≡ is_eq (R x y)) → (es fs : List (K × X)) (k : K) → ((q : K) → lookup (eq q) fs ≡ cond (eq k q) None (lookup (eq q) es)) → (q : K) → R k q ≡ Less → value_at R fs q ≡ value_at R es q
  left_alone eq ties es fs k h q less = puts_alike eq ties es fs k None h q ∙ ap (λ r. cond (is_eq r) None (value_at R es q)) less

  -- as many as there are
  none_later : (k : K) (es : List (K × X)) → AllByRecursion (λ y. eq_by_cmp R k y ≡ false) (keys_of es) → value_at R es k ≡ None
  none_later k [] h = refl
  none_later k (e ∷ es) h = ap (λ b. cond b (Some e.1) (value_at R es k)) h.0 ∙ none_later k es h.1

  pub length_pending : (es : List (K × X)) → IsDistinct (eq_by_cmp R) (keys_of es) → length (merged R [] es) ≡ length es
  unfolding IsDistinct
  length_pending [] d = refl
  length_pending (e ∷ es) d =
      let one = length-insert R o (merged R [] es) e.0 e.1 (rises_pending es) (value_pending es e.0 ∙ none_later e.0 es d.0) in
      let rest = length_pending es d.1 in
      omega arith

  -- entries with such keys are in order
  pub settled : (es : List (K × X)) → IsSorted R (keys_of es) → IsDistinct (eq_by_cmp R) (keys_of es) → zip (keys_of es) (values_of es) ≡ merged R [] es
  settled es sorted d = zip-sides es ∙ sym (merged-nil R o exact es (strict_from R o (keys_of es) sorted d))

  -- a key that has an entry is among the keys
  pub held_key : (es : List (K × X)) (k : K) → IsSome (value_at R es k) → Contains (keys_of es) k
  held_key [] k h = absurd (false≢true h)
  held_key (e ∷ es) k h = by (held_key es k) (R k e.0) refl
    where
      by : (IsSome (value_at R es k) → Contains (keys_of es) k) → (r : Ordering) → R k e.0 ≡ r → Contains (keys_of (e ∷ es)) k
      by rest Less t = contains_there e.0 (keys_of es) k (rest (subst (λ r. IsSome (cond (is_eq r) (Some e.1) (value_at R es k))) t h))
      by rest Equal t = subst (λ q. Contains (keys_of (e ∷ es)) q) (sym (exact k e.0 t)) (contains_here e.0 (keys_of es))
      by rest Greater t = contains_there e.0 (keys_of es) k (rest (subst (λ r. IsSome (cond (is_eq r) (Some e.1) (value_at R es k))) t h))

  pub key_held : (es : List (K × X)) (k : K) → Contains (keys_of es) k → IsSome (value_at R es k)
  key_held [] k c = absurd (omega (arith, c.1))
  key_held (e ∷ es) k c = elim (contains_cases e.0 (keys_of es) k c) [
    | inl same ↦ ap (λ r. is_some (cond (is_eq r) (Some e.1) (value_at R es k))) (ap (λ q. R q e.0) (sym same) ∙ tied_itself o e.0)
    | inr rest ↦ by (is_eq (R k e.0)) (key_held es k rest)
  ]
    where
      by : (b : Bool) → IsSome (value_at R es k) → IsSome (cond b (Some e.1) (value_at R es k))
      by true h = refl
      by false h = h

  -- the values under keys that are all there are, beside these
  gathered : (es : List (K × X)) (ks : List K) (vs : List X) → AreAt R es ks vs → (q : K) → (IsSome (value_at R es q) → Contains ks q) → value_at R (zip ks vs) q ≡ value_at R es q
  gathered es [] [] at q all = sym (none_of (value_at R es q) (λ v is. let c = all (ap is_some is) in omega (arith, c.1)))
  gathered es [] (v ∷ vs) at q all = absurd cc
  gathered es (k ∷ ks) [] at q all = absurd cc
  gathered es (k ∷ ks) (v ∷ vs) at q all = by (λ t. gathered es ks vs (ap (drop 1) at) q (other t)) (is_eq (R q k)) refl
    where
      other : is_eq (R q k) ≡ false → IsSome (value_at R es q) → Contains ks q
      other t h = elim (contains_cases k ks q (all h)) [
        | inl same ↦ absurd (false≢true (sym t ∙ ap is_eq (ap (R q) same ∙ tied_itself o q)))
        | inr rest ↦ rest
      ]

      by : (is_eq (R q k) ≡ false → value_at R (zip ks vs) q ≡ value_at R es q) → (b : Bool) → is_eq (R q k) ≡ b → cond (is_eq (R q k)) (Some v) (value_at R (zip ks vs) q) ≡ value_at R es q
      by rest true t = ap (λ b. cond b (Some v) (value_at R (zip ks vs) q)) t ∙ ap (λ xs. get_or xs 0 None) at ∙ ap (value_at R es) (sym (exact q k (equal_from (R q k) t)))
      by rest false t = ap (λ b. cond b (Some v) (value_at R (zip ks vs) q)) t ∙ rest t

  -- are the entries in order, where the keys are
  pub in_order : (es : List (K × X)) (ks : List K) (vs : List X) → AreAt R es ks vs → IsStrictlySortedBy R ks → ((q : K) → Contains (keys_of es) q → Contains ks q) → length vs ≡ length ks → zip ks vs ≡ merged R [] es
  in_order es ks vs at rise all same =
      same_rows R o exact (zip ks vs) (merged R [] es) (subst (IsStrictlySortedBy R) (sym (keys_of-zip ks vs same)) rise) (rises_pending es)
      (λ q. gathered es ks vs at q (λ h. all q (held_key es q h)) ∙ sym (value_pending es q))

  -- ---- what is ahead

  pub cut_ahead : (es : List (K × X)) (next end : Option K) → ahead R es (before R next end) end ≡ ahead R es next end
  cut_ahead es next end = filter_alike _ _ (merged R [] es) (λ e c. cut R o exact next end e.0)

  pub within : (es : List (K × X)) (next end : Option K) → IfSome next (λ k. Contains (keys_of es) k) → IsWithin R es (before R next end) end
  within es None end h = tt
  within es (Some n) end h = by (is_from R end n) refl
    where
      by : (b : Bool) → is_from R end n ≡ b → IsWithin R es (cond (is_from R end n) None (Some n)) end
      by true p = subst (λ b. IsWithin R es (cond b None (Some n)) end) (sym p) tt
      by false p = subst (λ b. IsWithin R es (cond b None (Some n)) end) (sym p) (key_held es n h, p)

  -- an entry in order is one that waits
  waits : (es : List (K × X)) (e : K × X) → Contains (merged R [] es) e → Contains (keys_of es) e.0
  waits es e c = held_key es e.0 (ap is_some (sym (value_pending es e.0) ∙ (entry_at R o exact (merged R [] es) e.0 e.1 (rises_pending es)).0 c))

  pub ahead_within : (es : List (K × X)) (next end : Option K) (p q : K → Bool) → ((k : K) → Contains (keys_of es) k → is_from R next k ≡ p k) → ((k : K) → Contains (keys_of es) k → is_from R end k ≡ q k) → ahead R es next end ≡ filter (λ e. p e.0 && not (q e.0)) (merged R [] es)
  ahead_within es next end p q from to = filter_alike _ _ (merged R [] es) (λ e c. let held = waits es e c in ap (λ b. b && not (is_from R end e.0)) (from e.0 held) ∙ ap (λ b. p e.0 && not b) (to e.0 held))

  pub ahead_all : (es : List (K × X)) (next : Option K) → IsLeast R (λ k. true) (keys_of es) next → ahead R es next None ≡ merged R [] es
  ahead_all es next is = ahead_within es next None (λ k. true) (λ k. false) is.from (λ k c. refl) ∙ filter_all (merged R [] es)

  -- ---- the first of what is ahead

  above_all : (p : K → Bool) (k : K) (es : List (K × X)) → AllByRecursion (λ y. R k y ≡ Less) (keys_of es) → filter (λ e. is_le (R k e.0) && p e.0) es ≡ filter (λ e. is_lt (R k e.0) && p e.0) es
  above_all p k [] h = refl
  above_all p k (e ∷ es) h =
      ap (λ b. cond (b && p e.0) (e ∷ filter (λ x. is_le (R k x.0) && p x.0) es) (filter (λ x. is_le (R k x.0) && p x.0) es)) (ap is_le h.0 ∙ sym (ap is_lt h.0))
      ∙ ap (λ xs. cond (is_lt (R k e.0) && p e.0) (e ∷ xs) xs) (above_all p k es h.1)

  none_some : (v : X) → None ≡ Some v → ⊥
  none_some v e = false≢true (ap is_some e)

  one_value : (v w : X) → Some v ≡ Some w → v ≡ w
  one_value v w e = ap (λ (p : Option X). unwrap_or p v) e

  first_from : (p : K → Bool) (k : K) (v : X) (es : List (K × X)) → Rises R es → value_at R es k ≡ Some v → p k ≡ true → filter (λ e. is_le (R k e.0) && p e.0) es ≡ (k, v) ∷ filter (λ e. is_lt (R k e.0) && p e.0) es
  unfolding IsStrictlySortedBy
  first_from p k v [] h is short = absurd (none_some v is)
  first_from p k v (e ∷ es) h is short = by (first_from p k v es h.1) (R k e.0) refl
    where
      low : List (K × X)
      low = filter (λ x. is_le (R k x.0) && p x.0) es

      high : List (K × X)
      high = filter (λ x. is_lt (R k x.0) && p x.0) es

      by : (value_at R es k ≡ Some v → p k ≡ true → low ≡ (k, v) ∷ high) → (r : Ordering) → R k e.0 ≡ r → cond (is_le (R k e.0) && p e.0) (e ∷ low) low ≡ (k, v) ∷ cond (is_lt (R k e.0) && p e.0) (e ∷ high) high
      by rest Less t = absurd (none_some v (sym (ap (λ r. cond (is_eq r) (Some e.1) (value_at R es k)) t ∙ value_below R o k es (all_after R o exact k e.0 t (keys_of es) h.0)) ∙ is))
      by rest Equal t =
          let same : k ≡ e.0 = exact k e.0 t in
          let all : AllByRecursion (λ y. R k y ≡ Less) (keys_of es) = subst (λ q. AllByRecursion (λ y. R q y ≡ Less) (keys_of es)) (sym same) h.0 in
          let its : e.1 ≡ v = one_value e.1 v (sym (ap (λ r. cond (is_eq r) (Some e.1) (value_at R es k)) t) ∙ is) in
          let back : e.0 ≡ k = sym same in
          let pair : ◌≡◌ {A = K × X} e (k, v) = λ i. (back i, its i) in
          ap (λ b. cond b (e ∷ low) low) (ap (λ r. is_le r && p e.0) t ∙ ap p back ∙ short)
          ∙ ap (λ (x : K × X). x ∷ low) pair ∙ ap (λ (xs : List (K × X)). (k, v) ∷ xs) (above_all p k es all)
          ∙ ap (λ b. (k, v) ∷ cond b (e ∷ high) high) (sym (ap (λ r. is_lt r && p e.0) t))
      by rest Greater t =
          ap (λ b. cond b (e ∷ low) low) (ap (λ r. is_le r && p e.0) t)
          ∙ rest (sym (ap (λ r. cond (is_eq r) (Some e.1) (value_at R es k)) t) ∙ is) short
          ∙ ap (λ b. (k, v) ∷ cond b (e ∷ high) high) (sym (ap (λ r. is_lt r && p e.0) t))

  pub takes_next : (es : List (K × X)) (k : K) (v : X) (next end : Option K) → value_at R es k ≡ Some v → is_from R end k ≡ false → IsLeast R (is_above R (Some k)) (keys_of es) next → ahead R es (Some k) end ≡ (k, v) ∷ ahead R es (before R next end) end
  takes_next es k v next end is short least =
      first_from (λ q. not (is_from R end q)) k v (merged R [] es) (rises_pending es) (value_pending es k ∙ is) (ap not short)
      ∙ ap (λ xs. (k, v) ∷ xs) (filter_alike _ _ (merged R [] es) (λ e c. ap (λ b. b && not (is_from R end e.0)) (sym (least.from e.0 (waits es e c))) ∙ sym (cut R o exact next end e.0)))

  -- nothing is ahead where there is no next
  none_within : (p : K × X → Bool) (es : List (K × X)) → filter (λ e. false && p e) es ≡ []
  none_within p [] = refl
  none_within p (e ∷ es) = none_within p es

  pub none_ahead : (es : List (K × X)) (end : Option K) → ahead R es None end ≡ []
  none_ahead es end = none_within (λ e. not (is_from R end e.0)) (merged R [] es)

  pub within_all : (es : List (K × X)) (next : Option K) → IfSome next (λ k. Contains (keys_of es) k) → IsWithin R es next None
  within_all es next held = subst (λ n. IsWithin R es n None) (no_end R next) (within es next None held)

  -- the least key that isn't below one: that key, or the least above it
  pub since_found : (es : List (K × X)) (from k : K) (v : X) → is_eq (R from k) ≡ true → value_at R es from ≡ Some v → IsLeast R (λ x. is_le (R from x)) (keys_of es) (Some k)
  since_found es from k v tied is = subst (λ q. IsLeast R (λ x. is_le (R from x)) (keys_of es) (Some q)) (exact from k (equal_from (R from k) tied)) (record { held = held_key es from (ap is_some is); from = λ x c. refl })

  pub since_missed : (es : List (K × X)) (from : K) (next : Option K) → value_at R es from ≡ None → IsLeast R (is_above R (Some from)) (keys_of es) next → IsLeast R (λ x. is_le (R from x)) (keys_of es) next
  since_missed es from next none is = record { held = is.held; from = λ x c. is.from x c ∙ by x c (R from x) refl }
    where
      by : (x : K) → Contains (keys_of es) x → (r : Ordering) → R from x ≡ r → is_lt (R from x) ≡ is_le (R from x)
      by x c Less t = ap is_lt t ∙ sym (ap is_le t)
      by x c Equal t = absurd (false≢true (sym (ap is_some (ap (value_at R es) (sym (exact from x t)) ∙ none)) ∙ key_held es x c))
      by x c Greater t = ap is_lt t ∙ sym (ap is_le t)
