-- What the entries of two parts are, as one list.
use Rattle.std.specs.Prelude.{T}
use Rattle.std.specs.Prelude.{◌≡◌, ℕ, ◌+◌, suc, length, List, [], ◌∷◌, Option, Some, None, Bool, true, false, cond, refl, IsSome, ◌&&◌, is_some}
use Rattle.std.proofs.Common.{sym, ◌∙◌, ap, subst, arith}
use Rattle.std.specs.declared.cmp.Ordering.{Ordering}
use Rattle.std.specs.declared.cmp.Ordering.TheVariants.{Less, Equal, Greater}
use Rattle.std.specs.Ordering.{eq_by_cmp, is_eq, is_lt, match_ordering, ordering_reverse}
use Rattle.std.specs.Cmp.{IsTotalOrder, eq_by_cmp_equiv, tied_itself}
use Rattle.std.specs.BTreeMap.{BTreeMap, InsertsAll, get}
use Rattle.std.proofs.lemmas.Map.Made.{update_all_distinct}
use Rattle.std.proofs.lemmas.Map.Keys.{IsDistinct-from_sorted}
use Rattle.std.specs.List.{AllByRecursion}
use Rattle.std.specs.List.Sorted.{IsStrictlySortedBy}
use Rattle.std.specs.FinMap.Entries.{put, find, is_sorted, below_all, is_sorted-put, find-put, find_tied, length-put, same_entries, by_order}
use Rattle.std.specs.BTreeMap.{insert_entry, is_at}
use Rattle.std.specs.Map.{keys_of, remove_entry}
use Rattle.std.specs.Map.Iter.{TakesFirst, deref_pair}
use Rattle.std.specs.Borrow.{Bor}
use Rattle.std.specs.Iterator.{MakesProgress, at_most}
use Rattle.std.specs.Option.{option_or}
use mathlib.Core.Bool.{false≢true}
use Rattle.snb_graph_maps.specs.Merged.{value_at, merged, Rises, AreParts, takes_first, left, HeldOrDone}

both : (a b : Bool) → T a → T b → T (a && b)
both true b p q = q
both false b p q = p

first : (a b : Bool) → T (a && b) → T a
first true b p = tt
first false b p = p

second : (a b : Bool) → T (a && b) → T b
second true b p = p
second false b p = absurd p

zero_not_suc : {n : ℕ} → 0 ≡ suc n → ⊥
zero_not_suc e = omega arith

less : (o : Ordering) → T (is_lt o) → o ≡ Less
less Less p = refl
less Equal p = absurd p
less Greater p = absurd p

module _ {K X : Type 0} where
  -- a part whose entry at hand is taken, and the next one got
  pub front_takes : (next next' : Option (Bor K × Bor X)) (es es' : List (K × X)) → HeldOrDone next es → TakesFirst deref_pair es next' es' → TakesFirst deref_pair (left next es) next (left next' es') × HeldOrDone next' es'
  front_takes None None es es' h t = ((refl, refl), t.1)
  front_takes None (Some x) es es' h t = absurd (not_cons (sym h ∙ t))
    where
      not_cons : [] ≡ deref_pair x ∷ es' → ⊥
      not_cons e = zero_not_suc (ap length e)
  front_takes (Some e) None es es' h t = (ap (λ xs. deref_pair e ∷ xs) t.0, t.1)
  front_takes (Some e) (Some x) es es' h t = (ap (λ xs. deref_pair e ∷ xs) t, tt)

  -- each item taken leaves one fewer
  pub takes_progress : {A : Type 0} (shows : A → K × X) (es gs : List (K × X)) (r : Option A) → TakesFirst shows es r gs → MakesProgress (λ _. Unit {0}) (λ s. at_most (length s)) es r gs
  takes_progress shows es gs None t = record { on = λ f. tt; keeps = tt; rests = λ f. tt }
  takes_progress shows es gs (Some x) t = record { on = λ f. (tt, tt, rw t (omega arith)); keeps = tt; rests = λ f. tt }

module _ {K X : Type 0} (R : K → K → Ordering) where
  -- std's two words for an insertion, and for a look-up, agree
  insert_is : (es : List (K × X)) (k : K) (v : X) → insert_entry R es k v ≡ put R k v es
  insert_is [] k v = refl
  insert_is (e ∷ es) k v =
      elim (R k e.0) as (λ r. match_ordering r ((k, v) ∷ e ∷ es) ((e.0, v) ∷ es) (e ∷ insert_entry R es k v) ≡ by_order r ((k, v) ∷ e ∷ es) ((e.0, v) ∷ es) (e ∷ put R k v es)) [
        | Less ↦ refl
        | Equal ↦ refl
        | Greater ↦ ap (λ t. e ∷ t) (insert_is es k v)
      ]

  find_is : (q : K) (es : List (K × X)) → find R q es ≡ value_at R es q
  find_is q [] = refl
  find_is q (e ∷ es) = ap (cond (is_eq (R q e.0)) (Some e.1)) (find_is q es)

  below_from : (x : K) (es : List (K × X)) → AllByRecursion (λ y. R x y ≡ Less) (keys_of es) → T (below_all R x es)
  below_from x [] h = tt
  below_from x (e ∷ es) h = both _ _ (subst (λ r. T (is_lt r)) (sym h.0) tt) (below_from x es h.1)

  below_to : (x : K) (es : List (K × X)) → T (below_all R x es) → AllByRecursion (λ y. R x y ≡ Less) (keys_of es)
  below_to x [] h = tt
  below_to x (e ∷ es) h = (less _ (first _ _ h), below_to x es (second _ _ h))

  sorted_from : (es : List (K × X)) → IsStrictlySortedBy R (keys_of es) → T (is_sorted R es)
  unfolding IsStrictlySortedBy
  sorted_from [] h = tt
  sorted_from (e ∷ es) h = both _ _ (below_from e.0 es h.0) (sorted_from es h.1)

  sorted_to : (es : List (K × X)) → T (is_sorted R es) → IsStrictlySortedBy R (keys_of es)
  unfolding IsStrictlySortedBy
  sorted_to [] h = tt
  sorted_to (e ∷ es) h = (below_to e.0 es (first _ _ h), sorted_to es (second _ _ h))

  module _ (o : IsTotalOrder R) where
    -- an insertion keeps the order
    pub rises-insert : (es : List (K × X)) (k : K) (v : X) → IsStrictlySortedBy R (keys_of es) → IsStrictlySortedBy R (keys_of (insert_entry R es k v))
    rises-insert es k v h = sorted_to _ (subst (λ fs. T (is_sorted R fs)) (sym (insert_is es k v)) (is_sorted-put R o k v es (sorted_from es h)))

    -- and sets the value of its key alone
    pub value_at-insert : (es : List (K × X)) (k : K) (v : X) (q : K) → value_at R (insert_entry R es k v) q ≡ cond (eq_by_cmp R q k) (Some v) (value_at R es q)
    value_at-insert es k v q = ap (λ fs. value_at R fs q) (insert_is es k v) ∙ sym (find_is q (put R k v es)) ∙ find-put R o q k v es ∙ ap (cond (eq_by_cmp R q k) (Some v)) (find_is q es)

    -- lists in order that answer alike are equal
    pub same_rows : ((x y : K) → R x y ≡ Equal → x ≡ y) → (es fs : List (K × X)) → IsStrictlySortedBy R (keys_of es) → IsStrictlySortedBy R (keys_of fs) → ((q : K) → value_at R es q ≡ value_at R fs q) → es ≡ fs
    same_rows exact es fs g h is = same_entries R o exact es fs (sorted_from es g) (sorted_from fs h) (λ q. find_is q es ∙ is q ∙ sym (find_is q fs))

    pub rises-merged : (es fs : List (K × X)) → IsStrictlySortedBy R (keys_of es) → IsStrictlySortedBy R (keys_of (merged R es fs))
    rises-merged es [] h = h
    rises-merged es (f ∷ fs) h = rises-insert (merged R es fs) f.0 f.1 (rises-merged es fs h)

    -- the added entries hide those below
    or_cond : (b : Bool) (v : X) (p q : Option X) → cond b (Some v) (option_or p q) ≡ option_or (cond b (Some v) p) q
    or_cond true v p q = refl
    or_cond false v p q = refl

    pub value_at-merged : (es fs : List (K × X)) (q : K) → value_at R (merged R es fs) q ≡ option_or (value_at R fs q) (value_at R es q)
    value_at-merged es [] q = refl
    value_at-merged es (f ∷ fs) q = value_at-insert (merged R es fs) f.0 f.1 q ∙ ap (cond (eq_by_cmp R q f.0) (Some f.1)) (value_at-merged es fs q) ∙ or_cond (eq_by_cmp R q f.0) f.1 (value_at R fs q) (value_at R es q)

    -- a key that ties with another finds the same
    pub value_at_tied : (es : List (K × X)) (q x : K) → R q x ≡ Equal → value_at R es x ≡ value_at R es q
    value_at_tied es q x t = sym (find_is x es) ∙ find_tied R o q x t es ∙ find_is q es

    pub found_added : (es fs : List (K × X)) (q : K) (v : X) → Some v ≡ value_at R fs q → Some v ≡ value_at R (merged R es fs) q
    found_added es fs q v e = sym (value_at-merged es fs q ∙ ap (λ p. option_or p (value_at R es q)) (sym e))

    pub found_frozen : (es fs : List (K × X)) (q : K) (p : Option X) → None ≡ value_at R fs q → p ≡ value_at R es q → p ≡ value_at R (merged R es fs) q
    found_frozen es fs q p none e = e ∙ sym (value_at-merged es fs q ∙ ap (λ p. option_or p (value_at R es q)) (sym none))

    -- a key that the whole lacks is in neither part
    pub none_frozen : (es fs : List (K × X)) (q : K) → false ≡ is_some (value_at R (merged R es fs) q) → value_at R es q ≡ None
    none_frozen es fs q e = second_none (value_at R fs q) (value_at R es q) (e ∙ ap is_some (value_at-merged es fs q))
      where
        second_none : (p r : Option X) → false ≡ is_some (option_or p r) → r ≡ None
        second_none None None e = refl
        second_none None (Some x) e = absurd (false≢true e)
        second_none (Some x) r e = absurd (false≢true e)

    -- a new key may be added
    pub parts-insert : (es fs gs : List (K × X)) (k : K) (v : X) → AreParts R es fs → value_at R es k ≡ None → ((q : K) → value_at R gs q ≡ cond (is_at (R k) q) (Some v) (value_at R fs q)) → Rises R gs → AreParts R es gs
    parts-insert es fs gs k v parts none puts rises = record { frozen_rises = parts.frozen_rises; added_rises = rises; apart = λ q some. puts q ∙ by q some (R k q) refl }
      where
        not_some : (p : Option X) → p ≡ None → IsSome p → ⊥
        not_some p e s = false≢true (sym (ap is_some e) ∙ s)

        by : (q : K) → IsSome (value_at R es q) → (r : Ordering) → R k q ≡ r → cond (is_eq r) (Some v) (value_at R fs q) ≡ None
        by q some Less e = parts.apart q some
        by q some Equal e = absurd (not_some _ (value_at_tied es k q e ∙ none) some)
        by q some Greater e = parts.apart q some

    -- a key below the others isn't among them
    pub value_below : (q : K) (es : List (K × X)) → AllByRecursion (λ y. R q y ≡ Less) (keys_of es) → value_at R es q ≡ None
    value_below q [] h = refl
    value_below q (e ∷ es) h = ap (λ r. cond (is_eq r) (Some e.1) (value_at R es q)) h.0 ∙ value_below q es h.1

    passed_over : (b : Bool) (v : X) (p : Option X) → cond b (Some v) p ≡ None → p ≡ None
    passed_over true v p e = absurd (false≢true (sym (ap is_some e)))
    passed_over false v p e = e

    none_if_not : (p : Option X) → (IsSome p → ⊥) → p ≡ None
    none_if_not None h = refl
    none_if_not (Some x) h = absurd (h refl)

    -- the parts after the first added entry
    pub parts_added : (es fs : List (K × X)) (f : K × X) → AreParts R es (f ∷ fs) → AreParts R es fs
    unfolding IsStrictlySortedBy
    parts_added es fs f parts = record { frozen_rises = parts.frozen_rises; added_rises = parts.added_rises.1; apart = λ k some. passed_over _ f.1 _ (parts.apart k some) }

    -- the parts after the first frozen entry
    pub parts_frozen : (es fs : List (K × X)) (e : K × X) → AreParts R (e ∷ es) fs → AreParts R es fs
    unfolding IsStrictlySortedBy
    parts_frozen es fs e parts = record { frozen_rises = parts.frozen_rises.1; added_rises = parts.added_rises; apart = λ k some. parts.apart k (still (is_eq (R k e.0)) (value_at R es k) some) }
      where
        still : (b : Bool) (p : Option X) → IsSome p → IsSome (cond b (Some e.1) p)
        still true p s = refl
        still false p s = s

    pub head_new : (es fs : List (K × X)) (f : K × X) → AreParts R es (f ∷ fs) → value_at R (merged R es fs) f.0 ≡ None
    unfolding IsStrictlySortedBy
    head_new es fs f parts =
        value_at-merged es fs f.0 ∙ ap (λ p. option_or p (value_at R es f.0)) (value_below f.0 fs parts.added_rises.0)
        ∙ none_if_not _ (λ some. false≢true (sym (ap is_some (sym (ap (λ r. cond (is_eq r) (Some f.1) (value_at R fs f.0)) (tied_itself o f.0)) ∙ parts.apart f.0 some))))

    -- a new key makes a list one longer
    pub length-insert : (es : List (K × X)) (k : K) (v : X) → Rises R es → value_at R es k ≡ None → length (insert_entry R es k v) ≡ suc (length es)
    length-insert es k v h none = ap length (insert_is es k v) ∙ length-put R o k v es (sorted_from es h) ∙ ap (λ p. cond (is_some p) (length es) (length es + 1)) (find_is k es ∙ none) ∙ omega arith

    pub length-merged : (es fs : List (K × X)) → AreParts R es fs → length (merged R es fs) ≡ length es + length fs
    length-merged es [] parts = omega arith
    length-merged es (f ∷ fs) parts =
        let one = length-insert (merged R es fs) f.0 f.1 (rises-merged es fs parts.frozen_rises) (head_new es fs f parts) in
        let rest = length-merged es fs (parts_added es fs f parts) in
        omega arith

    pub rises_merged_parts : (es fs : List (K × X)) → AreParts R es fs → Rises R (merged R es fs)
    rises_merged_parts es fs parts = rises-merged es fs parts.frozen_rises

    -- a key below those of a list is below them after an insertion of a greater key
    below-insert : (x : K) (es : List (K × X)) (k : K) (v : X) → R x k ≡ Less → AllByRecursion (λ y. R x y ≡ Less) (keys_of es) → AllByRecursion (λ y. R x y ≡ Less) (keys_of (insert_entry R es k v))
    below-insert x [] k v less h = (less, tt)
    below-insert x (e ∷ es) k v less h =
        elim (R k e.0) as (λ r. AllByRecursion (λ y. R x y ≡ Less) (keys_of (match_ordering r ((k, v) ∷ e ∷ es) ((e.0, v) ∷ es) (e ∷ insert_entry R es k v)))) [
          | Less ↦ (less, h)
          | Equal ↦ h
          | Greater ↦ (h.0, below-insert x es k v less h.1)
        ]

    below-merged : (x : K) (es fs : List (K × X)) → AllByRecursion (λ y. R x y ≡ Less) (keys_of es) → AllByRecursion (λ y. R x y ≡ Less) (keys_of fs) → AllByRecursion (λ y. R x y ≡ Less) (keys_of (merged R es fs))
    below-merged x es [] g h = g
    below-merged x es (f ∷ fs) g h = below-insert x (merged R es fs) f.0 f.1 h.0 (below-merged x es fs g h.1)

    all_less : (_ : List (K × X)) (x y : K) → R x y ≡ Less → (ks : List K) → AllByRecursion (λ z. R y z ≡ Less) ks → AllByRecursion (λ z. R x z ≡ Less) ks
    all_less n x y l [] h = tt
    all_less n x y l (k ∷ ks) h = (o.trans x y k l h.0, all_less n x y l ks h.1)

    -- the first entry of the whole is the first frozen one, where that is below the added ones
    frozen_in_front : (e : K × X) (es fs : List (K × X)) → AllByRecursion (λ y. R e.0 y ≡ Less) (keys_of fs) → merged R (e ∷ es) fs ≡ e ∷ merged R es fs
    frozen_in_front e es [] h = refl
    frozen_in_front e es (f ∷ fs) h =
        ap (λ gs. insert_entry R gs f.0 f.1) (frozen_in_front e es fs h.1)
        ∙ ap (λ r. match_ordering r (f ∷ e ∷ merged R es fs) ((e.0, f.1) ∷ merged R es fs) (e ∷ insert_entry R (merged R es fs) f.0 f.1)) (o.antisymm f.0 e.0 ∙ ap ordering_reverse h.0)

    insert_in_front : (f : K × X) (gs : List (K × X)) → AllByRecursion (λ y. R f.0 y ≡ Less) (keys_of gs) → insert_entry R gs f.0 f.1 ≡ f ∷ gs
    insert_in_front f [] h = refl
    insert_in_front f (g ∷ gs) h = ap (λ r. match_ordering r (f ∷ g ∷ gs) ((g.0, f.1) ∷ gs) (g ∷ insert_entry R gs f.0 f.1)) h.0

    pub merged_frozen_first : (e : K × X) (es fs : List (K × X)) → AreParts R (e ∷ es) fs → ((f : K × X) (gs : List (K × X)) → fs ≡ f ∷ gs → R e.0 f.0 ≡ Less) → merged R (e ∷ es) fs ≡ e ∷ merged R es fs
    unfolding IsStrictlySortedBy
    merged_frozen_first e es [] parts h = refl
    merged_frozen_first e es (f ∷ fs) parts h = frozen_in_front e es (f ∷ fs) (h f fs refl, all_less [] e.0 f.0 (h f fs refl) (keys_of fs) parts.added_rises.0)

    pub merged_added_first : (f : K × X) (es fs : List (K × X)) → AreParts R es (f ∷ fs) → ((e : K × X) (gs : List (K × X)) → es ≡ e ∷ gs → R f.0 e.0 ≡ Less) → merged R es (f ∷ fs) ≡ f ∷ merged R es fs
    unfolding IsStrictlySortedBy
    merged_added_first f [] fs parts h = insert_in_front f (merged R [] fs) (below-merged f.0 [] fs tt parts.added_rises.0)
    merged_added_first f (e ∷ es) fs parts h = insert_in_front f (merged R (e ∷ es) fs) (below-merged f.0 (e ∷ es) fs (h e es refl, all_less [] f.0 e.0 (h e es refl) (keys_of es) parts.frozen_rises.0) parts.added_rises.0)

    -- two keys of the parts are never alike
    pub not_alike : (e f : K × X) (es fs : List (K × X)) → AreParts R (e ∷ es) (f ∷ fs) → R e.0 f.0 ≡ Equal → ⊥
    not_alike e f es fs parts t = false≢true (sym (ap is_some (sym (ap (λ r. cond (is_eq r) (Some f.1) (value_at R fs e.0)) t) ∙ parts.apart e.0 (ap (λ r. is_some (cond (is_eq r) (Some e.1) (value_at R es e.0))) (tied_itself o e.0)))))

    pub added_below : (e f : K × X) (es fs : List (K × X)) → AreParts R (e ∷ es) (f ∷ fs) → (R e.0 f.0 ≡ Less → ⊥) → R f.0 e.0 ≡ Less
    added_below e f es fs parts h = by (R e.0 f.0) refl
      where
        by : (r : Ordering) → R e.0 f.0 ≡ r → R f.0 e.0 ≡ Less
        by Less t = absurd (h t)
        by Equal t = absurd (not_alike e f es fs parts t)
        by Greater t = o.antisymm f.0 e.0 ∙ ap ordering_reverse t

    lower_head : (e : K × X) (es fs : List (K × X)) → true ≡ takes_first R (e ∷ es) fs → (f : K × X) (gs : List (K × X)) → fs ≡ f ∷ gs → R e.0 f.0 ≡ Less
    lower_head e es fs h f gs is = less _ (subst T (h ∙ ap (takes_first R (e ∷ es)) is) tt)

    higher_head : (f : K × X) (es fs : List (K × X)) → AreParts R es (f ∷ fs) → false ≡ takes_first R es (f ∷ fs) → (e : K × X) (gs : List (K × X)) → es ≡ e ∷ gs → R f.0 e.0 ≡ Less
    higher_head f es fs parts h e gs is =
        added_below e f gs fs (subst (λ xs. AreParts R xs (f ∷ fs)) is parts) (λ l. false≢true (h ∙ ap (λ xs. takes_first R xs (f ∷ fs)) is ∙ ap is_lt l))

    nothing_first : (es : List (K × X)) → false ≡ takes_first R es [] → es ≡ []
    nothing_first [] h = refl
    nothing_first (e ∷ es) h = absurd (false≢true h)

    -- to take the first of both is to take it from the list that has it
    pub takes_from_frozen : (es fs gs : List (K × X)) → {A : Type 0} (shows : A → K × X) (r : Option A) → AreParts R es fs → true ≡ takes_first R es fs → TakesFirst shows es r gs → TakesFirst shows (merged R es fs) r (merged R gs fs) × AreParts R gs fs
    takes_from_frozen es fs gs shows None parts e t = absurd (false≢true (sym (e ∙ ap (λ xs. takes_first R xs fs) t.0)))
    takes_from_frozen es fs gs shows (Some x) parts e t =
        let here : AreParts R (shows x ∷ gs) fs = subst (λ xs. AreParts R xs fs) t parts in
        let lower : true ≡ takes_first R (shows x ∷ gs) fs = e ∙ ap (λ xs. takes_first R xs fs) t in
        (ap (λ xs. merged R xs fs) t ∙ merged_frozen_first (shows x) gs fs here (lower_head (shows x) gs fs lower), parts_frozen gs fs (shows x) here)

    pub takes_from_added : (es fs gs : List (K × X)) → {A : Type 0} (shows : A → K × X) (r : Option A) → AreParts R es fs → false ≡ takes_first R es fs → TakesFirst shows fs r gs → TakesFirst shows (merged R es fs) r (merged R es gs) × AreParts R es gs
    takes_from_added es fs gs shows None parts e t =
        let no_frozen : es ≡ [] = nothing_first es (e ∙ ap (takes_first R es) t.0) in
        ((ap (merged R es) t.0 ∙ no_frozen, ap (merged R es) t.1 ∙ no_frozen), subst (AreParts R es) (t.0 ∙ sym t.1) parts)
    takes_from_added es fs gs shows (Some x) parts e t =
        let here : AreParts R es (shows x ∷ gs) = subst (AreParts R es) t parts in
        let lower : false ≡ takes_first R es (shows x ∷ gs) = e ∙ ap (takes_first R es) t in
        (ap (merged R es) t ∙ merged_added_first (shows x) es gs here (higher_head (shows x) es gs here lower), parts_added es gs (shows x) here)

    -- a new entry that is taken out again leaves the list as it was
    pub remove-insert : (es : List (K × X)) (k : K) (v : X) → value_at R es k ≡ None → remove_entry (is_at (R k)) (insert_entry R es k v) ≡ es
    remove-insert [] k v none = ap (λ r. cond (is_eq r) [] ((k, v) ∷ [])) (tied_itself o k)
    remove-insert (e ∷ es) k v none = by (remove-insert es k v) (R k e.0) refl
      where
        by : (value_at R es k ≡ None → remove_entry (is_at (R k)) (insert_entry R es k v) ≡ es) → (r : Ordering) → R k e.0 ≡ r → remove_entry (is_at (R k)) (match_ordering (R k e.0) ((k, v) ∷ e ∷ es) ((e.0, v) ∷ es) (e ∷ insert_entry R es k v)) ≡ e ∷ es
        by rest Less t = ap (λ r. remove_entry (is_at (R k)) (match_ordering r ((k, v) ∷ e ∷ es) ((e.0, v) ∷ es) (e ∷ insert_entry R es k v))) t ∙ ap (λ r. cond (is_eq r) (e ∷ es) ((k, v) ∷ remove_entry (is_at (R k)) (e ∷ es))) (tied_itself o k)
        by rest Equal t = absurd (false≢true (sym (ap is_some (sym (ap (λ r. cond (is_eq r) (Some e.1) (value_at R es k)) t) ∙ none))))
        by rest Greater t =
            ap (λ r. remove_entry (is_at (R k)) (match_ordering r ((k, v) ∷ e ∷ es) ((e.0, v) ∷ es) (e ∷ insert_entry R es k v))) t
            ∙ ap (λ r. cond (is_eq r) (insert_entry R es k v) (e ∷ remove_entry (is_at (R k)) (insert_entry R es k v))) t
            ∙ ap (λ fs. e ∷ fs) (rest (passed_over (is_eq (R k e.0)) e.1 (value_at R es k) none))

    -- entries of which one is taken out stay in order, and apart from others
    value_at-remove : (es : List (K × X)) (k q : K) → value_at R es q ≡ None → value_at R (remove_entry (is_at (R k)) es) q ≡ None
    value_at-remove [] k q none = refl
    value_at-remove (e ∷ es) k q none =
        elim (is_eq (R k e.0)) as (λ b. value_at R (cond b es (e ∷ remove_entry (is_at (R k)) es)) q ≡ None) [
          | true ↦ passed_over _ e.1 _ none
          | false ↦ by (value_at-remove es k q) (is_eq (R q e.0)) none
        ]
      where
        by : (value_at R es q ≡ None → value_at R (remove_entry (is_at (R k)) es) q ≡ None) → (b : Bool) → cond b (Some e.1) (value_at R es q) ≡ None → cond b (Some e.1) (value_at R (remove_entry (is_at (R k)) es) q) ≡ None
        by rest true e' = absurd (false≢true (sym (ap is_some e')))
        by rest false e' = rest e'

    pub parts-remove : (es fs gs : List (K × X)) (k : K) → AreParts R es fs → gs ≡ remove_entry (is_at (R k)) fs → Rises R gs → AreParts R es gs
    parts-remove es fs gs k parts is rises = record { frozen_rises = parts.frozen_rises; added_rises = rises; apart = λ q some. ap (λ xs. value_at R xs q) is ∙ value_at-remove fs k q (parts.apart q some) }

    module _ (exact : (x y : K) → R x y ≡ Equal → x ≡ y) where
      -- to add an entry to the added ones is to add it to all
      pub merged-insert : (es fs : List (K × X)) (k : K) (v : X) → IsStrictlySortedBy R (keys_of es) → merged R es (insert_entry R fs k v) ≡ insert_entry R (merged R es fs) k v
      merged-insert es fs k v h = same_rows exact _ _ (rises-merged es (insert_entry R fs k v) h) (rises-insert (merged R es fs) k v (rises-merged es fs h)) (λ q.
          value_at-merged es (insert_entry R fs k v) q ∙ ap (λ p. option_or p (value_at R es q)) (value_at-insert fs k v q)
          ∙ sym (or_cond (eq_by_cmp R q k) v (value_at R fs q) (value_at R es q)) ∙ sym (ap (cond (eq_by_cmp R q k) (Some v)) (value_at-merged es fs q))
          ∙ sym (value_at-insert (merged R es fs) k v q))

      -- with nothing frozen
      pub parts-none : (fs : List (K × X)) → Rises R fs → AreParts R [] fs
      unfolding IsStrictlySortedBy
      parts-none fs h = record { frozen_rises = tt; added_rises = h; apart = λ k some. absurd (false≢true some) }

      -- with nothing added
      pub parts-all : (es : List (K × X)) → Rises R es → AreParts R es []
      unfolding IsStrictlySortedBy
      parts-all es h = record { frozen_rises = h; added_rises = tt; apart = λ k some. refl }

      -- entries in order, all of them added, are themselves
      pub merged-nil : (fs : List (K × X)) → IsStrictlySortedBy R (keys_of fs) → merged R [] fs ≡ fs
      unfolding IsStrictlySortedBy
      merged-nil fs h = same_rows exact _ _ (rises-merged [] fs tt) h (λ q. value_at-merged [] fs q ∙ or_none (value_at R fs q))
        where
          or_none : (p : Option X) → option_or p None ≡ p
          or_none None = refl
          or_none (Some x) = refl

      -- a map with the added entries inserted has all
      pub all_inserted : (m n : BTreeMap K X) (es fs xs : List (K × X)) → m.entries ≡ es → xs ≡ fs → AreParts R es fs → InsertsAll R m xs n → n.entries ≡ merged R es fs
      all_inserted m n es fs xs is js parts all = same_rows exact n.entries (merged R es fs) all.1 (rises-merged es fs parts.frozen_rises) (λ q.
          all.0 q
          ∙ update_all_distinct (eq_by_cmp_equiv o) (eq_by_cmp R) (λ x y. refl) (get R m) xs q (IsDistinct-from_sorted R (keys_of xs) (subst (Rises R) (sym js) parts.added_rises))
          ∙ ap (λ ys. option_or (value_at R ys q) (value_at R m.entries q)) js ∙ ap (λ ys. option_or (value_at R fs q) (value_at R ys q)) is
          ∙ sym (value_at-merged es fs q))
