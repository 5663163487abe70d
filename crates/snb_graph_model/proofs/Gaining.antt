-- New rows can be gained: each goes to its place in the order.
use Rattle.std.proofs.Common.{◌≡◌, ◌≢◌, ◌∙◌, suc, ◌⊎◌, List, [], ◌∷◌, ◌++◌, refl, sym, ap, subst, inl, inr, arith, append_assoc, append-nil}
use Rattle.std.specs.declared.cmp.Ordering.{Ordering}
use Rattle.std.specs.declared.cmp.Ordering.TheVariants.{Less, Equal, Greater}
use Rattle.std.specs.Cmp.{IsTotalOrder}
use Rattle.std.specs.List.{All, Contains}
use Rattle.std.specs.List.Sorted.{IsPermutation, IsStrictlySortedBy}
use Rattle.std.specs.Ordering.{nat_cmp, ordering_reverse, ordering_then}
use Rattle.std.proofs.lemmas.List.Elements.{All-cons, All-from_recursion, All-tail, recursion_from_All}
use Rattle.std.proofs.lemmas.List.Sorted.{All-permutation, Contains-permutation, IsPermutation-append_left, IsPermutation-append_right, IsPermutation-append_comm, IsPermutation-refl, IsPermutation-sym, IsPermutation-to_front, IsPermutation-trans}
use Rattle.std.proofs.lemmas.Map.Lookups.{exact_bytes, exact_unsigned}
use Rattle.std.specs.Cmp.Lexicographic.{slice_cmp}
use Rattle.snb_base.proofs.Laws.{contains_cases, contains_here, contains_there, then_equal}
use Rattle.snb_schema.specs.declared.row.Row.{Row}
use Rattle.snb_schema.specs.RowKeys.{RowKey, row_key, slot, slot_of}
use Rattle.snb_schema.specs.TableOrder.{table_order}
use Rattle.snb_schema.specs.TableRows.{IsTableRow}
use Rattle.snb_graph_model.specs.Graphs.{HasGained, HasSlot, IsGraph, key_order, part, row_order}
use Rattle.snb_graph_model.specs.Laws.{NewRowsAreGained}
use Rattle.snb_graph_model.proofs.Laws.{row_total}
use Rattle.snb_schema.proofs.Laws.{table_exact}

-- ---- rows that are tied fill one slot

key_exact : (j k : RowKey) → key_order j k ≡ Equal → j ≡ k
key_exact j k e =
    let a = then_equal (table_order j.0 k.0) (ordering_then (nat_cmp j.1 k.1) (ordering_then (nat_cmp j.2 k.2) (slice_cmp nat_cmp j.3 k.3))) e in
    let b = then_equal (nat_cmp j.1 k.1) (ordering_then (nat_cmp j.2 k.2) (slice_cmp nat_cmp j.3 k.3)) a.1 in
    let c = then_equal (nat_cmp j.2 k.2) (slice_cmp nat_cmp j.3 k.3) b.1 in
    λ i. (table_exact j.0 k.0 a.0 i, exact_unsigned j.1 k.1 b.0 i, exact_unsigned j.2 k.2 c.0 i, exact_bytes j.3 k.3 c.1 i)

tied : (r s : Row) → row_order r s ≡ Equal → slot_of r ≡ slot_of s
tied r s e = ap slot (key_exact (row_key r) (row_key s) (then_equal (nat_cmp (part r) (part s)) (key_order (row_key r) (row_key s)) e).1)

-- ---- one element more in an ordered list

module _ {X : Type 0} (R : X → X → Ordering) (total : IsTotalOrder R) where
  placed : (r : X) (xs : List X) → IsStrictlySortedBy R xs → ((z : X) → Contains xs z → R r z ≢ Equal) → (ys : List X) × IsStrictlySortedBy R ys × IsPermutation ys (r ∷ xs)
  unfolding IsStrictlySortedBy
  placed r [] rises apart = (r ∷ [], (tt, tt), IsPermutation-refl (r ∷ []))
  placed r (x ∷ xs) rises apart = by (R r x) refl (placed r xs rises.1 (λ z c. apart z (contains_there x xs z c)))
    where
      by : (o : Ordering) → R r x ≡ o → (ys : List X) × IsStrictlySortedBy R ys × IsPermutation ys (r ∷ xs) → (ys : List X) × IsStrictlySortedBy R ys × IsPermutation ys (r ∷ x ∷ xs)
      by Less e rest =
          let above : All (λ z. R r z ≡ Less) xs = λ k d lt. total.trans r x _ e (All-from_recursion (λ z. R x z ≡ Less) xs rises.0 k d lt) in
          (r ∷ x ∷ xs, ((e, recursion_from_All (λ z. R r z ≡ Less) xs above), rises), IsPermutation-refl (r ∷ x ∷ xs))
      by Equal e rest = absurd (apart x (contains_here x xs) e)
      by Greater e rest =
          let below : R x r ≡ Less = total.antisymm x r ∙ ap ordering_reverse e in
          let above : All (λ z. R x z ≡ Less) (r ∷ xs) = All-cons (λ z. R x z ≡ Less) r xs below (All-from_recursion (λ z. R x z ≡ Less) xs rises.0) in (
            x ∷ rest.0,
            (recursion_from_All (λ z. R x z ≡ Less) rest.0 (All-permutation (λ z. R x z ≡ Less) (r ∷ xs) rest.0 (IsPermutation-sym rest.0 (r ∷ xs) rest.2) above), rest.1),
            IsPermutation-trans (x ∷ rest.0) (x ∷ r ∷ xs) (r ∷ x ∷ xs) (IsPermutation-append_right (x ∷ []) rest.0 (r ∷ xs) rest.2) (IsPermutation-append_left xs (x ∷ r ∷ []) (r ∷ x ∷ []) (IsPermutation-append_comm (x ∷ []) (r ∷ []))),
          )

-- ---- rows more in a graph

-- a row of the graph that has gained one is the graph's, or is that one
old_or_new : (old new : List Row) (r x : Row) → IsPermutation new (old ++ r ∷ []) → Contains new x → (r ≡ x) ⊎ Contains old x
old_or_new old new r x p c = contains_cases r old x (Contains-permutation new (r ∷ old) x (IsPermutation-trans new (old ++ r ∷ []) (r ∷ old) p (IsPermutation-to_front old r)) c)

one_gained : (g : List Row) (r : Row) → IsGraph g → IsTableRow r → ¬ HasSlot g (slot_of r) → (new : List Row) × HasGained g (r ∷ []) new
one_gained g r graph fit free =
    (new.0, record { graph = record { rises = new.1; apart = apart; of_tables = All-permutation IsTableRow (r ∷ g) new.0 (IsPermutation-sym new.0 (r ∷ g) new.2) (All-cons IsTableRow r g fit graph.of_tables) }; rows = rows })
  where
    new : (ys : List Row) × IsStrictlySortedBy row_order ys × IsPermutation ys (r ∷ g)
    new = placed row_order row_total r g graph.rises (λ z c e. free (record { it = z; held = c; fills = sym (tied r z e) }))

    rows : IsPermutation new.0 (g ++ r ∷ [])
    rows = IsPermutation-trans new.0 (r ∷ g) (g ++ r ∷ []) new.2 (IsPermutation-sym (g ++ r ∷ []) (r ∷ g) (IsPermutation-to_front g r))

    apart : (x y : Row) → Contains new.0 x → Contains new.0 y → slot_of x ≡ slot_of y → x ≡ y
    apart x y cx cy same = by (old_or_new g new.0 r x rows cx) (old_or_new g new.0 r y rows cy)
      where
        by : (r ≡ x) ⊎ Contains g x → (r ≡ y) ⊎ Contains g y → x ≡ y
        by (inl ex) (inl ey) = sym ex ∙ ey
        by (inl ex) (inr oy) = absurd (free (record { it = y; held = oy; fills = sym same ∙ ap slot_of (sym ex) }))
        by (inr ox) (inl ey) = absurd (free (record { it = x; held = ox; fills = same ∙ ap slot_of (sym ey) }))
        by (inr ox) (inr oy) = graph.apart x y ox oy same

pub new_rows_are_gained : NewRowsAreGained
new_rows_are_gained old [] graph fit free apart = (old, record { graph = graph; rows = subst (IsPermutation old) (sym (append-nil old)) (IsPermutation-refl old) })
new_rows_are_gained old (r ∷ more) graph fit free apart =
    let rest = new_rows_are_gained one.0 more one.1.graph (All-tail IsTableRow r more fit) still_free (λ i j d below lt. apart (suc i) (suc j) d (omega (arith, below)) (omega (arith, lt))) in (
      rest.0,
      record {
        graph = rest.1.graph;
        rows = subst (IsPermutation rest.0) (append_assoc old (r ∷ []) more) (IsPermutation-trans rest.0 (one.0 ++ more) ((old ++ r ∷ []) ++ more) rest.1.rows (IsPermutation-append_left more one.0 (old ++ r ∷ []) one.1.rows));
      },
    )
  where
    one : (new : List Row) × HasGained old (r ∷ []) new
    one = one_gained old r graph (fit 0 r (omega arith)) (free 0 r (omega arith))

    still_free : All (λ s. ¬ HasSlot one.0 (slot_of s)) more
    still_free k d lt has = elim (old_or_new old one.0 r has.it one.1.rows has.held) [
      | inl is ↦ apart 0 (suc k) d (omega arith) (omega (arith, lt)) (ap slot_of is ∙ has.fills)
      | inr held ↦ free (suc k) d (omega (arith, lt)) (record { it = has.it; held = held; fills = has.fills })
    ]
