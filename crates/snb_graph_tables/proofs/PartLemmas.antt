-- Rows in parts, as one list.
use Rattle.std.proofs.Common.{◌≡◌, ℕ, ◌<◌, ◌+◌, zero, suc, length, ◌⊎◌, List, [], ◌∷◌, ◌++◌, refl, sym, ap, ◌∙◌, subst, inl, inr, arith, append_assoc, append-nil, length-append}
use Rattle.std.specs.declared.cmp.Ordering.TheVariants.{Less}
use Rattle.std.specs.Ordering.{nat_cmp, ordering_then}
use Rattle.std.specs.List.{All, Contains, AllByRecursion}
use Rattle.std.specs.List.Sorted.{IsPermutation, IsStrictlySortedBy}
use Rattle.std.proofs.lemmas.List.Elements.{All-cons, All-tail, All-contains, All-contains_itself, All-weaker, Contains-append_cases, Contains-append_left, Contains-append_right}
use Rattle.std.proofs.lemmas.List.Sorted.{IsPermutation-trans, IsPermutation-sym, IsPermutation-append_left, IsPermutation-append_right, IsPermutation-append_comm, IsPermutation-to_front, All-permutation, Contains-permutation}
use Rattle.snb_schema.specs.declared.row.Row.{Row}
use Rattle.std.proofs.Common.{Result, Ok, Err, OnOk, OnErr}
use Rattle.std.specs.Result.{result_and}
use Rattle.snb_schema.specs.declared.layout.Shape.TheVariants as shapes
use Rattle.snb_schema.specs.declared.row.Row.TheVariants as row
use Rattle.snb_schema.specs.declared.table.Table.{Table}
use Rattle.snb_schema.specs.Layouts.{key_columns, shape}
use Rattle.snb_graph_rows.specs.Edges.{edge_of, edge_row}
use Rattle.snb_graph_model.specs.Graphs.{IsGraph, HasGained}
use Rattle.snb_schema.specs.RowKeys.{RowKey, row_key, slot, slot_of}
use Rattle.snb_graph_model.specs.Graphs.{part, part_of, row_order, key_order, HasKey, HasSlot}
use Rattle.snb_graph_rows.specs.Keyed.{IsPart, key_table}
use Rattle.snb_schema.specs.TableRows.{IsTableRow}
use Rattle.snb_graph_rows.specs.Rows.{HasLost, Stock}
use Rattle.snb_graph_maps.specs.declared.layer.Layer.{Layer}
use Rattle.snb_graph_maps.specs.declared.layer.Layer.TheVariants as layers
use Rattle.snb_graph_tables.specs.Parts.{joined, AreParts, IsWhole, HasGivenBack, HasPut}
use Rattle.snb_graph_tables.proofs.Laws.{contains_gained, frozen_is, rows_is}
use Rattle.snb_base.proofs.Laws.{compares_less}
use Rattle.std.proofs.lemmas.Result.{on_err_weaker}

-- the rows of parts, and what copies share of them
abbrev pub stock_of : List (List Row) → List (List Row) → Stock
stock_of ss fs = record { rows = joined ss; frozen = joined fs }

-- the part at a place
abbrev pub at : List (List Row) → ℕ → List Row
at [] i = []
at (s ∷ ss) zero = s
at (s ∷ ss) (suc i) = at ss i

-- another part at a place
abbrev pub with_part : List (List Row) → ℕ → List Row → List (List Row)
with_part [] i new = []
with_part (s ∷ ss) zero new = new ∷ ss
with_part (s ∷ ss) (suc i) new = s ∷ with_part ss i new

-- a part with more rows
pub joined_more : (ss : List (List Row)) (i : ℕ) (new : List Row) → ((r : Row) → Contains (at ss i) r → Contains new r) → (r : Row) → Contains (joined ss) r → Contains (joined (with_part ss i new)) r
joined_more [] i new more r c = c
joined_more (s ∷ ss) zero new more r c =
    elim (Contains-append_cases s (joined ss) r c) [
      | inl h ↦ Contains-append_left new (joined ss) r (more r h)
      | inr h ↦ Contains-append_right new (joined ss) r h
    ]
joined_more (s ∷ ss) (suc i) new more r c =
    elim (Contains-append_cases s (joined ss) r c) [
      | inl h ↦ Contains-append_left s (joined (with_part ss i new)) r h
      | inr h ↦ Contains-append_right s (joined (with_part ss i new)) r (joined_more ss i new more r h)
    ]

-- a part's rows are among the whole's
pub part_among : (ss : List (List Row)) (i : ℕ) (r : Row) → Contains (at ss i) r → Contains (joined ss) r
part_among [] i r c = absurd (omega (arith, c.1))
part_among (s ∷ ss) zero r c = Contains-append_left s (joined ss) r c
part_among (s ∷ ss) (suc i) r c = Contains-append_right s (joined ss) r (part_among ss i r c)

-- a key that the whole lacks is in no part
pub not_in_part : (ss : List (List Row)) (i : ℕ) (k : RowKey) → ¬ HasKey (joined ss) k → ¬ HasKey (at ss i) k
not_in_part ss i k none has = none (record { it = has.it; held = part_among ss i has.it has.held; keyed = has.keyed })

-- the rows of each list are among those of the list at its place
abbrev pub AreAmong : List (List Row) → List (List Row) → Type 0
AreAmong [] ts = Unit {0}
AreAmong (s ∷ ss) [] = ⊥
AreAmong (s ∷ ss) (t ∷ ts) = ((r : Row) → Contains s r → Contains t r) × AreAmong ss ts

pub joined_among : (ss ts : List (List Row)) → AreAmong ss ts → (r : Row) → Contains (joined ss) r → Contains (joined ts) r
joined_among [] ts among r c = absurd (omega (arith, c.1))
joined_among (s ∷ ss) [] among r c = absurd among
joined_among (s ∷ ss) (t ∷ ts) among r c = elim (Contains-append_cases s (joined ss) r c) [
  | inl h ↦ Contains-append_left t (joined ts) r (among.0 r h)
  | inr h ↦ Contains-append_right t (joined ts) r (joined_among ss ts among.1 r h)
]

-- rows added at the end may come after what follows
moved_back : (s more rest : List Row) → IsPermutation ((s ++ more) ++ rest) ((s ++ rest) ++ more)
moved_back s more rest =
    subst (λ l. IsPermutation l ((s ++ rest) ++ more)) (sym (append_assoc s more rest))
    (subst (λ l. IsPermutation (s ++ (more ++ rest)) l) (sym (append_assoc s rest more)) (IsPermutation-append_right s (more ++ rest) (rest ++ more) (IsPermutation-append_comm more rest)))

-- rows more in one part are rows more in the whole
pub joined_gained : (ss : List (List Row)) (i : ℕ) (new more : List Row) → i < length ss → IsPermutation new (at ss i ++ more) → IsPermutation (joined (with_part ss i new)) (joined ss ++ more)
joined_gained [] i new more l p = absurd (omega (arith, l))
joined_gained (s ∷ ss) zero new more l p = IsPermutation-trans _ _ _ (IsPermutation-append_left (joined ss) new (s ++ more) p) (moved_back s more (joined ss))
joined_gained (s ∷ ss) (suc i) new more l p =
    subst (λ r. IsPermutation (s ++ joined (with_part ss i new)) r) (sym (append_assoc s (joined ss) more))
    (IsPermutation-append_right s _ _ (joined_gained ss i new more (omega (arith, l)) p))

pub parts_with : (n : ℕ) (ss : List (List Row)) (i : ℕ) (new : List Row) → AreParts n ss → IsPart (n + i) new → AreParts n (with_part ss i new)
parts_with n [] i new are is = tt
parts_with n (s ∷ ss) zero new are is = (subst (λ m. IsPart m new) (omega arith) is, are.1)
parts_with n (s ∷ ss) (suc i) new are is = (are.0, parts_with (suc n) ss i new are.1 (subst (λ m. IsPart m new) (omega arith) is))

-- ---- the order of the whole

all_to : {X : Type 0} (P : X → Type 0) (xs : List X) → All P xs → AllByRecursion P xs
all_to P [] all = tt
all_to P (x ∷ xs) all = (all 0 x (omega arith), all_to P xs (All-tail P x xs all))

both_all : (P : Row → Type 0) (xs ys : List Row) → AllByRecursion P xs → AllByRecursion P ys → AllByRecursion P (xs ++ ys)
both_all P [] ys a b = b
both_all P (x ∷ xs) ys a b = (a.0, both_all P xs ys a.1 b)

-- a row of a part comes before those of the later parts
before : (n m : ℕ) (r : Row) → part r ≡ n → n < m → (s : List Row) → All (λ x. part x ≡ m) s → AllByRecursion (λ x. row_order r x ≡ Less) s
before n m r is l [] all = tt
before n m r is l (x ∷ xs) all =
    (ap (λ o. ordering_then o (key_order (row_key r) (row_key x))) (ap (λ k. nat_cmp k (part x)) is ∙ ap (nat_cmp n) (all 0 x (omega arith)) ∙ compares_less n m l), before n m r is l xs (All-tail (λ y. part y ≡ m) x xs all))

before_all : (n m : ℕ) (r : Row) → part r ≡ n → n < m → (ss : List (List Row)) → AreParts m ss → AllByRecursion (λ x. row_order r x ≡ Less) (joined ss)
before_all n m r is l [] are = tt
before_all n m r is l (s ∷ ss) are = both_all (λ x. row_order r x ≡ Less) s (joined ss) (before n m r is l s are.0.own) (before_all n (suc m) r is (omega (arith, l)) ss are.1)

rise_both : (n : ℕ) (s : List Row) (ss : List (List Row)) → IsPart n s → AreParts (suc n) ss → IsStrictlySortedBy row_order (joined ss) → IsStrictlySortedBy row_order (s ++ joined ss)
unfolding IsStrictlySortedBy
rise_both n [] ss is are h = h
rise_both n (x ∷ xs) ss is are h = (
  both_all (λ y. row_order x y ≡ Less) xs (joined ss) is.rises.0 (before_all n (suc n) x (is.own 0 x (omega arith)) (omega arith) ss are),
  rise_both n xs ss (record { own = All-tail (λ y. part y ≡ n) x xs is.own; rises = is.rises.1 }) are h,
)

pub parts_rise : (n : ℕ) (ss : List (List Row)) → AreParts n ss → IsStrictlySortedBy row_order (joined ss)
unfolding IsStrictlySortedBy
parts_rise n [] are = tt
parts_rise n (s ∷ ss) are = rise_both n s ss are.0 are.1 (parts_rise (suc n) ss are.1)

-- ---- a row of the whole stands in its part

above : (n : ℕ) (ss : List (List Row)) (r : Row) → AreParts n ss → Contains (joined ss) r → (i : ℕ) × (part r ≡ n + i) × Contains (at ss i) r
above n [] r are c = absurd (omega (arith, c.1))
above n (s ∷ ss) r are c =
    elim (Contains-append_cases s (joined ss) r c) [
      | inl h ↦ (0, All-contains (λ x. part x ≡ n) s r are.0.own h ∙ omega arith, h)
      | inr h ↦ let rest = above (suc n) ss r are.1 h in (suc rest.0, rest.1 ∙ omega arith, rest.2)
    ]

pub in_part : (ss : List (List Row)) (r : Row) (i : ℕ) → AreParts 0 ss → Contains (joined ss) r → part r ≡ i → Contains (at ss i) r
in_part ss r i are c is = let found = above 0 ss r are c in subst (λ j. Contains (at ss j) r) (let same : found.0 ≡ i = (let e = found.1 in omega (arith, e, is)) in same) found.2

-- the rows of a part are ones that their tables can have
pub part_fit : (ss : List (List Row)) (i : ℕ) → IsWhole ss → All IsTableRow (at ss i)
part_fit ss i whole = All-weaker (Contains (at ss i)) IsTableRow (λ r c. All-contains IsTableRow (joined ss) r whole.graph.of_tables (part_among ss i r c)) (at ss i) (All-contains_itself (at ss i))

-- ---- one row more

pub graph_gained : (old new : List Row) (r : Row) → IsGraph old → IsPermutation new (old ++ r ∷ []) → IsStrictlySortedBy row_order new → ¬ HasSlot old (slot_of r) → IsTableRow r → IsGraph new
graph_gained old new r graph p rises free shaped = record {
  rises = rises;
  apart = λ x y cx cy same. by x y same (contains_gained old new r x p cx) (contains_gained old new r y p cy);
  of_tables = All-permutation IsTableRow (r ∷ old) new (IsPermutation-sym _ _ (IsPermutation-trans _ _ _ p (IsPermutation-to_front old r))) (All-cons IsTableRow r old shaped graph.of_tables);
}
  where
    by : (x y : Row) → slot_of x ≡ slot_of y → Contains old x ⊎ (r ≡ x) → Contains old y ⊎ (r ≡ y) → x ≡ y
    by x y same (inl cx) (inl cy) = graph.apart x y cx cy same
    by x y same (inl cx) (inr ey) = absurd (free (record { it = x; held = cx; fills = same ∙ ap slot_of (sym ey) }))
    by x y same (inr ex) (inl cy) = absurd (free (record { it = y; held = cy; fills = sym same ∙ ap slot_of (sym ex) }))
    by x y same (inr ex) (inr ey) = sym ex ∙ ey

-- one row more in one part
pub whole_gained : (ss : List (List Row)) (i : ℕ) (new : List Row) (r : Row) → i < length ss → IsWhole ss → IsPart i new → IsPermutation new (at ss i ++ r ∷ []) → ¬ HasSlot (joined ss) (slot_of r) → IsTableRow r →
    IsWhole (with_part ss i new) × HasGained (joined ss) (r ∷ []) (joined (with_part ss i new))
whole_gained ss i new r l whole is p free shaped =
    let parts : AreParts 0 (with_part ss i new) = parts_with 0 ss i new whole.parts (subst (λ m. IsPart m new) (omega arith) is) in
    let rows = joined_gained ss i new (r ∷ []) l p in
    let graph = graph_gained (joined ss) _ r whole.graph rows (parts_rise 0 _ parts) free shaped in
    (record { parts = parts; graph = graph }, record { graph = graph; rows = rows })

-- a key that the whole lacks is in no part
pub no_key : (ss : List (List Row)) (i : ℕ) (r : Row) → ¬ HasSlot (joined ss) (slot_of r) → ¬ HasKey (at ss i) (row_key r)
no_key ss i r free has = free (record { it = has.it; held = part_among ss i has.it has.held; fills = ap slot has.keyed })

same_part : (ss : List (List Row)) (i : ℕ) (new : List Row) → i < length ss → new ≡ at ss i → with_part ss i new ≡ ss
same_part [] i new l e = refl
same_part (s ∷ ss) zero new l e = ap (λ t. t ∷ ss) e
same_part (s ∷ ss) (suc i) new l e = ap (λ t. s ∷ t) (same_part ss i new (omega (arith, l)) e)

-- what a shelf answers to a new row is what the graph answers
pub put_part : {E : Type 0} (ss : List (List Row)) (i : ℕ) (new now : List Row) (given r : Row) (result : Result (Unit {0}) E) → i < length ss → joined ss ≡ now → given ≡ r → IsWhole ss → IsPart i new → OnOk result (IsPermutation new (at ss i ++ r ∷ [])) →
    OnErr result (new ≡ at ss i) → ¬ HasSlot now (slot_of given) → IsTableRow given → IsWhole (with_part ss i new) × OnOk result (HasGained now (given ∷ []) (joined (with_part ss i new)))
put_part ss i new now given r (Ok x) l view is whole part ok err free shaped =
    let all = whole_gained ss i new r l whole part ok (subst (λ g. ¬ HasSlot g (slot_of r)) (sym view) (subst (λ q. ¬ HasSlot now (slot_of q)) is free)) (subst IsTableRow is shaped) in
    (all.0, subst (λ g. HasGained g (given ∷ []) (joined (with_part ss i new))) view (subst (λ q. HasGained (joined ss) (q ∷ []) (joined (with_part ss i new))) (sym is) all.1))
put_part ss i new now given r (Err e) l view is whole part ok err free shaped = (subst IsWhole (sym (same_part ss i new l err)) whole, tt)

-- and so is what it answers of the frozen rows
pub put_into : {E : Type 0} (half : Layer) (ss fs : List (List Row)) (i : ℕ) (x now : Stock) (given r : Row) (result : Result (Unit {0}) E) → i < length ss → i < length fs → stock_of ss fs ≡ now → given ≡ r → IsWhole ss → IsPart i x.rows →
    OnOk result (IsPermutation x.rows (at ss i ++ r ∷ [])) → OnErr result (x ≡ record { rows = at ss i; frozen = at fs i }) → (half ≡ layers.Added → x.frozen ≡ at fs i) → ((y : Row) → Contains (at fs i) y → Contains x.frozen y) →
    ¬ HasSlot now.rows (slot_of given) → IsTableRow given → IsWhole (with_part ss i x.rows) × HasPut half now given result (stock_of (with_part ss i x.rows) (with_part fs i x.frozen))
put_into half ss fs i x now given r result l m view is whole part ok err frozen more free shaped =
    let put = put_part ss i x.rows now.rows given r result l (rows_is view) is whole part ok (on_err_weaker result rows_is err) free shaped in (
      put.0,
      record {
        ok = put.1;
        err = on_err_weaker result (λ e. (λ j. stock_of (same_part ss i x.rows l (rows_is e) j) (same_part fs i x.frozen m (frozen_is e) j)) ∙ view) err;
        frozen = λ added. ap joined (same_part fs i x.frozen m (frozen added)) ∙ frozen_is view;
        more = λ y c. joined_more fs i x.frozen more y (subst (λ g. Contains g y) (sym (frozen_is view)) c);
      },
    )

pub new_key : (ss : List (List Row)) (i : ℕ) (now : List Row) (given r : Row) → joined ss ≡ now → given ≡ r → ¬ HasSlot now (slot_of given) → ¬ HasKey (at ss i) (row_key r)
new_key ss i now given r view is free = no_key ss i r (subst (λ g. ¬ HasSlot g (slot_of r)) (sym view) (subst (λ q. ¬ HasSlot now (slot_of q)) is free))

-- no rows are the parts of the graph without rows
none_part : (n : ℕ) → IsPart n []
unfolding IsStrictlySortedBy
none_part n = record { own = λ k d l. absurd (omega (arith, l)); rises = tt }

none_parts : (n : ℕ) (ss : List (List Row)) → AllByRecursion (λ s. s ≡ []) ss → AreParts n ss
none_parts n [] h = tt
none_parts n (s ∷ ss) h = (subst (IsPart n) (sym h.0) (none_part n), none_parts (suc n) ss h.1)

pub none_joined : (ss : List (List Row)) → AllByRecursion (λ s. s ≡ []) ss → joined ss ≡ []
none_joined [] h = refl
none_joined (s ∷ ss) h = ap (λ t. t ++ joined ss) h.0 ∙ none_joined ss h.1

none_graph : IsGraph []
unfolding IsStrictlySortedBy
none_graph = record { rises = tt; apart = λ r s c d e. absurd (omega (arith, c.1)); of_tables = λ k d l. absurd (omega (arith, l)) }

pub none_whole : (ss : List (List Row)) → AllByRecursion (λ s. s ≡ []) ss → IsWhole ss
none_whole ss h = record { parts = none_parts 0 ss h; graph = subst IsGraph (sym (none_joined ss h)) none_graph }

-- an edge is made by the shape of its table
pub dated_row : (t : Table) (a b date : ℕ) → shapes.Dated ≡ shape t → edge_row (t, a, b, []) date ≡ row.Dated t a b date
dated_row t a b date is = ap (λ s. edge_of s (key_columns t) t a b date) (sym is)

pub yeared_row : (t : Table) (a b year : ℕ) → shapes.Yeared ≡ shape t → edge_row (t, a, b, []) year ≡ row.Yeared t a b year
yeared_row t a b year is = ap (λ s. edge_of s (key_columns t) t a b year) (sym is)

-- how many rows ten parts have
pub joined_count : (a b c d e f g h i j : List Row) → length (joined (a ∷ b ∷ c ∷ d ∷ e ∷ f ∷ g ∷ h ∷ i ∷ j ∷ [])) ≡ length a + length b + length c + length d + length e + length f + length g + length h + length i + length j
joined_count a b c d e f g h i j = simp (length-append, append-nil) (omega arith)

-- ---- one row fewer

with_length : (ss : List (List Row)) (i : ℕ) (new : List Row) → length (with_part ss i new) ≡ length ss
with_length [] i new = refl
with_length (s ∷ ss) zero new = refl
with_length (s ∷ ss) (suc i) new = ap suc (with_length ss i new)

at_with : (ss : List (List Row)) (i : ℕ) (new : List Row) → i < length ss → at (with_part ss i new) i ≡ new
at_with [] i new l = absurd (omega (arith, l))
at_with (s ∷ ss) zero new l = refl
at_with (s ∷ ss) (suc i) new l = at_with ss i new (omega (arith, l))

with_back : (ss : List (List Row)) (i : ℕ) (new : List Row) → with_part (with_part ss i new) i (at ss i) ≡ ss
with_back [] i new = refl
with_back (s ∷ ss) zero new = refl
with_back (s ∷ ss) (suc i) new = ap (λ l. s ∷ l) (with_back ss i new)

-- rows fewer in one part are rows fewer in the whole
joined_lost : (ss : List (List Row)) (i : ℕ) (new more : List Row) → i < length ss → IsPermutation (at ss i) (new ++ more) → IsPermutation (joined ss) (joined (with_part ss i new) ++ more)
joined_lost ss i new more l p =
    subst (λ ts. IsPermutation (joined ts) (joined (with_part ss i new) ++ more)) (with_back ss i new)
    (joined_gained (with_part ss i new) i (at ss i) more (subst (λ n. i < n) (sym (with_length ss i new)) l) (subst (λ s. IsPermutation (at ss i) (s ++ more)) (sym (at_with ss i new l)) p))

-- fewer rows of a graph, in order, are a graph
graph_lost : (old new : List Row) (r : Row) → IsGraph old → IsPermutation old (new ++ r ∷ []) → IsStrictlySortedBy row_order new → IsGraph new
graph_lost old new r graph rows rises =
    let still : (x : Row) → Contains new x → Contains old x = λ x c. Contains-permutation (new ++ r ∷ []) old x (IsPermutation-sym old (new ++ r ∷ []) rows) (Contains-append_left new (r ∷ []) x c) in
    record {
      rises = rises;
      apart = λ x y cx cy same. graph.apart x y (still x cx) (still y cy) same;
      of_tables = All-weaker (Contains new) IsTableRow (λ x c. All-contains IsTableRow old x graph.of_tables (still x c)) new (All-contains_itself new);
    }

-- what a shelf answers to taking out a row that is held is what the graph answers
pub part_lost : (ss : List (List Row)) (i : ℕ) (new now : List Row) (k : RowKey) → i < length ss → joined ss ≡ now → IsWhole ss → IsPart i new → HasLost (at ss i) k new → part_of (shape k.0) ≡ i → HasKey now k →
    IsWhole (with_part ss i new) × ((r : Row) → Contains now r → row_key r ≡ k → HasGivenBack now r (joined (with_part ss i new)))
part_lost ss i new now k l view whole one lost is has =
    let parts : AreParts 0 (with_part ss i new) = parts_with 0 ss i new whole.parts (subst (λ m. IsPart m new) (omega arith) one) in
    let stands : (r : Row) → row_key r ≡ k → part r ≡ i = λ r e. ap (λ t. part_of (shape t)) (sym (key_table r) ∙ ap (λ (x : RowKey). x.0) e) ∙ is in
    let here : (r : Row) → Contains now r → row_key r ≡ k → Contains (at ss i) r = λ r c e. in_part ss r i whole.parts (subst (λ g. Contains g r) (sym view) c) (stands r e) in
    let rows : (r : Row) → Contains now r → row_key r ≡ k → IsPermutation (joined ss) (joined (with_part ss i new) ++ r ∷ []) = λ r c e. joined_lost ss i new (r ∷ []) l (lost r (here r c e) e) in
    let graph : IsGraph (joined (with_part ss i new)) = graph_lost (joined ss) _ has.it whole.graph (rows has.it has.held has.keyed) (parts_rise 0 _ parts) in
    (record { parts = parts; graph = graph }, λ r c e. record { graph = graph; rows = subst (λ g. IsPermutation g (joined (with_part ss i new) ++ r ∷ [])) view (rows r c e) })

-- what is frozen after the first of the parts
pub frozen_first : {T E : Type 0} (a : Result T E) (f r : List Row) → OnOk a (f ≡ r) → OnOk a (f ∷ [] ≡ r ∷ [])
frozen_first (Ok _) f r p = rw p refl
frozen_first (Err _) f r p = tt

-- and after one more
pub frozen_more : {T E : Type 0} (a b : Result T E) (fs rs : List (List Row)) (f r : List Row) → OnOk a (fs ≡ rs) → OnOk b (f ≡ r) → OnOk (result_and a b) (fs ++ f ∷ [] ≡ rs ++ r ∷ [])
frozen_more (Ok _) (Ok _) fs rs f r p q = rw (p, q) refl
frozen_more (Ok _) (Err _) fs rs f r p q = tt
frozen_more (Err _) b fs rs f r p q = tt

-- and of all parts
pub frozen_all : {T E : Type 0} (a : Result T E) (fs rs : List (List Row)) (now : List Row) → joined rs ≡ now → OnOk a (fs ≡ rs) → OnOk a (joined fs ≡ now)
frozen_all (Ok _) fs rs now is p = rw p is
frozen_all (Err _) fs rs now is p = tt
