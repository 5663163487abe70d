-- The rows of a table among the parts of a graph.
use Rattle.std.proofs.Common.{◌≡◌, ◌≢◌, ◌<◌, ◌≤◌, ◌+◌, ◌++◌, ◌∷◌, [], ◌∙◌, ◌&&◌, ℕ, zero, suc, Bool, true, false, cond, map, not, List, filter, refl, sym, ap, subst, inl, inr, arith, append-nil, All, ◌⊎◌, nat_eq, get_or}
use Rattle.std.proofs.lemmas.Bool.{cases_Bool}
use Rattle.std.proofs.lemmas.Bool.Decides.{nat_tests}
use Rattle.std.proofs.lemmas.List.Elements.{All-contains_itself, All-head, All-tail, All-filter, All-weaker, filter-append}
use Rattle.std.specs.Cmp.Lexicographic.{slice_cmp}
use Rattle.std.specs.List.{Contains}
use Rattle.std.specs.Ordering.{is_eq, is_le, is_lt, nat_cmp, ordering_then}
use Rattle.std.specs.declared.cmp.Ordering.{Ordering}
use Rattle.std.specs.declared.cmp.Ordering.TheVariants.{Less, Equal, Greater}
use mathlib.Core.Bool.{false≢true}
use Rattle.snb_schema.specs.contracts.table.TableOrd.TheImpl.Laws.{matches_eq-law}
use Rattle.snb_schema.specs.declared.layout.KeyColumns.{KeyColumns}
use Rattle.snb_schema.specs.declared.layout.KeyColumns.TheVariants.{First, Second, FirstTwo}
use Rattle.snb_schema.specs.declared.layout.Shape.TheVariants as shapes
use Rattle.snb_schema.specs.declared.row.Row.{Row}
use Rattle.snb_schema.specs.declared.row.Row.TheVariants as row
use Rattle.snb_schema.specs.declared.table.Table.{Table}
use Rattle.snb_schema.specs.declared.table.Table.TheVariants as table
use Rattle.snb_schema.specs.Layouts.{key_columns, shape}
use Rattle.snb_schema.specs.TableColumns.{shape_columns}
use Rattle.snb_schema.specs.RowKeys.{edge_key, row_key}
use Rattle.snb_schema.specs.RowValues.{table_of, values}
use Rattle.snb_schema.specs.TableOrder.{same_table, table_order}
use Rattle.snb_schema.specs.TableRows.{AreWithin, IsTableRow}
use Rattle.snb_graph_rows.specs.Keyed.{key_table}
use Rattle.snb_graph_rows.specs.KeysApart.{table_itself, word_name}
use Rattle.snb_graph_rows.specs.declared.keys.WordKey.{WordKey}
use Rattle.snb_graph_rows.specs.Edges.{word_row}
use Rattle.snb_graph_rows.specs.Rows.{entry_row, is_before_end, is_up_to_end, rows_by, rows_within}
use Rattle.snb_graph_model.specs.Graphs.{key_order, part, part_of, rows}
use Rattle.snb_graph_tables.specs.Words.{is_from, texts_of}
use Rattle.snb_graph_tables.specs.Parts.{AreParts, IsWhole, joined}
use Rattle.snb_graph_tables.proofs.PartLemmas.{at, part_among}
use Rattle.snb_graph_rows.proofs.Laws.{high_end, low_end}
use Rattle.snb_graph_model.proofs.Laws.{same_is}

-- whether a row is of a table
abbrev is_of : Table → Row → Bool
is_of t r = same_table (table_of r) t

pub same_itself : (t : Table) → same_table t t ≡ true
same_itself t = matches_eq-law t t ∙ ap is_eq (table_itself t)

fails : (t : Table) (n : ℕ) (r : Row) → part r ≡ n → part_of (shape t) ≢ n → is_of t r ≡ false
fails t n r is other = elim (cases_Bool (is_of t r)) [
  | inl same ↦ absurd (other (ap (λ (u : Table). part_of (shape u)) (sym (same_is (table_of r) t same)) ∙ is))
  | inr differs ↦ differs
]

-- a part of other tables has no row of the table
none_of : (t : Table) (n : ℕ) (s : List Row) → All (λ r. part r ≡ n) s → part_of (shape t) ≢ n → filter (is_of t) s ≡ []
none_of t n [] all other = refl
none_of t n (r ∷ rs) all other =
    ap (λ b. cond b (r ∷ filter (is_of t) rs) (filter (is_of t) rs)) (fails t n r (All-head (λ (x : Row). part x ≡ n) r rs all) other)
    ∙ none_of t n rs (All-tail (λ (x : Row). part x ≡ n) r rs all) other

none_after : (t : Table) (m : ℕ) (ss : List (List Row)) → AreParts m ss → part_of (shape t) < m → filter (is_of t) (joined ss) ≡ []
none_after t m [] are below = refl
none_after t m (s ∷ ss) are below =
    filter-append (is_of t) s (joined ss)
    ∙ ap (λ x. x ++ filter (is_of t) (joined ss)) (none_of t m s are.0.own (λ e. omega (arith, e, below)))
    ∙ none_after t (suc m) ss are.1 (omega (arith, below))

in_one : (t : Table) (n : ℕ) (ss : List (List Row)) (i : ℕ) → AreParts n ss → part_of (shape t) ≡ n + i → filter (is_of t) (joined ss) ≡ filter (is_of t) (at ss i)
in_one t n [] i are is = refl
in_one t n (s ∷ ss) zero are is =
    filter-append (is_of t) s (joined ss)
    ∙ ap (λ x. filter (is_of t) s ++ x) (none_after t (suc n) ss are.1 (omega (arith, is)))
    ∙ append-nil (filter (is_of t) s)
in_one t n (s ∷ ss) (suc i) are is =
    filter-append (is_of t) s (joined ss)
    ∙ ap (λ x. x ++ filter (is_of t) (joined ss)) (none_of t n s are.0.own (λ e. omega (arith, e, is)))
    ∙ in_one t (suc n) ss i are.1 (omega (arith, is))

-- the rows of a table are those of its part
rows_in_part : (t : Table) (ss : List (List Row)) (now : List Row) (i : ℕ) → joined ss ≡ now → IsWhole ss → part_of (shape t) ≡ i → rows now t ≡ filter (is_of t) (at ss i)
rows_in_part t ss now i view whole is = ap (filter (is_of t)) (sym view) ∙ in_one t 0 ss i whole.parts (is ∙ omega arith)

-- the table of the nodes of a part
node_at : ℕ → Table
node_at zero = table.Place
node_at (suc zero) = table.TagClass
node_at (suc (suc zero)) = table.Tag
node_at (suc (suc (suc zero))) = table.Organisation
node_at (suc (suc (suc (suc zero)))) = table.Person
node_at (suc (suc (suc (suc (suc zero))))) = table.Forum
node_at (suc (suc (suc (suc (suc (suc zero)))))) = table.Post
node_at n = table.Comment

node_again : (t : Table) → part_of (shape t) < 8 → node_at (part_of (shape t)) ≡ t
unfolding node_at
node_again table.Place l = refl
node_again table.TagClass l = refl
node_again table.Tag l = refl
node_again table.Organisation l = refl
node_again table.Person l = refl
node_again table.Forum l = refl
node_again table.Post l = refl
node_again table.Comment l = refl
node_again t l = absurd (omega (arith, l))

passes : (t : Table) (r : Row) → part_of (shape t) < 8 → part r ≡ part_of (shape t) → is_of t r ≡ true
passes t r few is =
    let same : table_of r ≡ t = sym (node_again (table_of r) (omega (arith, is, few))) ∙ ap node_at is ∙ node_again t few in
    ap (λ (u : Table). same_table u t) same ∙ same_itself t

all_of : (t : Table) (s : List Row) → part_of (shape t) < 8 → All (λ r. part r ≡ part_of (shape t)) s → filter (is_of t) s ≡ s
all_of t [] few all = refl
all_of t (r ∷ rs) few all =
    ap (λ b. cond b (r ∷ filter (is_of t) rs) (filter (is_of t) rs)) (passes t r few (All-head (λ (x : Row). part x ≡ part_of (shape t)) r rs all))
    ∙ ap (λ xs. r ∷ xs) (all_of t rs few (All-tail (λ (x : Row). part x ≡ part_of (shape t)) r rs all))

part_at : (n : ℕ) (ss : List (List Row)) (i : ℕ) → AreParts n ss → All (λ r. part r ≡ n + i) (at ss i)
part_at n [] i are = λ k d l. absurd (omega (arith, l))
part_at n (s ∷ ss) zero are = subst (λ m. All (λ r. part r ≡ m) s) (omega arith) are.0.own
part_at n (s ∷ ss) (suc i) are = subst (λ m. All (λ r. part r ≡ m) (at ss i)) (omega arith) (part_at (suc n) ss i are.1)

-- the rows of a kind of node are a part
pub node_rows : (t : Table) (ss : List (List Row)) (now : List Row) (i : ℕ) → joined ss ≡ now → IsWhole ss → part_of (shape t) ≡ i → i < 8 → rows now t ≡ at ss i
node_rows t ss now i view whole is few =
    rows_in_part t ss now i view whole is
    ∙ all_of t (at ss i) (omega (arith, is, few)) (subst (λ m. All (λ r. part r ≡ m) (at ss i)) (sum is) (part_at 0 ss i whole.parts))
  where
    sum : part_of (shape t) ≡ i → 0 + i ≡ part_of (shape t)
    sum e = omega (arith, e)

-- ---- edges

-- the ids of an edge's key aren't above the greatest id
record HasSmallKey (r : Row) : Type 0 where
  first : (row_key r).1 ≤ 9223372036854775807
  second : (row_key r).2 ≤ 9223372036854775807
  no_text : (row_key r).3 ≡ []

link_small : (columns : KeyColumns) (t : Table) (from to : ℕ) → from ≤ 9223372036854775807 → to ≤ 9223372036854775807 →
    ((edge_key columns t from to).1 ≤ 9223372036854775807) × ((edge_key columns t from to).2 ≤ 9223372036854775807) × ((edge_key columns t from to).3 ≡ [])
link_small First t from to a b = (a, omega arith, refl)
link_small Second t from to a b = (b, omega arith, refl)
link_small FirstTwo t from to a b = (a, b, refl)

edge_small : (r : Row) → part r ≡ 8 → IsTableRow r → HasSmallKey r
edge_small (row.Link t from to) is fit =
    let w : AreWithin (shape_columns shapes.Link) (values (row.Link t from to)) = subst (λ s. AreWithin (shape_columns s) (values (row.Link t from to))) (sym fit.shaped) fit.within in
    let small = link_small (key_columns t) t from to w.0 w.1.0 in
    record { first = small.0; second = small.1; no_text = small.2 }
edge_small (row.Dated t from to date) is fit =
    let w : AreWithin (shape_columns shapes.Dated) (values (row.Dated t from to date)) = subst (λ s. AreWithin (shape_columns s) (values (row.Dated t from to date))) (sym fit.shaped) fit.within in
    record { first = w.0; second = w.1.0; no_text = refl }
edge_small (row.Yeared t from to year) is fit =
    let w : AreWithin (shape_columns shapes.Yeared) (values (row.Yeared t from to year)) = subst (λ s. AreWithin (shape_columns s) (values (row.Yeared t from to year))) (sym fit.shaped) fit.within in
    record { first = w.0; second = w.1.0; no_text = refl }
edge_small (row.Word t person text) is fit = absurd (let p : 9 ≡ 8 = ap part_of fit.shaped ∙ is in omega (arith, p))
edge_small (row.Place p) is fit = absurd (omega (arith, is))
edge_small (row.TagClass p) is fit = absurd (omega (arith, is))
edge_small (row.Tag p) is fit = absurd (omega (arith, is))
edge_small (row.Organisation p) is fit = absurd (omega (arith, is))
edge_small (row.Person p) is fit = absurd (omega (arith, is))
edge_small (row.Forum p) is fit = absurd (omega (arith, is))
edge_small (row.Post p) is fit = absurd (omega (arith, is))
edge_small (row.Comment p) is fit = absurd (omega (arith, is))

-- a key lies between the first and the last of a table exactly where it is of this table
then_le : (o p : Ordering) → is_le o ≡ true → is_le p ≡ true → is_le (ordering_then o p) ≡ true
then_le Less p a b = refl
then_le Equal p a b = b
then_le Greater p a b = absurd (false≢true a)

then_lt : (o p : Ordering) → is_lt o ≡ false → is_lt p ≡ false → is_lt (ordering_then o p) ≡ false
then_lt Less p a b = absurd (false≢true (sym a))
then_lt Equal p a b = b
then_lt Greater p a b = refl

ends_test : (o low high : Ordering) → is_le low ≡ true → is_lt high ≡ false → is_up_to_end (ordering_then o low) (ordering_then o high) ≡ is_eq o
ends_test Less low high a b = refl
ends_test Equal low high a b = ap (λ x. x && not (is_lt high)) a ∙ ap not b
ends_test Greater low high a b = refl

-- two orders of tables say alike whether they are one
turned : (t u : Table) → is_eq (table_order t u) ≡ same_table u t
turned t u = elim (cases_Bool (same_table u t)) [
  | inl one ↦ ap (λ (v : Table). is_eq (table_order t v)) (same_is u t one) ∙ ap is_eq (table_itself t) ∙ sym one
  | inr differs ↦ elim (cases_Bool (is_eq (table_order t u))) [
    | inl same ↦ absurd (false≢true (sym differs ∙ ap (λ (v : Table). same_table v t) (sym (same_is t u (matches_eq-law t u ∙ same))) ∙ same_itself t))
    | inr other ↦ other ∙ sym differs
  ]
]

between : (t u : Table) (a b m n : ℕ) → a ≤ m → b ≤ n →
    is_up_to_end (key_order (t, 0, 0, []) (u, a, b, [])) (key_order (t, m, n, []) (u, a, b, [])) ≡ same_table u t
between t u a b m n small_a small_b =
    ends_test (table_order t u) _ _
    (then_le (nat_cmp 0 a) _ (low_end a) (then_le (nat_cmp 0 b) (slice_cmp nat_cmp [] []) (low_end b) refl))
    (then_lt (nat_cmp m a) _ (high_end m a small_a) (then_lt (nat_cmp n b) (slice_cmp nat_cmp [] []) (high_end n b small_b) refl))
    ∙ turned t u

edge_test : (t : Table) (r : Row) → part r ≡ 8 → IsTableRow r → is_up_to_end (key_order (t, 0, 0, []) (row_key r)) (key_order (t, 18446744073709551615, 18446744073709551615, []) (row_key r)) ≡ is_of t r
edge_test t r is fit =
    let small = edge_small r is fit in
    let key : row_key r ≡ (table_of r, (row_key r).1, (row_key r).2, []) = λ i. (key_table r i, (row_key r).1, (row_key r).2, small.no_text i) in
    ap (λ k. is_up_to_end (key_order (t, 0, 0, []) k) (key_order (t, 18446744073709551615, 18446744073709551615, []) k)) key
    ∙ between t (table_of r) (row_key r).1 (row_key r).2 18446744073709551615 18446744073709551615 (let f = small.first in omega (arith, f)) (let f = small.second in omega (arith, f))

same_kept : (p q : Row → Bool) (s : List Row) → All (λ r. p r ≡ q r) s → filter p s ≡ filter q s
same_kept p q [] all = refl
same_kept p q (r ∷ rs) all =
    ap (λ b. cond b (r ∷ filter p rs) (filter p rs)) (All-head (λ (x : Row). p x ≡ q x) r rs all)
    ∙ ap (λ xs. cond (q r) (r ∷ xs) xs) (same_kept p q rs (All-tail (λ (x : Row). p x ≡ q x) r rs all))

-- what a graph's rows are like holds of the rows of a part
of_part : (P : Row → Type 0) (ss : List (List Row)) (i : ℕ) → All P (joined ss) → All P (at ss i)
of_part P ss i all = All-weaker (Contains (at ss i)) P (λ r c. All_of (joined ss) r all (part_among ss i r c)) (at ss i) (All-contains_itself (at ss i))
  where
    All_of : (xs : List Row) (r : Row) → All P xs → Contains xs r → P r
    All_of xs r h c = subst P c.2 (h c.0 r c.1)

-- the rows of a table of edges are a range of the edges
pub edge_rows : (t : Table) (ss : List (List Row)) (now : List Row) → joined ss ≡ now → IsWhole ss → part_of (shape t) ≡ 8 →
    rows_within is_up_to_end (t, 0, 0, []) (t, 18446744073709551615, 18446744073709551615, []) (at ss 8) ≡ rows now t
edge_rows t ss now view whole is =
    same_kept (λ r. is_up_to_end (key_order (t, 0, 0, []) (row_key r)) (key_order (t, 18446744073709551615, 18446744073709551615, []) (row_key r))) (is_of t) (at ss 8)
    (λ k d l. edge_test t _ (part_at 0 ss 8 whole.parts k d l) (of_part IsTableRow ss 8 whole.graph.of_tables k d l))
    ∙ sym (rows_in_part t ss now 8 view whole is)

-- ---- words

record HasWordKey (r : Row) : Type 0 where
  small : (row_key r).1 ≤ 9223372036854775807
  only_id : (row_key r).2 ≡ 0

word_key : (r : Row) → part r ≡ 9 → IsTableRow r → HasWordKey r
word_key (row.Word t person text) is fit =
    let w : AreWithin (shape_columns shapes.Word) (values (row.Word t person text)) = subst (λ s. AreWithin (shape_columns s) (values (row.Word t person text))) (sym fit.shaped) fit.within in
    record { small = w.0; only_id = refl }
word_key (row.Link t from to) is fit = absurd (let p : 8 ≡ 9 = ap part_of fit.shaped ∙ is in omega (arith, p))
word_key (row.Dated t from to date) is fit = absurd (let p : 8 ≡ 9 = ap part_of fit.shaped ∙ is in omega (arith, p))
word_key (row.Yeared t from to year) is fit = absurd (let p : 8 ≡ 9 = ap part_of fit.shaped ∙ is in omega (arith, p))
word_key (row.Place p) is fit = absurd (omega (arith, is))
word_key (row.TagClass p) is fit = absurd (omega (arith, is))
word_key (row.Tag p) is fit = absurd (omega (arith, is))
word_key (row.Organisation p) is fit = absurd (omega (arith, is))
word_key (row.Person p) is fit = absurd (omega (arith, is))
word_key (row.Forum p) is fit = absurd (omega (arith, is))
word_key (row.Post p) is fit = absurd (omega (arith, is))
word_key (row.Comment p) is fit = absurd (omega (arith, is))

le_first : (o p : Ordering) → is_le p ≡ true → is_le (ordering_then o p) ≡ is_le o
le_first Less p a = refl
le_first Equal p a = a
le_first Greater p a = refl

before_test : (o low high : Ordering) → is_before_end (ordering_then o low) (ordering_then o high) ≡ is_eq o && (is_le low && not (is_le high))
before_test Less low high = refl
before_test Equal low high = refl
before_test Greater low high = refl

empty_first : (text : List ℕ) → is_le (slice_cmp nat_cmp [] text) ≡ true
empty_first [] = refl
empty_first (b ∷ bs) = refl

word_between : (t u : Table) (p q a : ℕ) (text : List ℕ) →
    is_before_end (key_order (t, p, 0, []) (u, a, 0, text)) (key_order (t, q, 0, []) (u, a, 0, text)) ≡ same_table u t && is_from p q a
word_between t u p q a text =
    before_test (table_order t u) _ _
    ∙ ap (λ x. is_eq (table_order t u) && (x && not (is_le (ordering_then (nat_cmp q a) (ordering_then (nat_cmp 0 0) (slice_cmp nat_cmp [] text)))))) (le_first (nat_cmp p a) (slice_cmp nat_cmp [] text) (empty_first text))
    ∙ ap (λ x. is_eq (table_order t u) && (is_le (nat_cmp p a) && not x)) (le_first (nat_cmp q a) (slice_cmp nat_cmp [] text) (empty_first text))
    ∙ ap (λ x. x && is_from p q a) (turned t u)

word_test : (t : Table) (p q : ℕ) (r : Row) → part r ≡ 9 → IsTableRow r → is_before_end (key_order (t, p, 0, []) (row_key r)) (key_order (t, q, 0, []) (row_key r)) ≡ is_of t r && is_from p q (row_key r).1
word_test t p q r is fit =
    let key : row_key r ≡ (table_of r, (row_key r).1, 0, (row_key r).3) = λ i. (key_table r i, (row_key r).1, (word_key r is fit).only_id i, (row_key r).3) in
    ap (λ k. is_before_end (key_order (t, p, 0, []) k) (key_order (t, q, 0, []) k)) key
    ∙ word_between t (table_of r) p q (row_key r).1 (row_key r).3

kept_twice : (p q : Row → Bool) (s : List Row) → filter (λ r. p r && q r) s ≡ filter q (filter p s)
kept_twice p q [] = refl
kept_twice p q (r ∷ rs) = by (p r) (q r) refl (kept_twice p q rs)
  where
    by : (a b : Bool) → q r ≡ b → filter (λ x. p x && q x) rs ≡ filter q (filter p rs) →
        cond (a && b) (r ∷ filter (λ x. p x && q x) rs) (filter (λ x. p x && q x) rs) ≡ filter q (cond a (r ∷ filter p rs) (filter p rs))
    by true true is e = ap (λ xs. r ∷ xs) e ∙ ap (λ x. cond x (r ∷ filter q (filter p rs)) (filter q (filter p rs))) (sym is)
    by true false is e = e ∙ ap (λ x. cond x (r ∷ filter q (filter p rs)) (filter q (filter p rs))) (sym is)
    by false b is e = e

-- the words of a table whose persons lie from one id on and before another
pub word_rows : (t : Table) (p q : ℕ) (wanted : ℕ → Bool) (ss : List (List Row)) (now : List Row) → joined ss ≡ now → IsWhole ss → part_of (shape t) ≡ 9 →
    ((a : ℕ) → a ≤ 9223372036854775807 → is_from p q a ≡ wanted a) →
    rows_within is_before_end (t, p, 0, []) (t, q, 0, []) (at ss 9) ≡ filter (λ r. wanted (row_key r).1) (rows now t)
word_rows t p q wanted ss now view whole is same =
    same_kept (λ r. is_before_end (key_order (t, p, 0, []) (row_key r)) (key_order (t, q, 0, []) (row_key r))) (λ r. is_of t r && wanted (row_key r).1) (at ss 9)
    (λ k d l.
    let placed = part_at 0 ss 9 whole.parts k d l in
    let fit = of_part IsTableRow ss 9 whole.graph.of_tables k d l in
    word_test t p q (get_or (at ss 9) k d) placed fit
    ∙ ap (λ x. is_of t (get_or (at ss 9) k d) && x) (same (row_key (get_or (at ss 9) k d)).1 (word_key (get_or (at ss 9) k d) placed fit).small))
    ∙ kept_twice (is_of t) (λ r. wanted (row_key r).1) (at ss 9)
    ∙ ap (filter (λ r. wanted (row_key r).1)) (sym (rows_in_part t ss now 9 view whole is))

-- each id is one
pub from_zero : (a : ℕ) → a ≤ 9223372036854775807 → is_from 0 18446744073709551615 a ≡ true
from_zero a l = grind (arith, l)

-- one id alone
pub from_one : (p q a : ℕ) → ((q ≡ p + 1) ⊎ ((q ≡ p) × (p ≡ 18446744073709551615))) → a ≤ 9223372036854775807 → is_from p q a ≡ nat_eq a p
from_one p q a (inl e) l = grind (arith, nat_tests, l, e)
from_one p q a (inr e) l = grind (arith, nat_tests, l, e.0, e.1)

pub all_wanted : (s : List Row) → filter (λ r. true) s ≡ s
all_wanted [] = refl
all_wanted (r ∷ rs) = ap (λ xs. r ∷ xs) (all_wanted rs)

-- the texts of words are those of their rows
pub word_texts : {V : Type 0} (es : List (WordKey × V)) → texts_of es ≡ map (λ r. (row_key r).3) (rows_by (entry_row word_name word_row) es)
word_texts [] = refl
word_texts (e ∷ es) = ap (λ ts. e.0.text ∷ ts) (word_texts es)

-- the filters of equal tests are equal
pub one_person : (t : Table) (p q : ℕ) (now : List Row) (ss : List (List Row)) → joined ss ≡ now → IsWhole ss → part_of (shape t) ≡ 9 → ((q ≡ p + 1) ⊎ ((q ≡ p) × (p ≡ 18446744073709551615))) →
    filter (λ r. is_from p q (row_key r).1) (rows now t) ≡ filter (λ r. nat_eq (row_key r).1 p) (rows now t)
one_person t p q now ss view whole is ends = sym (word_rows t p q (is_from p q) ss now view whole is (λ a l. refl)) ∙ word_rows t p q (λ a. nat_eq a p) ss now view whole is (λ a l. from_one p q a ends l)

pub whole_table : (t : Table) (now : List Row) (ss : List (List Row)) → joined ss ≡ now → IsWhole ss → part_of (shape t) ≡ 9 → filter (λ r. is_from 0 18446744073709551615 (row_key r).1) (rows now t) ≡ rows now t
whole_table t now ss view whole is =
    sym (word_rows t 0 18446744073709551615 (is_from 0 18446744073709551615) ss now view whole is (λ a l. refl))
    ∙ word_rows t 0 18446744073709551615 (λ a. true) ss now view whole is from_zero
    ∙ all_wanted (rows now t)

-- the rows of a table are rows that tables can have
pub rows_fit : (t : Table) (ss : List (List Row)) (now given : List Row) → joined ss ≡ now → IsWhole ss → given ≡ rows now t → All IsTableRow given
rows_fit t ss now given view whole is = subst (λ xs. All IsTableRow xs) (sym is) (All-filter (is_of t) IsTableRow now (subst (λ xs. All IsTableRow xs) view whole.graph.of_tables))
