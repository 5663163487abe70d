-- Keys that compare alike are equal.
use Rattle.std.proofs.Common.{◌≡◌, ℕ, [], refl, ap, ◌∙◌}
use Rattle.std.specs.declared.cmp.Ordering.{Ordering}
use Rattle.std.specs.declared.cmp.Ordering.TheVariants.{Equal}
use Rattle.std.specs.Cmp.{tied_itself}
use Rattle.std.specs.Cmp.Lexicographic.{slice_cmp}
use Rattle.std.specs.Ordering.{nat_cmp, ordering_then}
use Rattle.std.proofs.lemmas.Map.Lookups.{exact_unsigned, exact_bytes}
use Rattle.snb_schema.specs.contracts.table.TableOrd.TheImpl.Laws.{total-law}
use Rattle.snb_schema.specs.declared.table.Table.{Table}
use Rattle.snb_schema.specs.RowKeys.{RowKey}
use Rattle.snb_schema.specs.TableOrder.{table_order}
use Rattle.snb_graph_model.specs.Graphs.{key_order}
use Rattle.snb_graph_rows.specs.declared.keys.EdgeKey.{EdgeKey}
use Rattle.snb_graph_rows.specs.declared.keys.WordKey.{WordKey}
use Rattle.snb_base.proofs.Laws.{then_equal, then_last}
use Rattle.snb_schema.proofs.Laws.{table_exact}

-- the key of an edge in a graph, and that of a word
abbrev pub edge_name : EdgeKey → RowKey
edge_name k = (k.table, k.first, k.second, [])

abbrev pub word_name : WordKey → RowKey
word_name k = (k.table, k.person, 0, k.text)

-- an order by three parts, as a derive gives it
abbrev pub three : Ordering → Ordering → Ordering → Ordering
three o p q = ordering_then o (ordering_then p q)

pub three_equal : (o p q : Ordering) → three o p q ≡ Equal → (o ≡ Equal) × (p ≡ Equal) × (q ≡ Equal)
three_equal o p q e =
    let one = then_equal o (ordering_then p q) e in let two =
    then_equal p q one.1 in (one.0, two.0, two.1)

-- keys that compare alike are equal
pub edge_exact : (j k : EdgeKey)
    → three (table_order j.table k.table) (nat_cmp j.first k.first) (nat_cmp j.second k.second)
    ≡ Equal → j ≡ k
edge_exact j k e =
    let all =
    three_equal (table_order j.table k.table) (nat_cmp j.first k.first)
    (nat_cmp j.second k.second) e in
    let t = table_exact j.table k.table all.0 in
    let a = exact_unsigned j.first k.first all.1 in
    let b = exact_unsigned j.second k.second all.2 in
    λ i. record { table = t i; first = a i; second = b i }

pub word_exact : (j k : WordKey)
    → three (table_order j.table k.table) (nat_cmp j.person k.person)
    (slice_cmp nat_cmp j.text k.text) ≡ Equal → j ≡ k
word_exact j k e =
    let all =
    three_equal (table_order j.table k.table) (nat_cmp j.person k.person)
    (slice_cmp nat_cmp j.text k.text) e in
    let t = table_exact j.table k.table all.0 in
    let a = exact_unsigned j.person k.person all.1 in
    let b = exact_bytes j.text k.text all.2 in
    λ i. record { table = t i; person = a i; text = b i }

-- keys compare as the rows' keys do
pub edge_order : (j k : EdgeKey)
    → key_order (edge_name j) (edge_name k)
    ≡ three (table_order j.table k.table) (nat_cmp j.first k.first) (nat_cmp j.second k.second)
edge_order j k =
    ap (λ o. ordering_then (table_order j.table k.table)
    (ordering_then (nat_cmp j.first k.first) o)) (then_last (nat_cmp j.second k.second))

pub word_order : (j k : WordKey)
    → key_order (word_name j) (word_name k)
    ≡ three (table_order j.table k.table) (nat_cmp j.person k.person)
    (slice_cmp nat_cmp j.text k.text)
word_order j k = refl

-- the key of a node of a table
abbrev pub id_name : Table → ℕ → RowKey
id_name t id = (t, id, 0, [])

pub table_itself : (t : Table) → table_order t t ≡ Equal
table_itself t = tied_itself total-law t

pub id_order : (t : Table) (j k : ℕ) → key_order (id_name t j) (id_name t k) ≡ nat_cmp j k
id_order t j k =
    ap (λ o. ordering_then o
    (ordering_then (nat_cmp j k) (ordering_then (nat_cmp 0 0) (slice_cmp nat_cmp [] []))))
    (table_itself t) ∙ then_last (nat_cmp j k)
