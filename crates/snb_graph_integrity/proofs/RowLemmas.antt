-- The rows of a table, and their order.
use Rattle.std.proofs.Common.{◌≡◌, ◌≤◌, ℕ, List, [], ◌∷◌, map, sym, ap, ◌∙◌, subst}
use Rattle.std.proofs.lemmas.List.Elements.{All-contains, All-contains_itself, All-from_recursion, All-weaker}
use Rattle.std.proofs.lemmas.List.Kept.{IsStrictlySortedBy-filter}
use Rattle.std.specs.Cmp.{tied_itself}
use Rattle.std.specs.List.{All, Contains}
use Rattle.std.specs.List.Sorted.{IsStrictlySortedBy}
use Rattle.std.specs.declared.cmp.Ordering.TheVariants.{Less}
use Rattle.snb_schema.specs.declared.layout.KeyColumns.{KeyColumns}
use Rattle.snb_schema.specs.declared.layout.KeyColumns.TheVariants.{First, Second, FirstTwo}
use Rattle.snb_schema.specs.declared.layout.Shape.TheVariants as shapes
use Rattle.snb_schema.specs.declared.row.Row.{Row}
use Rattle.snb_schema.specs.declared.row.Row.TheVariants as row
use Rattle.snb_schema.specs.declared.table.Table.{Table}
use Rattle.snb_schema.specs.Layouts.{key_columns}
use Rattle.snb_schema.specs.TableColumns.{shape_columns}
use Rattle.snb_schema.specs.RowKeys.{RowKey, edge_key, row_key}
use Rattle.snb_schema.specs.RowValues.{table_of, values}
use Rattle.snb_schema.specs.TableOrder.{same_table}
use Rattle.snb_schema.specs.TableRows.{AreWithin, IsTableRow}
use Rattle.snb_graph_rows.specs.Keyed.{key_table}
use Rattle.snb_graph_integrity.proofs.Laws.{table_decides}
use Rattle.snb_graph_model.proofs.Laws.{row_total}
use Rattle.snb_graph_model.specs.Graphs.{HasKey, IsGraph, row_order, rows}
use Rattle.snb_base.proofs.Laws.{contains_map, in_filter}

-- ---- the order of rows

-- the first of rows in order is below the others
pub below_rest : (r : Row) (rest : List Row) → IsStrictlySortedBy row_order (r ∷ rest) → (x : Row) → Contains rest x → row_order r x ≡ Less
unfolding IsStrictlySortedBy
below_rest r rest rises x c = All-contains (λ y. row_order r y ≡ Less) rest x (All-from_recursion (λ y. row_order r y ≡ Less) rest rises.0) c

pub rest_rises : (r : Row) (rest : List Row) → IsStrictlySortedBy row_order (r ∷ rest) → IsStrictlySortedBy row_order rest
unfolding IsStrictlySortedBy
rest_rises r rest rises = rises.1

-- and isn't among them
pub not_again : (r : Row) (rest : List Row) → IsStrictlySortedBy row_order (r ∷ rest) → ¬ Contains rest r
not_again r rest rises c = let below = below_rest r rest rises r c in let same = tied_itself row_total r in absurd cc

-- ---- the rows of a table

-- a row of the graph, of a table
pub record IsOf (g : List Row) (t : Table) (r : Row) : Type 0 where
  pub held : Contains g r
  pub of : table_of r ≡ t
  pub fit : IsTableRow r

pub are_of : (g : List Row) (t : Table) → IsGraph g → All (IsOf g t) (rows g t)
are_of g t graph =
    All-weaker (Contains (rows g t)) (IsOf g t)
    (λ r c.
    let h = (in_filter (λ x. same_table (table_of x) t) g r).0 c in
    record { held = h.0; of = (table_decides (table_of r) t).0 h.1; fit = All-contains IsTableRow g r graph.of_tables h.0 })
    (rows g t) (All-contains_itself (rows g t))

pub rows_rise : (g : List Row) (t : Table) → IsGraph g → IsStrictlySortedBy row_order (rows g t)
rows_rise g t graph = IsStrictlySortedBy-filter row_order (λ r. same_table (table_of r) t) g graph.rises

pub among_rows : (g : List Row) (t : Table) (r : Row) → table_of r ≡ t → Contains g r → Contains (rows g t) r
among_rows g t r of c = (in_filter (λ x. same_table (table_of x) t) g r).1 (c, (table_decides (table_of r) t).1 of)

pub from_rows : (g : List Row) (t : Table) (r : Row) → Contains (rows g t) r → Contains g r
from_rows g t r c = ((in_filter (λ x. same_table (table_of x) t) g r).0 c).0

-- the first id of a row's key, and those of the rows of a table
abbrev pub id_of : Row → ℕ
id_of r = (row_key r).1

abbrev pub row_ids : List Row → Table → List ℕ
row_ids g t = map id_of (rows g t)

-- the id of a node that is held is among them
pub among_ids : (g : List Row) (t : Table) (id : ℕ) → HasKey g (t, id, 0, []) → Contains (row_ids g t) id
among_ids g t id has =
    subst (Contains (row_ids g t)) (ap (λ (k : RowKey). k.1) has.keyed)
    (contains_map id_of (rows g t) has.it (among_rows g t has.it (sym (key_table has.it) ∙ ap (λ (k : RowKey). k.0) has.keyed) has.held))

-- the ids of keys aren't above the greatest id
edge_id : (columns : KeyColumns) (t : Table) (from to : ℕ) → from ≤ 9223372036854775807 → to ≤ 9223372036854775807 → (edge_key columns t from to).1 ≤ 9223372036854775807
edge_id First t from to a b = a
edge_id Second t from to a b = b
edge_id FirstTwo t from to a b = a

pub id_small : (r : Row) → IsTableRow r → (row_key r).1 ≤ 9223372036854775807
id_small (row.Place p) fit = fit.within.0
id_small (row.TagClass p) fit = fit.within.0
id_small (row.Tag p) fit = fit.within.0
id_small (row.Organisation p) fit = fit.within.0
id_small (row.Person p) fit = fit.within.0
id_small (row.Forum p) fit = fit.within.0
id_small (row.Post p) fit = fit.within.0
id_small (row.Comment p) fit = fit.within.0
id_small (row.Link t from to) fit =
    let w : AreWithin (shape_columns shapes.Link) (values (row.Link t from to)) = subst (λ s. AreWithin (shape_columns s) (values (row.Link t from to))) (sym fit.shaped) fit.within in
    edge_id (key_columns t) t from to w.0 w.1.0
id_small (row.Dated t from to date) fit =
    let w : AreWithin (shape_columns shapes.Dated) (values (row.Dated t from to date)) = subst (λ s. AreWithin (shape_columns s) (values (row.Dated t from to date))) (sym fit.shaped) fit.within in
    w.0
id_small (row.Yeared t from to year) fit =
    let w : AreWithin (shape_columns shapes.Yeared) (values (row.Yeared t from to year)) = subst (λ s. AreWithin (shape_columns s) (values (row.Yeared t from to year))) (sym fit.shaped) fit.within in
    w.0
id_small (row.Word t person text) fit =
    let w : AreWithin (shape_columns shapes.Word) (values (row.Word t person text)) = subst (λ s. AreWithin (shape_columns s) (values (row.Word t person text))) (sym fit.shaped) fit.within in
    w.0
