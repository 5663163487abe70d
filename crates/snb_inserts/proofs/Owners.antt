-- The id with which a row's key begins: where a graph's references are held, so is the node that it names.
use Rattle.std.proofs.Common.{◌≡◌, ◌++◌, ◌∷◌, ◌∙◌, ℕ, List, [], Option, Some, refl, sym, ap, subst}
use Rattle.std.proofs.lemmas.List.Elements.{All-contains, All-head, Contains-append_right}
use Rattle.std.specs.List.{All, Contains}
use Rattle.snb_schema.specs.declared.layout.KeyColumns.{KeyColumns}
use Rattle.snb_schema.specs.declared.layout.KeyColumns.TheVariants.{First, Second, FirstTwo}
use Rattle.snb_schema.specs.declared.layout.Shape.{Shape}
use Rattle.snb_schema.specs.declared.layout.Shape.TheVariants as shapes
use Rattle.snb_schema.specs.declared.refusal.Missing.{Missing}
use Rattle.snb_schema.specs.declared.row.Row.{Row}
use Rattle.snb_schema.specs.declared.row.Row.TheVariants as row
use Rattle.snb_schema.specs.declared.table.Kind.{Kind}
use Rattle.snb_schema.specs.declared.table.Table.{Table}
use Rattle.snb_schema.specs.declared.table.Table.TheVariants as table
use Rattle.snb_schema.specs.Layouts.{key_columns, shape}
use Rattle.snb_schema.specs.References.{end_ref, from_kind, ref, to_kind}
use Rattle.snb_schema.specs.RowKeys.{RowKey, edge_key, node_key, row_key, sharing, slot}
use Rattle.snb_schema.specs.RowValues.{table_of}
use Rattle.snb_schema.specs.TableRows.{IsTableRow}
use Rattle.snb_graph_rows.specs.Keyed.{key_table}
use Rattle.snb_graph_model.specs.Graphs.{HasKey, HasSlot, IsGraph}
use Rattle.snb_graph_model.specs.Soundness.{HoldsRefs}
use Rattle.snb_base.proofs.Laws.{contains_here}

-- ---- tables

-- the kind of node whose id comes first in the keys of an edge's or a word's table
abbrev owner_by : KeyColumns → Table → Option Kind
owner_by First t = from_kind t
owner_by Second t = to_kind t
owner_by FirstTwo t = from_kind t

-- by the table's key columns; none for a table of nodes
abbrev pub owner : Table → Option Kind
owner t = owner_by (key_columns t) t

-- tables that share their keys have them of one kind
shared_owner : (t : Table) → owner (sharing t) ≡ owner t
shared_owner table.Place = refl
shared_owner t = refl

-- edges whose key is their second id are links
second_links : (t : Table) → key_columns t ≡ Second → shape t ≡ shapes.Link
second_links table.ForumContainerOfPost e = refl
second_links t e = absurd cc

-- ---- rows

-- the node to which a column of a row refers is held
abbrev pub IsHere : List Row → ℕ × Missing → Type 0
IsHere g r = HasKey g (node_key r.1.kind r.1.id)

module _ (g : List Row) (t : Table) (k : Kind) where
  -- what is referred to first is held, where all is
  first_here : (from : ℕ) (rest : List (ℕ × Missing)) → from_kind t ≡ Some k → All (IsHere g) (end_ref 1 (from_kind t) from ++ rest) → HasKey g (node_key k from)
  first_here from rest is all = All-head (IsHere g) (1, ref k from) rest (subst (λ o. All (IsHere g) (end_ref 1 o from ++ rest)) is all)

  word_here : (person : ℕ) → from_kind t ≡ Some k → All (IsHere g) (end_ref 1 (from_kind t) person) → HasKey g (node_key k person)
  word_here person is all = All-head (IsHere g) (1, ref k person) [] (subst (λ o. All (IsHere g) (end_ref 1 o person)) is all)

  second_here : (from to : ℕ) → to_kind t ≡ Some k → All (IsHere g) (end_ref 1 (from_kind t) from ++ end_ref 2 (to_kind t) to) → HasKey g (node_key k to)
  second_here from to is all =
      All-contains (IsHere g) (end_ref 1 (from_kind t) from ++ (2, ref k to) ∷ []) (2, ref k to) (subst (λ o. All (IsHere g) (end_ref 1 (from_kind t) from ++ end_ref 2 o to)) is all)
      (Contains-append_right (end_ref 1 (from_kind t) from) ((2, ref k to) ∷ []) (2, ref k to) (contains_here (2, ref k to) []))

  -- the node of the first id in an edge's key is held, where its references are
  link_owned : (columns : KeyColumns) (from to : ℕ) → owner_by columns t ≡ Some k → All (IsHere g) (end_ref 1 (from_kind t) from ++ end_ref 2 (to_kind t) to) → HasKey g (node_key k (edge_key columns t from to).1)
  link_owned First from to is all = first_here from (end_ref 2 (to_kind t) to) is all
  link_owned Second from to is all = second_here from to is all
  link_owned FirstTwo from to is all = first_here from (end_ref 2 (to_kind t) to) is all

  -- but for links, it is the first id
  owned_first : (s : Shape) (columns : KeyColumns) → key_columns t ≡ columns → s ≡ shape t → (s ≡ shapes.Link → ⊥) → owner_by columns t ≡ Some k → from_kind t ≡ Some k
  owned_first s First same fit other is = is
  owned_first s Second same fit other is = absurd (other (fit ∙ second_links t same))
  owned_first s FirstTwo same fit other is = is

-- the node of the first id in the key of an edge or a word is held
owner_held : (g : List Row) → HoldsRefs g → (r : Row) → Contains g r → IsTableRow r → (k : Kind) → owner (table_of r) ≡ Some k → HasKey g (node_key k (row_key r).1)
owner_held g held (row.Link t from to) c fit k is = link_owned g t k (key_columns t) from to is (held (row.Link t from to) c)
owner_held g held (row.Dated t from to date) c fit k is = first_here g t k from (end_ref 2 (to_kind t) to) (owned_first g t k shapes.Dated (key_columns t) refl fit.shaped (λ e. cc) is) (held (row.Dated t from to date) c)
owner_held g held (row.Yeared t from to year) c fit k is = first_here g t k from (end_ref 2 (to_kind t) to) (owned_first g t k shapes.Yeared (key_columns t) refl fit.shaped (λ e. cc) is) (held (row.Yeared t from to year) c)
owner_held g held (row.Word t person text) c fit k is = word_here g t k person (owned_first g t k shapes.Word (key_columns t) refl fit.shaped (λ e. cc) is) (held (row.Word t person text) c)
owner_held g held r c fit k is = absurd cc

-- no row fills a slot of an edge or a word that begins with the id of a node whose slot isn't filled
pub none_owned : (g : List Row) → IsGraph g → HoldsRefs g → (k : Kind) (id : ℕ) → ¬ HasSlot g (slot (node_key k id)) → (s : RowKey) → owner s.0 ≡ Some k → s.1 ≡ id → ¬ HasSlot g s
none_owned g graph held k id free s owned same has =
    free (record { it = node.it; held = node.held; fills = ap slot (node.keyed ∙ ap (λ n. node_key k n) (ap (λ (j : RowKey). j.1) has.fills ∙ same)) })
  where
    owns : owner (table_of has.it) ≡ Some k
    owns = ap owner (sym (key_table has.it)) ∙ sym (shared_owner (row_key has.it).0) ∙ ap (λ (j : RowKey). owner j.0) has.fills ∙ owned

    node : HasKey g (node_key k (row_key has.it).1)
    node = owner_held g held has.it has.held (All-contains IsTableRow g has.it graph.of_tables has.held) k owns
