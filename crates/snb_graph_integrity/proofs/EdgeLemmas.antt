-- What is missing of the edges that nodes must have.
use Rattle.std.proofs.Common.{◌≡◌, ◌≢◌, ◌↔◌, ◌<◌, ◌≤◌, ◌+◌, ℕ, List, [], ◌∷◌, ◌++◌, map, Bool, true, false, cond, not, IsTrue, filter, length, get_or, drop, refl, sym, ap, ◌∙◌, subst, add-one, drop-cons, Result, Ok, Err}
use Rattle.std.proofs.lemmas.Bool.Decides.{same_from_decides}
use Rattle.std.proofs.lemmas.List.{drop_all}
use Rattle.std.proofs.lemmas.List.Concat.{flat_map-cons}
use Rattle.std.specs.Result.{IsErrAnd}
use Rattle.std.proofs.lemmas.List.Elements.{All-filter, All-from_recursion, All-head, All-map, All-rest, All-tail, filter-append}
use Rattle.std.specs.List.{All, flat_map}
use Rattle.snb_schema.specs.declared.layout.KeyColumns.{KeyColumns}
use Rattle.snb_schema.specs.declared.layout.KeyColumns.TheVariants.{First, Second, FirstTwo}
use Rattle.snb_schema.specs.declared.layout.Shape.TheVariants as shapes
use Rattle.snb_schema.specs.declared.row.Row.{Row}
use Rattle.snb_schema.specs.declared.row.Row.TheVariants as row
use Rattle.snb_schema.specs.declared.table.Table.{Table}
use Rattle.snb_schema.specs.declared.table.Table.TheVariants as table
use Rattle.snb_schema.specs.Layouts.{has_no_direction, key_columns, shape}
use Rattle.snb_schema.specs.TableColumns.{shape_columns}
use Rattle.snb_schema.specs.References.{required}
use Rattle.snb_schema.specs.RowKeys.{RowKey, edge_key, row_key, slot, slot_of}
use Rattle.snb_schema.specs.RowValues.{values}
use Rattle.snb_schema.specs.TableOrder.{all_tables, same_table}
use Rattle.snb_schema.specs.TableRows.{AreWithin, HasLowerFirst, IsTableRow}
use Rattle.snb_graph_rows.specs.Keyed.{key_table}
use Rattle.snb_graph_integrity.specs.Edges.{Finds, IsEndEdge, TellsFirst, missing_of, needs_at}
use Rattle.snb_graph_integrity.specs.declared.unsound.Unsound.{Unsound}
use Rattle.snb_graph_integrity.specs.declared.unsound.Unsound.TheVariants.{Lacks, Cycle, Memory}
use Rattle.snb_graph_integrity.proofs.Laws.{fills_decides}
use Rattle.snb_graph_integrity.proofs.RowLemmas.{IsOf, are_of, id_small}
use Rattle.snb_graph_model.specs.Graphs.{HasSlot, IsGraph, fills, rows}
use Rattle.snb_graph_model.specs.Soundness.{Need, edges_of, needs, needs_of}

-- ---- the edges that are required

-- the key of each required edge is the id of one end
ends_required : All (λ pair. IsEndEdge pair.1) required
ends_required =
    All-from_recursion (λ pair. IsEndEdge pair.1) required
    (first refl refl refl, (first refl refl refl, (first refl refl refl, (first refl refl refl, (second, (first refl refl refl, (first refl refl refl, (first refl refl refl, (first refl refl refl, (first refl refl refl, tt))))))))))
  where
    first : {t : Table} → shape t ≡ shapes.Link → key_columns t ≡ First → has_no_direction t ≡ false → IsEndEdge t
    first link key directed = record { link = link; one_end = λ e. let f = sym key ∙ e in absurd cc; directed = directed }

    second : IsEndEdge table.ForumContainerOfPost
    second = record { link = refl; one_end = λ e. absurd cc; directed = refl }

pub end_edges : (node : Table) → All IsEndEdge (edges_of node)
end_edges node =
    All-map IsEndEdge (λ (pair : Table × Table). pair.1) (filter (λ pair. same_table pair.0 node) required)
    (All-filter (λ pair. same_table pair.0 node) (λ pair. IsEndEdge pair.1) required ends_required)

-- a link whose ends are one id is a row that its table can have, and its slot is the id's
pub end_row : (edge : Table) (id : ℕ) → IsEndEdge edge → id ≤ 9223372036854775807 → IsTableRow (row.Link edge id id)
end_row edge id is small = record {
  shaped = sym is.link;
  in_order = subst (λ b. HasLowerFirst b (values (row.Link edge id id))) (sym is.directed) tt;
  within = subst (λ s. AreWithin (shape_columns s) (values (row.Link edge id id))) (sym is.link) (small, (small, tt));
}

pub end_slot : (edge : Table) (id : ℕ) → IsEndEdge edge → slot_of (row.Link edge id id) ≡ slot (edge, id, 0, [])
end_slot edge id is = ap slot (by (key_columns edge) is.one_end)
  where
    by : (k : KeyColumns) → k ≢ FirstTwo → ◌≡◌ {A = RowKey} (edge_key k edge id id) (edge, id, 0, [])
    by First one = refl
    by Second one = refl
    by FirstTwo one = absurd (one refl)

pub filled : (g : List Row) (edge : Table) (id : ℕ) (test : Bool) → IsEndEdge edge → (IsTrue test ↔ HasSlot g (slot_of (row.Link edge id id))) → test ≡ fills g (slot (edge, id, 0, []))
filled g edge id test is same =
    same_from_decides test (fills g (slot (edge, id, 0, []))) (subst (λ s. IsTrue test ↔ HasSlot g s) (end_slot edge id is) same) (fills_decides g (slot (edge, id, 0, [])))

-- ---- step by step

pub missing_both : (g : List Row) (xs ys : List Need) → missing_of g xs ≡ [] → missing_of g (xs ++ ys) ≡ missing_of g ys
missing_both g xs ys none = filter-append (λ (need : Need). not (fills g (slot (need.2, need.1, 0, [])))) xs ys ∙ ap (λ l. l ++ missing_of g ys) none

pub missing_first : (g : List Row) (xs ys others : List Need) (one : Need) → missing_of g xs ≡ one ∷ others → missing_of g (xs ++ ys) ≡ one ∷ (others ++ missing_of g ys)
missing_first g xs ys others one some = filter-append (λ (need : Need). not (fills g (slot (need.2, need.1, 0, [])))) xs ys ∙ ap (λ l. l ++ missing_of g ys) some

-- the first of what is missing is the first of more
pub tells_more : (g : List Row) (xs ys zs : List Need) (e : Unsound) → missing_of g zs ≡ missing_of g (xs ++ ys) → TellsFirst (missing_of g xs) e → TellsFirst (missing_of g zs) e
tells_more g xs ys zs (Lacks node id edge) is tells = (tells.0 ++ missing_of g ys, is ∙ missing_first g xs ys tells.0 (node, id, edge) tells.1)
tells_more g xs ys zs (Cycle comment) is tells = absurd tells
tells_more g xs ys zs Memory is tells = tt

-- an error that was handed on tells what it told
pub finds_err : (g : List Row) (wanted : List Need) (result : Result (Unit {0}) Unsound) (e : Unsound) → IsErrAnd result (λ x. x ≡ e) → TellsFirst (missing_of g wanted) e → Finds g wanted result
finds_err g wanted (Err x) e is tells = subst (TellsFirst (missing_of g wanted)) (sym is) tells
finds_err g wanted (Ok x) e is tells = absurd is

-- ---- the nodes of a table

-- what the nodes of the table lack is among what those that are left must have
pub record IsNeeding (g : List Row) (t : Table) (left : List Row) : Type 0 where
  pub of : All (IsOf g t) left
  pub same : missing_of g (flat_map needs_of (rows g t)) ≡ missing_of g (flat_map needs_of left)

pub needing_begun : (g : List Row) (t : Table) (left : List Row) → IsGraph g → left ≡ rows g t → IsNeeding g t left
needing_begun g t left graph is = record {
  of = subst (All (IsOf g t)) (sym is) (are_of g t graph);
  same = ap (λ l. missing_of g (flat_map needs_of l)) (sym is);
}

module _ (g : List Row) (t : Table) (left rest : List Row) (r : Row) (id : ℕ) (is : left ≡ r ∷ rest) (same : id ≡ (row_key r).1) (needing : IsNeeding g t left) where
  own : IsOf g t r
  own = All-head (IsOf g t) r rest (subst (All (IsOf g t)) is needing.of)

  whole : missing_of g (flat_map needs_of (rows g t)) ≡ missing_of g (needs_at t id ++ flat_map needs_of rest)
  whole =
      needing.same
      ∙ ap (λ l. missing_of g (flat_map needs_of l)) is
      ∙ (λ i. missing_of g (needs_at ((key_table r ∙ own.of) i) (sym same i) ++ flat_map needs_of rest))

  pub needing_small : id ≤ 9223372036854775807
  needing_small = subst (λ n. n ≤ 9223372036854775807) (sym same) (id_small r own.fit)

  pub needing_more : missing_of g (needs_at t id) ≡ [] → IsNeeding g t rest
  needing_more none = record {
    of = All-rest (IsOf g t) r rest left is needing.of;
    same = whole ∙ missing_both g (needs_at t id) (flat_map needs_of rest) none;
  }

  pub needing_found : (e : Unsound) → TellsFirst (missing_of g (needs_at t id)) e → TellsFirst (missing_of g (flat_map needs_of (rows g t))) e
  needing_found e tells = tells_more g (needs_at t id) (flat_map needs_of rest) (flat_map needs_of (rows g t)) e whole tells

pub needing_ended : (g : List Row) (t : Table) (left : List Row) → left ≡ [] → IsNeeding g t left → missing_of g (flat_map needs_of (rows g t)) ≡ []
needing_ended g t left none needing = needing.same ∙ ap (λ l. missing_of g (flat_map needs_of l)) none

-- ---- all nodes

-- what nodes of other tables must have is nothing
none_needed : (g : List Row) (t : Table) (rs : List Row) → edges_of t ≡ [] → All (IsOf g t) rs → flat_map needs_of rs ≡ []
none_needed g t [] none all = refl
none_needed g t (r ∷ rs) none all =
    flat_map-cons needs_of r rs
    ∙ ap (λ l. l ++ flat_map needs_of rs) (ap (λ u. needs_at u (row_key r).1) (key_table r ∙ (All-head (IsOf g t) r rs all).of) ∙ ap (map (λ edge. (t, (row_key r).1, edge))) none)
    ∙ none_needed g t rs none (All-tail (IsOf g t) r rs all)

-- the tables whose nodes must have edges
abbrev pub six : List Table
six = table.Tag ∷ table.Organisation ∷ table.Person ∷ table.Forum ∷ table.Post ∷ table.Comment ∷ []

-- what the nodes of some tables must have
abbrev pub needs_in : List Row → List Table → List Need
needs_in g ts = flat_map (λ t. flat_map needs_of (rows g t)) ts

is_some : List Table → Bool
is_some [] = false
is_some (t ∷ ts) = true

none_else : (ts : List Table) → is_some ts ≡ false → ts ≡ []
unfolding is_some
none_else [] e = refl
none_else (t ∷ ts) e = absurd cc

needs_kept : (g : List Row) (ts : List Table) → IsGraph g → needs_in g ts ≡ needs_in g (filter (λ t. is_some (edges_of t)) ts)
needs_kept g [] graph = refl
needs_kept g (t ∷ ts) graph = by (is_some (edges_of t)) refl (needs_kept g ts graph)
  where
    by : (b : Bool) → is_some (edges_of t) ≡ b → needs_in g ts ≡ needs_in g (filter (λ u. is_some (edges_of u)) ts) →
        needs_in g (t ∷ ts) ≡ needs_in g (cond b (t ∷ filter (λ u. is_some (edges_of u)) ts) (filter (λ u. is_some (edges_of u)) ts))
    by true some rest = ap (λ l. flat_map needs_of (rows g t) ++ l) rest
    by false none rest = ap (λ l. l ++ needs_in g ts) (none_needed g t (rows g t) (none_else (edges_of t) none) (are_of g t graph)) ∙ rest

pub needs_six : (g : List Row) → IsGraph g → needs g ≡ needs_in g six
unfolding is_some
needs_six g graph = needs_kept g all_tables graph

-- what is missing is among what the nodes of the tables that are left must have
pub record IsAsking (g : List Row) (items : List Table) (i : ℕ) : Type 0 where
  pub are : items ≡ six
  pub same : missing_of g (needs g) ≡ missing_of g (needs_in g (drop i items))

pub asking_begun : (g : List Row) (items : List Table) → IsGraph g → items ≡ six → IsAsking g items 0
asking_begun g items graph is = record { are = is; same = ap (missing_of g) (needs_six g graph ∙ ap (needs_in g) (sym is)) }

module _ (g : List Row) (items : List Table) (i : ℕ) (d : Table) (l : i < length items) (asking : IsAsking g items i) where
  abbrev node : Table
  node = get_or items i d

  all : missing_of g (needs g) ≡ missing_of g (flat_map needs_of (rows g node) ++ needs_in g (drop (i + 1) items))
  all = rw add-one (asking.same ∙ ap (λ ts. missing_of g (needs_in g ts)) (drop-cons items i d l))

  pub asking_more : missing_of g (flat_map needs_of (rows g node)) ≡ [] → IsAsking g items (i + 1)
  asking_more none = record { are = asking.are; same = all ∙ missing_both g (flat_map needs_of (rows g node)) (needs_in g (drop (i + 1) items)) none }

  pub asking_found : (e : Unsound) → TellsFirst (missing_of g (flat_map needs_of (rows g node))) e → TellsFirst (missing_of g (needs g)) e
  asking_found e tells = tells_more g (flat_map needs_of (rows g node)) (needs_in g (drop (i + 1) items)) (needs g) e all tells

pub asking_ended : (g : List Row) (items : List Table) (i : ℕ) → length items ≤ i → IsAsking g items i → missing_of g (needs g) ≡ []
asking_ended g items i l asking = asking.same ∙ ap (λ ts. missing_of g (needs_in g ts)) (drop_all i items l)
