-- Where there are as many edges as nodes that must have them, each of these nodes has its edge.
use Rattle.std.proofs.Common.{◌≡◌, ℕ, true, not, List, [], ◌++◌, length, filter, Some, refl, sym, ap, ◌∙◌, subst, inl, inr, length-append}
use Rattle.std.proofs.lemmas.List.{length-map}
use Rattle.std.proofs.lemmas.List.Elements.{All-contains, All-from_recursion, Contains-append_cases}
use Rattle.std.specs.List.{All, Contains, flat_map}
use Rattle.snb_schema.specs.declared.layout.KeyColumns.TheVariants.{First}
use Rattle.snb_schema.specs.declared.layout.Shape.TheVariants as shapes
use Rattle.snb_schema.specs.declared.row.Row.{Row}
use Rattle.snb_schema.specs.declared.table.Kind.{Kind}
use Rattle.snb_schema.specs.declared.table.Kind.TheVariants as kinds
use Rattle.snb_schema.specs.declared.table.Table.{Table}
use Rattle.snb_schema.specs.declared.table.Table.TheVariants as table
use Rattle.snb_schema.specs.Layouts.{key_columns, shape}
use Rattle.snb_schema.specs.References.{from_kind, required, to_kind}
use Rattle.snb_schema.specs.RowKeys.{RowKey, edge_key, kind_table, row_key, sharing, slot, slot_of}
use Rattle.snb_schema.specs.TableOrder.{all_tables, same_table}
use Rattle.snb_schema.specs.TableRows.{IsTableRow}
use Rattle.snb_graph_rows.specs.Keyed.{key_table}
use Rattle.snb_graph_integrity.specs.Counts.{AreFull, IsFull, edge_count}
use Rattle.snb_graph_integrity.proofs.Laws.{fills_decides}
use Rattle.snb_graph_integrity.proofs.Pigeons.{HaveOwnIds, one_each}
use Rattle.snb_graph_integrity.proofs.RowLemmas.{among_ids, id_of, row_ids}
use Rattle.snb_graph_integrity.proofs.SoundLemmas.{as_link, ends_held}
use Rattle.snb_graph_model.proofs.Laws.{IsApart, apart_append, in_rows, none_of, rows_apart, same_is}
use Rattle.snb_graph_model.specs.Graphs.{HasKey, HasSlot, IsGraph, count, fills, rows}
use Rattle.snb_graph_model.specs.Soundness.{HasNeededEdges, HoldsRefs, Need, edges_of, missing, needs, needs_of}
use Rattle.snb_base.proofs.Laws.{contains_map, each_at, in_filter, in_flat, in_map}

-- ---- edges that nodes must have

-- a row fills the slot of an edge under its own id, which is that of a node
record IsEdgeOf (g : List Row) (node edge : Table) (r : Row) : Type 0 where
  pub held : Contains g r
  pub fills : slot_of r ≡ slot (edge, id_of r, 0, [])
  pub there : HasKey g (node, id_of r, 0, [])

-- where there are as many of them as nodes, each node has one
filled : (g : List Row) → IsGraph g → (node edge : Table) (es : List Row) → IsApart es → ((r : Row) → Contains es r → IsEdgeOf g node edge r) → length es ≡ count g node → (id : ℕ) → Contains (row_ids g node) id → HasSlot g (slot (edge, id, 0, []))
filled g graph node edge es apart are same id has =
    let (r, there, is) = one_each id_of es (row_ids g node) apart own (λ r c. among_ids g node (id_of r) (are r c).there) (same ∙ sym (length-map (rows g node) id_of)) id has in
    record { it = r; held = (are r there).held; fills = (are r there).fills ∙ ap (λ n. slot (edge, n, 0, [])) is }
  where
    own : HaveOwnIds id_of es
    own r s c d e = graph.apart r s (are r c).held (are s d).held ((are r c).fills ∙ ap (λ n. slot (edge, n, 0, [])) e ∙ sym (are s d).fills)

-- a link whose first end is its table's key, and leads from a node
edge_from : (g : List Row) → IsGraph g → HoldsRefs g → (kind other : Kind) (t edge : Table) → shape t ≡ shapes.Link → key_columns t ≡ First → from_kind t ≡ Some kind → to_kind t ≡ Some other → sharing t ≡ sharing edge
    → (r : Row) → Contains (rows g t) r → IsEdgeOf g (kind_table kind) edge r
edge_from g graph refs kind other t edge links first from to shares r c =
    let (held, of) = (in_rows g t r).0 c in
    let (a, b, is) = as_link r t of links (All-contains IsTableRow g r graph.of_tables held) in
    let key : row_key r ≡ (t, a, 0, []) = ap row_key is ∙ ap (λ k. edge_key k t a b) first in
    record {
      held = held;
      fills = ap slot key ∙ (λ i. (shares i, (sym key i).1, 0, []));
      there = subst (λ (n : ℕ). HasKey g (kind_table kind, n, 0, [])) (ap (λ (k : RowKey). k.1) (sym key)) (ends_held g t a b kind other refs from to (subst (Contains g) is held)).0;
    }

-- the edge of a forum and a post has the post's id
container_from : (g : List Row) → IsGraph g → HoldsRefs g → (r : Row) → Contains (rows g table.ForumContainerOfPost) r → IsEdgeOf g table.Post table.ForumContainerOfPost r
container_from g graph refs r c =
    let (held, of) = (in_rows g table.ForumContainerOfPost r).0 c in
    let (a, b, is) = as_link r table.ForumContainerOfPost of refl (All-contains IsTableRow g r graph.of_tables held) in
    let key : row_key r ≡ (table.ForumContainerOfPost, b, 0, []) = ap row_key is in
    record {
      held = held;
      fills = ap slot key ∙ (λ i. (table.ForumContainerOfPost, (sym key i).1, 0, []));
      there = subst (λ (n : ℕ). HasKey g (table.Post, n, 0, [])) (ap (λ (k : RowKey). k.1) (sym key)) (ends_held g table.ForumContainerOfPost a b kinds.Forum kinds.Post refs refl refl (subst (Contains g) is held)).1;
    }

-- ---- the edges that are required

-- where there are as many edges as nodes, each node has one
abbrev AnswersAll : Table × Table → Type 0
AnswersAll pair = (g : List Row) → IsGraph g → HoldsRefs g → edge_count g pair.1 ≡ count g pair.0 → (id : ℕ) → Contains (row_ids g pair.0) id → HasSlot g (slot (pair.1, id, 0, []))

answer_first : (kind other : Kind) (edge : Table) → shape edge ≡ shapes.Link → key_columns edge ≡ First → from_kind edge ≡ Some kind → to_kind edge ≡ Some other → ((g : List Row) → edge_count g edge ≡ count g edge) → AnswersAll (kind_table kind, edge)
answer_first kind other edge links first from to own g graph refs same =
    filled g graph (kind_table kind) edge (rows g edge) (rows_apart g edge graph) (edge_from g graph refs kind other edge edge links first from to refl) (sym (own g) ∙ same)

answer_container : AnswersAll (table.Post, table.ForumContainerOfPost)
answer_container g graph refs same =
    filled g graph table.Post table.ForumContainerOfPost (rows g table.ForumContainerOfPost) (rows_apart g table.ForumContainerOfPost graph) (container_from g graph refs) same

answer_reply : AnswersAll (table.Comment, table.CommentReplyOfPost)
answer_reply g graph refs same =
    filled g graph table.Comment table.CommentReplyOfPost (rows g table.CommentReplyOfPost ++ rows g table.CommentReplyOfComment)
    (apart_append (rows g table.CommentReplyOfPost) (rows g table.CommentReplyOfComment) (rows_apart g table.CommentReplyOfPost graph) (rows_apart g table.CommentReplyOfComment graph) (λ r a b. (let one = ((in_rows g table.CommentReplyOfPost r).0 a).1 in let two = ((in_rows g table.CommentReplyOfComment r).0 b).1 in cc)))
    (λ r c. elim (Contains-append_cases (rows g table.CommentReplyOfPost) (rows g table.CommentReplyOfComment) r c) [
      | inl h ↦ edge_from g graph refs kinds.Comment kinds.Post table.CommentReplyOfPost table.CommentReplyOfPost refl refl refl refl refl r h
      | inr h ↦ edge_from g graph refs kinds.Comment kinds.Comment table.CommentReplyOfComment table.CommentReplyOfPost refl refl refl refl refl r h
    ])
    (length-append (rows g table.CommentReplyOfPost) (rows g table.CommentReplyOfComment) ∙ same)

answers : All AnswersAll required
answers =
    All-from_recursion AnswersAll required (
      answer_first kinds.Tag kinds.TagClass table.TagHasTypeTagClass refl refl refl refl (λ g. refl),
      (
        answer_first kinds.Organisation kinds.Place table.OrganisationIsLocatedInPlace refl refl refl refl (λ g. refl),
        (
          answer_first kinds.Person kinds.Place table.PersonIsLocatedInPlace refl refl refl refl (λ g. refl),
          (
            answer_first kinds.Forum kinds.Person table.ForumHasModeratorPerson refl refl refl refl (λ g. refl),
            (
              answer_container,
              (
                answer_first kinds.Post kinds.Person table.PostHasCreatorPerson refl refl refl refl (λ g. refl),
                (
                  answer_first kinds.Post kinds.Place table.PostIsLocatedInPlace refl refl refl refl (λ g. refl),
                  (
                    answer_first kinds.Comment kinds.Person table.CommentHasCreatorPerson refl refl refl refl (λ g. refl),
                    (answer_first kinds.Comment kinds.Place table.CommentIsLocatedInPlace refl refl refl refl (λ g. refl), (answer_reply, tt)),
                  ),
                ),
              ),
            ),
          ),
        ),
      ),
    )

-- where there are as many of each edge as nodes that must have it, each of them is there
pub full_complete : (g : List Row) → IsGraph g → HoldsRefs g → AreFull g → HasNeededEdges g
full_complete g graph refs full = none_of (missing g) none
  where
    -- an edge that a row of a table must have is there
    there : (t edge : Table) (r : Row) → Contains all_tables t → Contains (rows g t) r → Contains (edges_of t) edge → fills g (slot (edge, id_of r, 0, [])) ≡ true
    there t edge r listed c must =
        let (pair, chosen, is) = in_map (λ (pair : Table × Table). pair.1) (filter (λ (pair : Table × Table). same_table pair.0 t) required) edge must in
        let (among, same) = (in_filter (λ (pair : Table × Table). same_table pair.0 t) required pair).0 chosen in
        let answer : AnswersAll (t, edge) = subst AnswersAll (λ i. (same_is pair.0 t same i, is i)) (each_at AnswersAll required answers pair among) in
        let many = All-contains (λ e. edge_count g e ≡ count g t) (edges_of t) edge (All-contains (IsFull g) all_tables t full listed) must in
        (fills_decides g (slot (edge, id_of r, 0, []))).1 (answer g graph refs many (id_of r) (contains_map id_of (rows g t) r c))

    none : (z : Need) → Contains (missing g) z → ⊥
    none z c =
        let (needed, lacks) = (in_filter (λ (need : Need). not (fills g (slot (need.2, need.1, 0, [])))) (needs g) z).0 c in
        let (t, listed, of) = in_flat (λ t. flat_map needs_of (rows g t)) all_tables z needed in
        let (r, held, own) = in_flat needs_of (rows g t) z of in
        let (edge, must, is) = in_map (λ (edge : Table). ((row_key r).0, id_of r, edge)) (edges_of (row_key r).0) z own in
        let node : (row_key r).0 ≡ t = key_table r ∙ ((in_rows g t r).0 held).1 in
        let yes = there t edge r listed held (subst (λ u. Contains (edges_of u) edge) node must) in
        let no : not (fills g (slot (edge, id_of r, 0, []))) ≡ true = ap (λ (need : Need). not (fills g (slot (need.2, need.1, 0, [])))) is ∙ lacks in
        absurd (let denied = ap not yes in cc)
