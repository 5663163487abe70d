-- Laws of sound graphs: of messages and what they reply to, of the edges that must be there, and of authors.
use Rattle.std.proofs.Common.{◌≡◌, ℕ, Bool, true, false, not, List, [], ◌++◌, filter, Some, refl, sym, ap, ◌∙◌, subst, inl, inr, arith}
use Rattle.std.proofs.lemmas.List.Elements.{All-contains, All-from_recursion}
use Rattle.std.specs.List.{All, Contains, flat_map}
use Rattle.snb_schema.specs.declared.layout.KeyColumns.TheVariants.{First}
use Rattle.snb_schema.specs.declared.layout.Shape.TheVariants as shapes
use Rattle.snb_schema.specs.declared.row.Row.{Row}
use Rattle.snb_schema.specs.declared.row.Row.TheVariants as row
use Rattle.snb_schema.specs.declared.table.Kind.{Kind}
use Rattle.snb_schema.specs.declared.table.Kind.TheVariants as kinds
use Rattle.snb_schema.specs.declared.table.Table.{Table}
use Rattle.snb_schema.specs.declared.table.Table.TheVariants as table
use Rattle.snb_schema.specs.Layouts.{key_columns, shape}
use Rattle.snb_schema.specs.References.{end_ref, from_kind, ref, required, to_kind}
use Rattle.snb_schema.specs.RowKeys.{RowKey, edge_key, node_key, row_key, sharing, slot, slot_of}
use Rattle.snb_schema.specs.RowValues.{table_of}
use Rattle.snb_schema.specs.TableOrder.{all_tables, same_table}
use Rattle.snb_schema.specs.TableRows.{IsTableRow}
use Rattle.snb_graph_rows.specs.Keyed.{key_table}
use Rattle.snb_graph_integrity.specs.Edges.{needs_at}
use Rattle.snb_graph_integrity.specs.SoundLaws.{CommentsHaveOneParent, MessagesAreOfOneKind, MessagesHaveOneAuthor, PostsHaveNoParent, RepliesAreHeld, RequiredEdgesAreThere}
use Rattle.snb_graph_integrity.proofs.Laws.{fills_decides, in_flat_map, table_decides}
use Rattle.snb_graph_integrity.proofs.RowLemmas.{among_rows}
use Rattle.snb_graph_model.specs.Graphs.{HasKey, HasSlot, IsGraph, fills, rows}
use Rattle.snb_graph_model.specs.Soundness.{HasNeededEdges, HoldsRefs, Need, edges_of, needs, needs_of}
use Rattle.snb_base.proofs.Laws.{contains_map, in_filter}

-- an id is that of a post or of a comment, never of both
pub one_kind : MessagesAreOfOneKind
one_kind g graph id post comment =
    let same = graph.apart post.it comment.it post.held comment.held (ap slot post.keyed ∙ sym (ap slot comment.keyed)) in
    let both : table.Post ≡ table.Comment = ap (λ (k : RowKey). k.0) (sym post.keyed ∙ ap row_key same ∙ comment.keyed) in
    absurd cc

-- links that fill one slot are of one table and lead to one node
pub one_link : (g : List Row) → IsGraph g → (t u : Table) (a b c d : ℕ) → Contains g (row.Link t a b) → Contains g (row.Link u c d) → slot_of (row.Link t a b) ≡ slot_of (row.Link u c d) → (t ≡ u) × (b ≡ d)
one_link g graph t u a b c d one other same =
    let e : row.Link t a b ≡ row.Link u c d = graph.apart (row.Link t a b) (row.Link u c d) one other same in
    (cc, cc)

-- the nodes at both ends of a link are held
pub ends_held : (g : List Row) (t : Table) (from to : ℕ) (a b : Kind) → HoldsRefs g → from_kind t ≡ Some a → to_kind t ≡ Some b → Contains g (row.Link t from to) → HasKey g (node_key a from) × HasKey g (node_key b to)
ends_held g t from to a b refs first second link =
    let all = subst (All (λ r. HasKey g (node_key r.1.kind r.1.id))) (λ i. end_ref 1 (first i) from ++ end_ref 2 (second i) to) (refs (row.Link t from to) link) in
    (all 0 (1, ref a from) (omega arith), all 1 (1, ref a from) (omega arith))

-- a comment that replies is held, and so is the message to which it replies
pub replies_held : RepliesAreHeld
replies_held g sound comment message (inl h) =
    let ends = ends_held g table.CommentReplyOfPost comment message kinds.Comment kinds.Post sound.held refl refl h in
    (ends.0, inl ends.1)
replies_held g sound comment message (inr h) =
    let ends = ends_held g table.CommentReplyOfComment comment message kinds.Comment kinds.Comment sound.held refl refl h in
    (ends.0, inr ends.1)

-- a post replies to nothing
pub no_parent : PostsHaveNoParent
no_parent g graph sound post message has reply = one_kind g graph post has (replies_held g sound post message reply).0

-- a comment replies to one message
pub one_parent : CommentsHaveOneParent
one_parent g graph comment one other (inl a) (inl b) = (one_link g graph table.CommentReplyOfPost table.CommentReplyOfPost comment one comment other a b refl).1
one_parent g graph comment one other (inl a) (inr b) = (one_link g graph table.CommentReplyOfPost table.CommentReplyOfComment comment one comment other a b refl).1
one_parent g graph comment one other (inr a) (inl b) = (one_link g graph table.CommentReplyOfComment table.CommentReplyOfPost comment one comment other a b refl).1
one_parent g graph comment one other (inr a) (inr b) = (one_link g graph table.CommentReplyOfComment table.CommentReplyOfComment comment one comment other a b refl).1

-- ---- the edges that a node must have

-- the tables whose nodes must have edges are among all tables
nodes_are_tables : All (λ pair. Contains all_tables pair.0) required
nodes_are_tables =
    All-from_recursion (λ pair. Contains all_tables pair.0) required
    ((2, omega arith, refl), ((3, omega arith, refl), ((4, omega arith, refl), ((5, omega arith, refl), ((6, omega arith, refl), ((6, omega arith, refl), ((6, omega arith, refl), ((7, omega arith, refl), ((7, omega arith, refl), ((7, omega arith, refl), tt))))))))))

-- an edge that a node must have is among what all nodes must have
needed : (g : List Row) (node edge : Table) (id : ℕ) → Contains required (node, edge) → HasKey g (node, id, 0, []) → Contains (needs g) (node, id, edge)
needed g node edge id must has =
    in_flat_map (λ t. flat_map needs_of (rows g t)) all_tables node (node, id, edge) (All-contains (λ pair. Contains all_tables pair.0) required (node, edge) nodes_are_tables must)
    (in_flat_map needs_of (rows g node) has.it (node, id, edge) (among_rows g node has.it of has.held) own)
  where
    of : table_of has.it ≡ node
    of = sym (key_table has.it) ∙ ap (λ (k : RowKey). k.0) has.keyed

    edges : Contains (edges_of node) edge
    edges = contains_map (λ (pair : Table × Table). pair.1) (filter (λ pair. same_table pair.0 node) required) (node, edge) ((in_filter (λ pair. same_table pair.0 node) required (node, edge)).1 (must, (table_decides node node).1 refl))

    own : Contains (needs_of has.it) (node, id, edge)
    own = subst (λ l. Contains l (node, id, edge)) (λ i. needs_at (sym has.keyed i).0 (sym has.keyed i).1) (contains_map (λ e. (node, id, e)) (edges_of node) edge edges)

-- and the slot of such an edge is filled
pub required_filled : (g : List Row) → HasNeededEdges g → (node edge : Table) (id : ℕ) → Contains required (node, edge) → HasKey g (node, id, 0, []) → HasSlot g (slot (edge, id, 0, []))
required_filled g complete node edge id must has = (fills_decides g (slot (edge, id, 0, []))).0 (by (fills g (slot (edge, id, 0, []))) refl)
  where
    by : (b : Bool) → fills g (slot (edge, id, 0, [])) ≡ b → fills g (slot (edge, id, 0, [])) ≡ true
    by true e = e
    by false e =
        let lacks = (in_filter (λ (need : Need). not (fills g (slot (need.2, need.1, 0, [])))) (needs g) (node, id, edge)).1 (needed g node edge id must has, ap not e) in
        absurd (let none = subst (λ l. Contains l (node, id, edge)) complete lacks in omega (arith, none.1))

-- each edge that a node must have is there, once
pub required_there : RequiredEdgesAreThere
required_there g graph sound node edge must id has =
    let there = required_filled g sound.complete node edge id must has in
    record {
      it = there.it;
      held = there.held;
      fills = there.fills;
      alone = λ other held fills. graph.apart other there.it held there.held (fills ∙ sym there.fills);
    }

-- ---- authors

-- a row of a table of links is a link
pub as_link : (r : Row) (t : Table) → table_of r ≡ t → shape t ≡ shapes.Link → IsTableRow r → (from : ℕ) × (to : ℕ) × (r ≡ row.Link t from to)
as_link (row.Link u from to) t of is fit = (from, to, ap (λ x. row.Link x from to) of)
as_link r t of is fit = let e = fit.shaped ∙ ap shape of ∙ is in absurd cc

-- what fills the slot of an edge that has the id of its first end is a link from there
pub link_from : (g : List Row) (t u : Table) (id : ℕ) → IsGraph g → shape t ≡ shapes.Link → key_columns t ≡ First → (has : HasSlot g (slot (u, id, 0, []))) → table_of has.it ≡ t → (to : ℕ) × Contains g (row.Link t id to)
link_from g t u id graph links first has of = (link.1, subst (Contains g) (link.2 ∙ ap (λ n. row.Link t n link.1) same) has.held)
  where
    link : (from : ℕ) × (to : ℕ) × (has.it ≡ row.Link t from to)
    link = as_link has.it t of links (All-contains IsTableRow g has.it graph.of_tables has.held)

    same : link.0 ≡ id
    same = ap (λ k. (edge_key k t link.0 link.1).1) (sym first) ∙ ap (λ (k : RowKey). k.1) (sym (ap slot_of link.2) ∙ has.fills)

-- where its table shares its keys with no other, the link is of it
link_there : (g : List Row) (t : Table) (id : ℕ) → IsGraph g → shape t ≡ shapes.Link → key_columns t ≡ First → sharing t ≡ t → ((u : Table) → sharing u ≡ t → u ≡ t) → HasSlot g (slot (t, id, 0, [])) → (to : ℕ) × Contains g (row.Link t id to)
link_there g t id graph links first own alone has =
    link_from g t t id graph links first has (sym (key_table has.it) ∙ alone (row_key has.it).0 (ap (λ (k : RowKey). k.0) has.fills ∙ own))

-- the authors' edges share their keys with no other table
post_creators : (u : Table) → sharing u ≡ table.PostHasCreatorPerson → u ≡ table.PostHasCreatorPerson
post_creators table.PostHasCreatorPerson e = refl
post_creators u e = absurd cc

comment_creators : (u : Table) → sharing u ≡ table.CommentHasCreatorPerson → u ≡ table.CommentHasCreatorPerson
comment_creators table.CommentHasCreatorPerson e = refl
comment_creators u e = absurd cc

-- each message has one author
pub one_author : MessagesHaveOneAuthor
one_author g graph sound message (inl post) =
    let filled = required_filled g sound.complete table.Post table.PostHasCreatorPerson message (5, omega arith, refl) post in
    let link = link_there g table.PostHasCreatorPerson message graph refl refl refl post_creators filled in
    record {
      author = link.0;
      wrote = inl link.1;
      held = (ends_held g table.PostHasCreatorPerson message link.0 kinds.Post kinds.Person sound.held refl refl link.1).1;
      alone = λ other wrote. elim wrote [
        | inl a ↦ (one_link g graph table.PostHasCreatorPerson table.PostHasCreatorPerson message other message link.0 a link.1 refl).1
        | inr a ↦ absurd (one_kind g graph message post (ends_held g table.CommentHasCreatorPerson message other kinds.Comment kinds.Person sound.held refl refl a).0)
      ];
    }
one_author g graph sound message (inr comment) =
    let filled = required_filled g sound.complete table.Comment table.CommentHasCreatorPerson message (7, omega arith, refl) comment in
    let link = link_there g table.CommentHasCreatorPerson message graph refl refl refl comment_creators filled in
    record {
      author = link.0;
      wrote = inr link.1;
      held = (ends_held g table.CommentHasCreatorPerson message link.0 kinds.Comment kinds.Person sound.held refl refl link.1).1;
      alone = λ other wrote. elim wrote [
        | inl a ↦ absurd (one_kind g graph message (ends_held g table.PostHasCreatorPerson message other kinds.Post kinds.Person sound.held refl refl a).0 comment)
        | inr a ↦ (one_link g graph table.CommentHasCreatorPerson table.CommentHasCreatorPerson message other message link.0 a link.1 refl).1
      ];
    }
