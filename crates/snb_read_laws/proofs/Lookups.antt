-- What a sound graph has: nodes by their ids, and edges that nodes must have.
use Rattle.std.proofs.Common.{◌≡◌, ℕ, List, [], ◌∷◌, ◌++◌, Some, refl, sym, ap, ◌∙◌, subst, inl, inr, arith, ◌==◌}
use Rattle.std.proofs.lemmas.Bool.{eq-eqb}
use Rattle.std.proofs.lemmas.List.Elements.{All-contains, Contains-append_cases}
use Rattle.std.specs.List.{Contains}
use Rattle.snb_schema.specs.declared.layout.KeyColumns.TheVariants.{First}
use Rattle.snb_schema.specs.declared.layout.Shape.TheVariants as shapes
use Rattle.snb_schema.specs.declared.nodes.Comment.{Comment}
use Rattle.snb_schema.specs.declared.nodes.Forum.{Forum}
use Rattle.snb_schema.specs.declared.nodes.Organisation.{Organisation}
use Rattle.snb_schema.specs.declared.nodes.Place.{Place}
use Rattle.snb_schema.specs.declared.nodes.Post.{Post}
use Rattle.snb_schema.specs.declared.person.Person.{Person}
use Rattle.snb_schema.specs.declared.refusal.Missing.{Missing}
use Rattle.snb_schema.specs.declared.row.Row.{Row}
use Rattle.snb_schema.specs.declared.row.Row.TheVariants as row
use Rattle.snb_schema.specs.declared.table.Kind.TheVariants as kinds
use Rattle.snb_schema.specs.declared.table.Table.{Table}
use Rattle.snb_schema.specs.declared.table.Table.TheVariants as table
use Rattle.snb_schema.specs.Layouts.{key_columns, shape}
use Rattle.snb_schema.specs.RowKeys.{RowKey, edge_key, node_key, row_key, sharing, slot, slot_of}
use Rattle.snb_schema.specs.RowValues.{row_shape, table_of}
use Rattle.snb_schema.specs.TableRows.{IsTableRow}
use Rattle.snb_graph_rows.specs.Keyed.{key_table}
use Rattle.snb_graph_integrity.specs.SoundLaws.{HasOneEdge, MessagesAreOfOneKind}
use Rattle.snb_graph_model.specs.Graphs.{HasKey, IsGraph, rows}
use Rattle.snb_graph_model.specs.Messages.{HasMessage, Wrote}
use Rattle.snb_graph_model.specs.Soundness.{HoldsRefs}
use Rattle.snb_graph_model.proofs.Laws.{comment_alone, comment_author, comment_only, forum_only, in_rows, one_chosen, organisation_row, person_only, place_row, post_author, post_only, rows_apart}
use Rattle.snb_graph_model.specs.Around.{authors, comments, forums, organisations, persons, places, with_id}
use Rattle.snb_graph_model.specs.RowParts.{Message, comment_shown, message_in, organisation_in, person_in, place_in, post_shown}
use Rattle.snb_read_model.specs.Distance.{IsPerson}
use Rattle.snb_base.proofs.Laws.{given_by}
use Rattle.std.proofs.lemmas.Option.{cond_some}

-- any reference
pub any : ℕ × Missing
any = (0, record { kind = kinds.Person; id = 0 })

as_person : (r : Row) → row_shape r ≡ shapes.Person → (p : Person) × (r ≡ row.Person p)
as_person (row.Person p) e = (p, refl)
as_person r e = absurd cc

as_forum : (r : Row) → row_shape r ≡ shapes.Forum → (f : Forum) × (r ≡ row.Forum f)
as_forum (row.Forum f) e = (f, refl)
as_forum r e = absurd cc

as_post : (r : Row) → row_shape r ≡ shapes.Post → (q : Post) × (r ≡ row.Post q)
as_post (row.Post q) e = (q, refl)
as_post r e = absurd cc

as_comment : (r : Row) → row_shape r ≡ shapes.Comment → (m : Comment) × (r ≡ row.Comment m)
as_comment (row.Comment m) e = (m, refl)
as_comment r e = absurd cc

as_organisation : (r : Row) → row_shape r ≡ shapes.Organisation → (o : Organisation) × (r ≡ row.Organisation o)
as_organisation (row.Organisation o) e = (o, refl)
as_organisation r e = absurd cc

as_place : (r : Row) → row_shape r ≡ shapes.Place → (p : Place) × (r ≡ row.Place p)
as_place (row.Place p) e = (p, refl)
as_place r e = absurd cc

as_link : (r : Row) → row_shape r ≡ shapes.Link → (from : ℕ) × (to : ℕ) × (r ≡ row.Link (table_of r) from to)
as_link (row.Link t from to) e = (from, to, refl)
as_link r e = absurd cc

-- ---- what is shown is held

pub person_held : (g : List Row) (id : ℕ) (p : Person) → Contains (persons g id) p → IsPerson g p.id
person_held g id p c =
    let (r, there, gives) = given_by (person_in id) (rows g table.Person) p c in
    by_row r ((in_rows g table.Person r).0 there).0 gives
  where
    by_row : (r : Row) → Contains g r → person_in id r ≡ Some p → IsPerson g p.id
    by_row (row.Person q) held e = record { it = row.Person q; held = held; keyed = ap (λ (x : Person). node_key kinds.Person x.id) (cond_some (q.id == id) q p e).1 }
    by_row r held e = absurd cc

pub message_shown : (g : List Row) (id : ℕ) (m : Message) → Contains (with_id g id) m → HasMessage g m.id
message_shown g id m c =
    let (r, there, gives) = given_by (message_in id) (rows g table.Post ++ rows g table.Comment) m c in
    elim (Contains-append_cases (rows g table.Post) (rows g table.Comment) r there) [
      | inl d ↦ by_row r ((in_rows g table.Post r).0 d).0 gives
      | inr d ↦ by_row r ((in_rows g table.Comment r).0 d).0 gives
    ]
  where
    by_row : (r : Row) → Contains g r → message_in id r ≡ Some m → HasMessage g m.id
    by_row (row.Post q) held e = inl (record { it = row.Post q; held = held; keyed = ap (λ (x : Message). node_key kinds.Post x.id) (cond_some (q.id == id) (post_shown q) m e).1 })
    by_row (row.Comment q) held e = inr (record { it = row.Comment q; held = held; keyed = ap (λ (x : Message). node_key kinds.Comment x.id) (cond_some (q.id == id) (comment_shown q) m e).1 })
    by_row r held e = absurd cc

module _ (g : List Row) (graph : IsGraph g) where
  shape_at : (k : RowKey) (h : HasKey g k) → row_shape h.it ≡ shape k.0
  shape_at k h = (All-contains IsTableRow g h.it graph.of_tables h.held).shaped ∙ ap shape (sym (key_table h.it) ∙ ap (λ (j : RowKey). j.0) h.keyed)

  id_at : (k : RowKey) (h : HasKey g k) (r : Row) → h.it ≡ r → (row_key r).1 ≡ k.1
  id_at k h r is = ap (λ (s : Row). (row_key s).1) (sym is) ∙ ap (λ (j : RowKey). j.1) h.keyed

  -- ---- nodes by their ids

  pub person_at : (id : ℕ) → IsPerson g id → (p : Person) × (persons g id ≡ p ∷ []) × (p.id ≡ id)
  person_at id h =
      let (p, is) = as_person h.it (shape_at (node_key kinds.Person id) h) in
      let named = id_at (node_key kinds.Person id) h (row.Person p) is in
      (p, subst (λ n. persons g n ≡ p ∷ []) named (person_only g p graph (subst (Contains g) is h.held)), named)

  pub forum_at : (id : ℕ) → HasKey g (node_key kinds.Forum id) → (f : Forum) × (forums g id ≡ f ∷ []) × (f.id ≡ id)
  forum_at id h =
      let (f, is) = as_forum h.it (shape_at (node_key kinds.Forum id) h) in
      let named = id_at (node_key kinds.Forum id) h (row.Forum f) is in
      (f, subst (λ n. forums g n ≡ f ∷ []) named (forum_only g f graph (subst (Contains g) is h.held)), named)

  pub message_at : (id : ℕ) → HasMessage g id → (m : Message) × (with_id g id ≡ m ∷ [])
  message_at id (inl h) =
      let (q, is) = as_post h.it (shape_at (node_key kinds.Post id) h) in
      let named = id_at (node_key kinds.Post id) h (row.Post q) is in
      (post_shown q, subst (λ n. with_id g n ≡ post_shown q ∷ []) named (post_only g q graph (subst (Contains g) is h.held)))
  message_at id (inr h) =
      let (m, is) = as_comment h.it (shape_at (node_key kinds.Comment id) h) in
      let named = id_at (node_key kinds.Comment id) h (row.Comment m) is in
      (comment_shown m, subst (λ n. with_id g n ≡ comment_shown m ∷ []) named (comment_only g m graph (subst (Contains g) is h.held)))

  pub comment_at : (id : ℕ) → HasKey g (node_key kinds.Comment id) → (m : Message) × (comments g id ≡ m ∷ [])
  comment_at id h =
      let (m, is) = as_comment h.it (shape_at (node_key kinds.Comment id) h) in
      let named = id_at (node_key kinds.Comment id) h (row.Comment m) is in
      (comment_shown m, subst (λ n. comments g n ≡ comment_shown m ∷ []) named (comment_alone g m graph (subst (Contains g) is h.held)))

  organisation_alone : (o : Organisation) → Contains g (row.Organisation o) → organisations g o.id ≡ o ∷ []
  organisation_alone o c =
      one_chosen g graph (organisation_in o.id) (rows g table.Organisation) (slot (node_key kinds.Organisation o.id)) (rows_apart g table.Organisation graph) (λ r d. ((in_rows g table.Organisation r).0 d).0)
      (λ r y d e. (let (is, id) = organisation_row o.id r y e in ap slot_of is ∙ ap (λ n. slot (node_key kinds.Organisation n)) id)) (row.Organisation o) o
      ((in_rows g table.Organisation _).1 (c, refl)) (rw (eq-eqb o.id o.id refl) refl)

  place_alone : (p : Place) → Contains g (row.Place p) → places g p.id ≡ p ∷ []
  place_alone p c =
      one_chosen g graph (place_in p.id) (rows g table.Place) (slot (node_key kinds.Place p.id)) (rows_apart g table.Place graph) (λ r d. ((in_rows g table.Place r).0 d).0)
      (λ r y d e. (let (is, id) = place_row p.id r y e in ap slot_of is ∙ ap (λ n. slot (node_key kinds.Place n)) id)) (row.Place p) p
      ((in_rows g table.Place _).1 (c, refl)) (rw (eq-eqb p.id p.id refl) refl)

  pub organisation_at : (id : ℕ) → HasKey g (node_key kinds.Organisation id) → (o : Organisation) × (organisations g id ≡ o ∷ [])
  organisation_at id h =
      let (o, is) = as_organisation h.it (shape_at (node_key kinds.Organisation id) h) in
      let named = id_at (node_key kinds.Organisation id) h (row.Organisation o) is in
      (o, subst (λ n. organisations g n ≡ o ∷ []) named (organisation_alone o (subst (Contains g) is h.held)))

  pub place_at : (id : ℕ) → HasKey g (node_key kinds.Place id) → (p : Place) × (places g id ≡ p ∷ [])
  place_at id h =
      let (p, is) = as_place h.it (shape_at (node_key kinds.Place id) h) in
      let named = id_at (node_key kinds.Place id) h (row.Place p) is in
      (p, subst (λ n. places g n ≡ p ∷ []) named (place_alone p (subst (Contains g) is h.held)))

  -- ---- edges

  -- a link that fills a slot, in a table that shares its keys with no other
  pub link_of : (t : Table) (id : ℕ) (it : Row) → Contains g it → sharing t ≡ t → ((u : Table) → sharing u ≡ t → u ≡ t) → shape t ≡ shapes.Link → slot_of it ≡ slot (t, id, 0, [])
      → (from : ℕ) × (to : ℕ) × Contains g (row.Link t from to) × ((edge_key (key_columns t) t from to).1 ≡ id)
  link_of t id it held own alone of fills =
      let key : (row_key it).0 ≡ t = alone (row_key it).0 (ap (λ (k : RowKey). k.0) fills ∙ own) in
      let at : table_of it ≡ t = sym (key_table it) ∙ key in
      let (from, to, is) = as_link it ((All-contains IsTableRow g it graph.of_tables held).shaped ∙ ap shape at ∙ of) in
      let same : it ≡ row.Link t from to = is ∙ ap (λ u. row.Link u from to) at in
      (from, to, subst (Contains g) same held, ap (λ (r : Row). (row_key r).1) (sym same) ∙ ap (λ (k : RowKey). k.1) fills)

  -- the edge that a node must have, where its key is the first id
  pub link_at : (t : Table) (id : ℕ) → sharing t ≡ t → ((u : Table) → sharing u ≡ t → u ≡ t) → shape t ≡ shapes.Link → key_columns t ≡ First → HasOneEdge g t id → (to : ℕ) × Contains g (row.Link t id to)
  link_at t id own alone of key has =
      let (from, to, c, is) = link_of t id has.it has.held own alone of has.fills in
      let first : from ≡ id = ap (λ k. (edge_key k t from to).1) (sym key) ∙ is in
      (to, subst (λ n. Contains g (row.Link t n to)) first c)

  -- the author of a message
  pub written : MessagesAreOfOneKind → HoldsRefs g → (m a : ℕ) → Wrote g a m → authors g m ≡ a ∷ []
  written one held m a (inl c) =
      post_author g m a graph c (λ b d. one g graph m (held (row.Link table.PostHasCreatorPerson m a) c 0 any (omega arith)) (held (row.Link table.CommentHasCreatorPerson m b) d 0 any (omega arith)))
  written one held m a (inr c) =
      comment_author g m a graph c (λ b d. one g graph m (held (row.Link table.PostHasCreatorPerson m b) d 0 any (omega arith)) (held (row.Link table.CommentHasCreatorPerson m a) c 0 any (omega arith)))

-- ---- tables that share their keys with no other

pub sites : (u : Table) → sharing u ≡ table.OrganisationIsLocatedInPlace → u ≡ table.OrganisationIsLocatedInPlace
sites table.OrganisationIsLocatedInPlace e = refl
sites u e = absurd cc
