-- What other crates may cite of this one: what a read looks up in a graph, and what it finds along a walk.
pub use Rattle.snb_read_lookups.proofs.Moves.{answers_moved, filter_push, joined_push}
use Rattle.std.proofs.Common.{◌≡◌, ◌⊎◌, ℕ, min, max, Bool, true, false, List, [], ◌∷◌, refl, sym, ap, ◌∙◌, subst, inl, inr, arith}
use Rattle.std.proofs.lemmas.Bool.{cases_lt}
use Rattle.std.proofs.lemmas.List.Elements.{All-contains, All-contains_itself, All-weaker}
use Rattle.std.specs.List.{All, Contains}
use Rattle.snb_schema.specs.declared.column.Value.TheVariants.{NoId}
use Rattle.snb_schema.specs.declared.layout.Shape.TheVariants as shapes
use Rattle.snb_schema.specs.declared.nodes.Comment.{Comment}
use Rattle.snb_schema.specs.declared.nodes.Forum.{Forum}
use Rattle.snb_schema.specs.declared.nodes.Post.{Post}
use Rattle.snb_schema.specs.declared.person.Person.{Person}
use Rattle.snb_schema.specs.declared.refusal.Missing.{Missing}
use Rattle.snb_schema.specs.declared.row.Row.{Row}
use Rattle.snb_schema.specs.declared.row.Row.TheVariants as row
use Rattle.snb_schema.specs.declared.table.Kind.TheVariants as kinds
use Rattle.snb_schema.specs.declared.table.Table.{Table}
use Rattle.snb_schema.specs.declared.table.Table.TheVariants as table
use Rattle.snb_schema.specs.Layouts.{shape}
use Rattle.snb_schema.specs.RowKeys.{RowKey, node_key, row_key, sharing}
use Rattle.snb_schema.specs.RowValues.{row_shape, table_of}
use Rattle.snb_schema.specs.TableRows.{IsTableRow}
use Rattle.snb_graph_rows.specs.Keyed.{key_table}
use Rattle.snb_graph_integrity.specs.SoundLaws.{HasOneEdge, MessagesAreOfOneKind, NumbersFit}
use Rattle.snb_graph_model.specs.Graphs.{HasKey, IsGraph}
use Rattle.snb_graph_model.specs.Messages.{Wrote, HasMessage}
use Rattle.snb_graph_model.specs.Soundness.{HoldsRefs}
use Rattle.snb_graph_model.proofs.Laws.{comment_author, comment_only, container_only, end_only, forum_only, friend_tells, friend_there, friend_told, Friendship, friendship_rises, person_only, post_author, post_only, Sent, sent_there}
use Rattle.snb_graph_model.specs.Around.{containers, friends, is_friend, messages, persons, with_id}
use Rattle.snb_graph_model.specs.RowParts.{Message, or_else}
use Rattle.snb_read_model.specs.Distance.{IsPerson, IsWithin, FriendPath}
use Rattle.snb_read_lookups.specs.Lookups.{IsCellNumber, IsOnlyAuthor, IsOnlyCity, IsOnlyForum, IsOnlyMessage, IsOnlyModerator, IsOnlyPerson}
use Rattle.snb_read_lookups.specs.Found.{IsFriendFound, IsMessageFound}
use Rattle.std.specs.Ordering.{flip_args, nat_cmp, on, then_cmp}
use Rattle.std.proofs.lemmas.Cmp.{back_total, nat_cmp_total, on_total, then_total}
use Rattle.std.specs.Cmp.{IsTotalOrder}
use Rattle.std.specs.declared.cmp.Ordering.{Ordering}

-- any reference
pub any : ℕ × Missing
any = (0, record { kind = kinds.Person; id = 0 })

module _ (g : List Row) (graph : IsGraph g) where
  -- ---- nodes by their keys

  fit_of : (r : Row) → Contains g r → IsTableRow r
  fit_of r c = All-contains IsTableRow g r graph.of_tables c

  shape_at : (t : Table) (id : ℕ) (h : HasKey g (t, id, 0, [])) → row_shape h.it ≡ shape t
  shape_at t id h = (fit_of h.it h.held).shaped ∙ ap shape (sym (key_table h.it) ∙ ap (λ (k : RowKey). k.0) h.keyed)

  as_person : (r : Row) → row_shape r ≡ shapes.Person → (p : Person) × (r ≡ row.Person p)
  as_person (row.Person p) e = (p, refl)
  as_person r e = absurd cc

  as_post : (r : Row) → row_shape r ≡ shapes.Post → (q : Post) × (r ≡ row.Post q)
  as_post (row.Post q) e = (q, refl)
  as_post r e = absurd cc

  as_comment : (r : Row) → row_shape r ≡ shapes.Comment → (m : Comment) × (r ≡ row.Comment m)
  as_comment (row.Comment m) e = (m, refl)
  as_comment r e = absurd cc

  pub person_at : (id : ℕ) → IsPerson g id → (p : Person) × Contains g (row.Person p) × (p.id ≡ id)
  person_at id h =
      let (p, is) = as_person h.it (shape_at table.Person id h) in
      (p, subst (Contains g) is h.held, ap (λ (r : Row). (row_key r).1) (sym is) ∙ ap (λ (k : RowKey). k.1) h.keyed)

  pub post_at : (id : ℕ) → HasKey g (node_key kinds.Post id) → (q : Post) × Contains g (row.Post q) × (q.id ≡ id)
  post_at id h =
      let (q, is) = as_post h.it (shape_at table.Post id h) in
      (q, subst (Contains g) is h.held, ap (λ (r : Row). (row_key r).1) (sym is) ∙ ap (λ (k : RowKey). k.1) h.keyed)

  pub comment_at : (id : ℕ) → HasKey g (node_key kinds.Comment id) → (m : Comment) × Contains g (row.Comment m) × (m.id ≡ id)
  comment_at id h =
      let (m, is) = as_comment h.it (shape_at table.Comment id h) in
      (m, subst (Contains g) is h.held, ap (λ (r : Row). (row_key r).1) (sym is) ∙ ap (λ (k : RowKey). k.1) h.keyed)

  -- ---- nodes that are found

  pub found_person : NumbersFit → (id : ℕ) (p : Person) → (p.id ≡ id) × Contains g (row.Person p) → IsOnlyPerson g id p
  found_person fit id p (named, c) =
      let all = fit g graph (row.Person p) c in
      record {
        only = subst (λ n. persons g n ≡ p ∷ []) named (person_only g p graph c);
        named = named;
        id_fits = all 0 NoId (omega arith);
        birthday_fits = all 4 NoId (omega arith);
        date_fits = all 5 NoId (omega arith);
      }

  pub found_post : NumbersFit → (id : ℕ) (q : Post) → (q.id ≡ id) × Contains g (row.Post q) → IsOnlyMessage g id q.creation_date (or_else q.content q.image_file)
  found_post fit id q (named, c) =
      let all = fit g graph (row.Post q) c in
      let number : IsCellNumber q.id = all 0 NoId (omega arith) in
      record {
        only = subst (λ n. with_id g n ≡ (record { id = n; date = q.creation_date; content = or_else q.content q.image_file }) ∷ []) named (post_only g q graph c);
        held = inl (record { it = row.Post q; held = c; keyed = ap (node_key kinds.Post) named });
        id_fits = subst IsCellNumber named number;
        date_fits = all 2 NoId (omega arith);
      }

  pub found_comment : NumbersFit → (id : ℕ) (m : Comment) → (m.id ≡ id) × Contains g (row.Comment m) → IsOnlyMessage g id m.creation_date m.content
  found_comment fit id m (named, c) =
      let all = fit g graph (row.Comment m) c in
      let number : IsCellNumber m.id = all 0 NoId (omega arith) in
      record {
        only = subst (λ n. with_id g n ≡ (record { id = n; date = m.creation_date; content = m.content }) ∷ []) named (comment_only g m graph c);
        held = inr (record { it = row.Comment m; held = c; keyed = ap (node_key kinds.Comment) named });
        id_fits = subst IsCellNumber named number;
        date_fits = all 1 NoId (omega arith);
      }

  -- what a message shows
  pub shows : NumbersFit → (m : ℕ) → HasMessage g m → (x : Message) × (with_id g m ≡ x ∷ [])
  shows fit m (inl h) = (let (q, c, id) = post_at m h in (_, (found_post fit m q (id, c)).only))
  shows fit m (inr h) = (let (q, c, id) = comment_at m h in (_, (found_comment fit m q (id, c)).only))

  pub found_forum : NumbersFit → (post id : ℕ) (f : Forum) → (f.id ≡ id) × Contains g (row.Forum f) → containers g post ≡ id ∷ [] → IsOnlyForum g post f
  found_forum fit post id f (named, c) inside = record {
    inside = inside ∙ ap (λ (n : ℕ). n ∷ []) (sym named);
    only = forum_only g f graph c;
    held = record { it = row.Forum f; held = c; keyed = refl };
    fits = fit g graph (row.Forum f) c 0 NoId (omega arith);
  }

  -- ---- authors

  pub post_written : MessagesAreOfOneKind → HoldsRefs g → (m a : ℕ) → Contains g (row.Link table.PostHasCreatorPerson m a) → IsOnlyAuthor g m a
  post_written one held m a c = record {
    only = post_author g m a graph c (λ b d. one g graph m (held (row.Link table.PostHasCreatorPerson m a) c 0 any (omega arith)) (held (row.Link table.CommentHasCreatorPerson m b) d 0 any (omega arith)));
    held = held (row.Link table.PostHasCreatorPerson m a) c 1 any (omega arith);
  }

  pub comment_written : MessagesAreOfOneKind → HoldsRefs g → (m a : ℕ) → Contains g (row.Link table.CommentHasCreatorPerson m a) → IsOnlyAuthor g m a
  comment_written one held m a c = record {
    only = comment_author g m a graph c (λ b d. one g graph m (held (row.Link table.PostHasCreatorPerson m b) d 0 any (omega arith)) (held (row.Link table.CommentHasCreatorPerson m a) c 0 any (omega arith)));
    held = held (row.Link table.CommentHasCreatorPerson m a) c 1 any (omega arith);
  }

  pub written : MessagesAreOfOneKind → HoldsRefs g → (m a : ℕ) → Wrote g a m → IsOnlyAuthor g m a
  written one held m a (inl c) = post_written one held m a c
  written one held m a (inr c) = comment_written one held m a c

  -- ---- edges that nodes must have

  pub edge_key_held : (edge : Table) (id : ℕ) → sharing edge ≡ edge → ((u : Table) → sharing u ≡ edge → u ≡ edge) → HasOneEdge g edge id → HasKey g (edge, id, 0, [])
  edge_key_held edge id own alone has =
      let t = alone (row_key has.it).0 (ap (λ (k : RowKey). k.0) has.fills ∙ own) in
      record { it = has.it; held = has.held; keyed = λ i. (t i, (has.fills i).1, (has.fills i).2, (has.fills i).3) }

  pub found_city : NumbersFit → (p c : ℕ) → Contains g (row.Link table.PersonIsLocatedInPlace p c) → IsOnlyCity g p c
  found_city fit p c held = record {
    only = end_only g table.PersonIsLocatedInPlace p c graph refl held;
    fits = fit g graph (row.Link table.PersonIsLocatedInPlace p c) held 1 NoId (omega arith);
  }

  pub found_container : HoldsRefs g → (forum post : ℕ) → Contains g (row.Link table.ForumContainerOfPost forum post) → (containers g post ≡ forum ∷ []) × HasKey g (node_key kinds.Forum forum)
  found_container held forum post c = (container_only g forum post graph c, held (row.Link table.ForumContainerOfPost forum post) c 0 any (omega arith))

  pub found_moderator : HoldsRefs g → (f m : ℕ) → Contains g (row.Link table.ForumHasModeratorPerson f m) → IsOnlyModerator g f m
  found_moderator held f m c = record {
    only = end_only g table.ForumHasModeratorPerson f m graph refl c;
    held = held (row.Link table.ForumHasModeratorPerson f m) c 1 any (omega arith);
  }

  -- ---- friends

  as_dated : (r : Row) (t : Table) → table_of r ≡ t → shape t ≡ shapes.Dated → IsTableRow r → (from : ℕ) × (to : ℕ) × (date : ℕ) × (r ≡ row.Dated t from to date)
  as_dated (row.Dated u from to date) t of is fit = (from, to, date, ap (λ x. row.Dated x from to date) of)
  as_dated r t of is fit = let e = fit.shaped ∙ ap shape of ∙ is in absurd cc

  pub key_befriends : (a b : ℕ) → HasKey g (table.PersonKnowsPerson, min a b, max a b, []) → is_friend g a b ≡ true
  key_befriends a b h =
      let (from, to, date, is) = as_dated h.it table.PersonKnowsPerson (sym (key_table h.it) ∙ ap (λ (k : RowKey). k.0) h.keyed) refl (fit_of h.it h.held) in
      let first : from ≡ min a b = ap (λ (r : Row). (row_key r).1) (sym is) ∙ ap (λ (k : RowKey). k.1) h.keyed in
      let second : to ≡ max a b = ap (λ (r : Row). (row_key r).2) (sym is) ∙ ap (λ (k : RowKey). k.2) h.keyed in
      let c : Contains g (row.Dated table.PersonKnowsPerson (min a b) (max a b) date) = subst (Contains g) (is ∙ (λ i. row.Dated table.PersonKnowsPerson (first i) (second i) date)) h.held in
      elim (cases_lt a b) as (λ _. is_friend g a b ≡ true) [
        | inl less ↦ (let low : min a b ≡ a = omega (arith, less) in let high : max a b ≡ b = omega (arith, less) in
            friend_tells g a b date (inl (subst (Contains g) (λ i. row.Dated table.PersonKnowsPerson (low i) (high i) date) c)))
        | inr more ↦ (let low : min a b ≡ b = omega (arith, more) in let high : max a b ≡ a = omega (arith, more) in
            friend_tells g a b date (inr (subst (Contains g) (λ i. row.Dated table.PersonKnowsPerson (low i) (high i) date) c)))
      ]

  pub befriends_key : (a b : ℕ) → is_friend g a b ≡ true → HasKey g (table.PersonKnowsPerson, min a b, max a b, [])
  befriends_key a b e = (let (d, f) = friend_told g a b e in by d f)
    where
      by : (d : ℕ) → Contains g (row.Dated table.PersonKnowsPerson a b d) ⊎ Contains g (row.Dated table.PersonKnowsPerson b a d) → HasKey g (table.PersonKnowsPerson, min a b, max a b, [])
      by d (inl c) =
          let less = friendship_rises g a b d graph c in
          let low : a ≡ min a b = omega (arith, less) in
          let high : b ≡ max a b = omega (arith, less) in
          record { it = row.Dated table.PersonKnowsPerson a b d; held = c; keyed = λ i. (table.PersonKnowsPerson, low i, high i, []) }
      by d (inr c) =
          let less = friendship_rises g b a d graph c in
          let low : b ≡ min a b = omega (arith, less) in
          let high : a ≡ max a b = omega (arith, less) in
          record { it = row.Dated table.PersonKnowsPerson b a d; held = c; keyed = λ i. (table.PersonKnowsPerson, low i, high i, []) }

-- two tests that agree are one
pub same_test : (a b : Bool) → (a ≡ true → b ≡ true) → (b ≡ true → a ≡ true) → a ≡ b
same_test true b f h = sym (f refl)
same_test false true f h = h refl
same_test false false f h = refl

-- ---- what walks find

-- a message that is sent is held, and its numbers fit cells
pub message_found : (g : List Row) → IsGraph g → NumbersFit → (p id date : ℕ) → Sent g p id date → IsMessageFound g (id, date)
message_found g graph fit p id date (inl (link, (q, c, is, at))) =
    let all = fit g graph (row.Post q) c in
    let number : IsCellNumber q.id = all 0 NoId (omega arith) in
    let moment : IsCellNumber q.creation_date = all 2 NoId (omega arith) in
    record { held = inl (record { it = row.Post q; held = c; keyed = ap (node_key kinds.Post) is }); id_fits = subst IsCellNumber is number; date_fits = subst IsCellNumber at moment }
message_found g graph fit p id date (inr (link, (m, c, is, at))) =
    let all = fit g graph (row.Comment m) c in
    let number : IsCellNumber m.id = all 0 NoId (omega arith) in
    let moment : IsCellNumber m.creation_date = all 1 NoId (omega arith) in
    record { held = inr (record { it = row.Comment m; held = c; keyed = ap (node_key kinds.Comment) is }); id_fits = subst IsCellNumber is number; date_fits = subst IsCellNumber at moment }

-- a friend is held, and the numbers fit cells
pub friend_found : (g : List Row) → IsGraph g → NumbersFit → HoldsRefs g → (p id date : ℕ) → Friendship g p id date → IsFriendFound g (id, date)
friend_found g graph fit held p id date (inl c) =
    let all = fit g graph (row.Dated table.PersonKnowsPerson p id date) c in
    record { held = held (row.Dated table.PersonKnowsPerson p id date) c 1 any (omega arith); id_fits = all 1 NoId (omega arith); date_fits = all 2 NoId (omega arith) }
friend_found g graph fit held p id date (inr c) =
    let all = fit g graph (row.Dated table.PersonKnowsPerson id p date) c in
    record { held = held (row.Dated table.PersonKnowsPerson id p date) c 0 any (omega arith); id_fits = all 0 NoId (omega arith); date_fits = all 2 NoId (omega arith) }

-- ---- all that walks find

module _ (g : List Row) (graph : IsGraph g) (fit : NumbersFit) where
  -- a person who is held, and a number that fits a cell
  pub person_fits : (id : ℕ) → IsPerson g id → IsCellNumber id
  person_fits id h =
      let (p, c, named) = person_at g graph id h in
      subst IsCellNumber named (found_person g graph fit id p (named, c)).id_fits

  -- the messages of a person
  pub messages_found : (p : ℕ) → All (IsMessageFound g) (messages g p)
  messages_found p =
      All-weaker (Contains (messages g p)) (IsMessageFound g) (λ m c. message_found g graph fit p m.0 m.1 (sent_there g p m.0 m.1 c)) (messages g p) (All-contains_itself (messages g p))

  -- the friends of a person
  pub friends_found : HoldsRefs g → (p : ℕ) → All (λ f. IsPerson g f.0) (friends g p)
  friends_found held p =
      All-weaker (Contains (friends g p)) (λ f. IsPerson g f.0) (λ f c. (friend_found g graph fit held p f.0 f.1 (friend_there g p f.0 f.1 c)).held) (friends g p) (All-contains_itself (friends g p))

-- where a walk ends a person is held
pub walk_held : (g : List Row) (a b n : ℕ) → FriendPath g a b n → IsPerson g b
walk_held g _ _ _ (FriendPath.stay a h) = h
walk_held g _ _ _ (FriendPath.step a b c n w e h) = h

-- the persons near one
pub near_found : (g : List Row) (start steps : ℕ) (near : List (ℕ × ℕ)) → IsWithin g start steps near → All (λ p. IsPerson g p.0) near
near_found g start steps near is =
    All-weaker (Contains near) (λ p. IsPerson g p.0) (λ p c. walk_held g start p.0 p.1 ((is.exact p.0 p.1).0 c).0.walk) near (All-contains_itself near)

-- ---- an order

-- dates falling, ids rising
abbrev pub recent_first : ℕ × ℕ → ℕ × ℕ → Ordering
recent_first = then_cmp (flip_args (on (λ (p : ℕ × ℕ). p.1) nat_cmp)) (on (λ (p : ℕ × ℕ). p.0) nat_cmp)

pub recent_total : IsTotalOrder recent_first
recent_total = then_total (back_total (on_total (λ (p : ℕ × ℕ). p.1) nat_cmp_total)) (on_total (λ (p : ℕ × ℕ). p.0) nat_cmp_total)
