-- The short reads have an answer.
use Rattle.std.proofs.Common.{◌≡◌, ℕ, List, [], ◌∷◌, refl, sym, subst, inl, inr, arith}
use Rattle.std.specs.List.{Contains}
use Rattle.snb_schema.specs.declared.nodes.Forum.{Forum}
use Rattle.snb_schema.specs.declared.person.Person.{Person}
use Rattle.snb_schema.specs.declared.row.Row.{Row}
use Rattle.snb_schema.specs.declared.row.Row.TheVariants as row
use Rattle.snb_schema.specs.declared.table.Kind.TheVariants as kinds
use Rattle.snb_schema.specs.declared.table.Table.TheVariants as table
use Rattle.snb_schema.specs.RowKeys.{node_key}
use Rattle.snb_graph_integrity.specs.SoundLaws.{MessagesAreOfOneKind, MessagesHaveOneAuthor, MessagesHaveOneRoot, RequiredEdgesAreThere}
use Rattle.snb_graph_model.specs.Graphs.{HasKey, IsGraph}
use Rattle.snb_graph_model.specs.Messages.{HasMessage, IsRoot}
use Rattle.snb_graph_model.specs.Soundness.{Sound}
use Rattle.snb_read_order.specs.Laws.{SomeFirst}
use Rattle.snb_graph_model.proofs.Laws.{city_alone, container_alone, container_only, end_only, friend_there, moderator_alone, replied_there, sent_there}
use Rattle.snb_read_model.specs.Cells.{ByteCell}
use Rattle.snb_graph_model.specs.Around.{containers, ends, forums, friends, messages, persons, replies, with_id}
use Rattle.snb_read_model.specs.Distance.{IsPerson}
use Rattle.snb_read_model.specs.Order.{Falling, FirstRows, Rising, AllRows}
use Rattle.snb_read_model.specs.ShortReads.{Is1Answer, Is2Answer, Is3Answer, Is4Answer, Is5Answer, Is6Answer, Is7Answer, IsAuthor, IsCreator, IsForum, IsFriend, IsProfile, IsRecent, IsReplyTo}
use Rattle.snb_read_laws.proofs.Lookups.{any, comment_at, forum_at, link_at, link_of, message_at, message_shown, person_at, person_held, written}
use Rattle.snb_read_laws.proofs.SomeAnswers.{some_answers}

module _ (g : List Row) (graph : IsGraph g) (sound : Sound g) where
  -- ---- what is held

  -- a friend is
  pub friend_held : (p : ℕ) (f : ℕ × ℕ) → Contains (friends g p) f → IsPerson g f.0
  friend_held p f c = elim (friend_there g p f.0 f.1 c) [
    | inl d ↦ sound.held (row.Dated table.PersonKnowsPerson p f.0 f.1) d 1 any (omega arith)
    | inr d ↦ sound.held (row.Dated table.PersonKnowsPerson f.0 p f.1) d 0 any (omega arith)
  ]

  -- a message that a person sent is
  pub sent_held : (p : ℕ) (m : ℕ × ℕ) → Contains (messages g p) m → HasMessage g m.0
  sent_held p m c = elim (sent_there g p m.0 m.1 c) [
    | inl (link, rest) ↦ inl (sound.held (row.Link table.PostHasCreatorPerson m.0 p) link 0 any (omega arith))
    | inr (link, rest) ↦ inr (sound.held (row.Link table.CommentHasCreatorPerson m.0 p) link 0 any (omega arith))
  ]

  -- and so are a reply and the message to which it replies
  pub reply_held : (m : ℕ) (c : ℕ × ℕ) → Contains (replies g m) c → HasKey g (node_key kinds.Comment c.0) × HasMessage g m
  reply_held m c d = elim (replied_there g m c.0 c.1 d).0 [
    | inl link ↦ (
      sound.held (row.Link table.CommentReplyOfPost c.0 m) link 0 any (omega arith),
      inl (sound.held (row.Link table.CommentReplyOfPost c.0 m) link 1 any (omega arith)),
    )
    | inr link ↦ (
      sound.held (row.Link table.CommentReplyOfComment c.0 m) link 0 any (omega arith),
      inr (sound.held (row.Link table.CommentReplyOfComment c.0 m) link 1 any (omega arith)),
    )
  ]

  pub lives : RequiredEdgesAreThere → (p : ℕ) → IsPerson g p → (c : ℕ) × Contains g (row.Link table.PersonIsLocatedInPlace p c)
  lives required p h =
      link_at g graph table.PersonIsLocatedInPlace p refl city_alone refl refl (required g graph sound table.Person table.PersonIsLocatedInPlace (2, omega arith, refl) p h)

  pub city_only : (p c : ℕ) → Contains g (row.Link table.PersonIsLocatedInPlace p c) → ends g table.PersonIsLocatedInPlace p ≡ c ∷ []
  city_only p c link = end_only g table.PersonIsLocatedInPlace p c graph refl link

  -- a message's author
  pub some_author : MessagesAreOfOneKind → MessagesHaveOneAuthor → (m : ℕ) → HasMessage g m → (p : Person) × IsAuthor g m p
  some_author one author m h =
      let a = author g graph sound m h in
      let (p, is, named) = person_at g graph a.author a.held in
      (p, record { id = a.author; created = written g graph one sound.held m a.author a.wrote; held = is })

  -- the forum that has a post
  container_of : RequiredEdgesAreThere → (post : ℕ) → HasKey g (node_key kinds.Post post) → (from : ℕ) × Contains g (row.Link table.ForumContainerOfPost from post)
  container_of required post h =
      let edge = required g graph sound table.Post table.ForumContainerOfPost (4, omega arith, refl) post h in
      let (from, to, link, same) = link_of g graph table.ForumContainerOfPost post edge.it edge.held refl container_alone refl edge.fills in
      (from, subst (λ n. Contains g (row.Link table.ForumContainerOfPost from n)) same link)

  abbrev Inside : ℕ → Forum → Type 0
  Inside post f = (containers g post ≡ f.id ∷ []) × (forums g f.id ≡ f ∷ []) × HasKey g (node_key kinds.Forum f.id)

  root_forum : (post from : ℕ) → Contains g (row.Link table.ForumContainerOfPost from post) → (f : Forum) × Inside post f
  root_forum post from link =
      let held : HasKey g (node_key kinds.Forum from) = sound.held (row.Link table.ForumContainerOfPost from post) link 0 any (omega arith) in
      let (f, is, named) = forum_at g graph from held in
      (f, renamed f from named (container_only g from post graph link, is, held))
    where
      renamed : (f : Forum) (id : ℕ) → f.id ≡ id → (containers g post ≡ id ∷ []) × (forums g id ≡ f ∷ []) × HasKey g (node_key kinds.Forum id) → Inside post f
      renamed f id named all = subst (λ n. (containers g post ≡ n ∷ []) × (forums g n ≡ f ∷ []) × HasKey g (node_key kinds.Forum n)) (sym named) all

  -- and the forum's moderator
  moderator_of : RequiredEdgesAreThere → (forum : ℕ) → HasKey g (node_key kinds.Forum forum) → (to : ℕ) × Contains g (row.Link table.ForumHasModeratorPerson forum to)
  moderator_of required forum h =
      link_at g graph table.ForumHasModeratorPerson forum refl moderator_alone refl refl (required g graph sound table.Forum table.ForumHasModeratorPerson (3, omega arith, refl) forum h)

  abbrev Moderates : ℕ → Person → Type 0
  Moderates forum p = (ends g table.ForumHasModeratorPerson forum ≡ p.id ∷ []) × (persons g p.id ≡ p ∷ [])

  moderates : (forum who : ℕ) → Contains g (row.Link table.ForumHasModeratorPerson forum who) → (p : Person) × Moderates forum p
  moderates forum who link =
      let (p, is, named) = person_at g graph who (sound.held (row.Link table.ForumHasModeratorPerson forum who) link 1 any (omega arith)) in
      (p, renamed p who named (end_only g table.ForumHasModeratorPerson forum who graph refl link, is))
    where
      renamed : (p : Person) (id : ℕ) → p.id ≡ id → (ends g table.ForumHasModeratorPerson forum ≡ id ∷ []) × (persons g id ≡ p ∷ []) → Moderates forum p
      renamed p id named all = subst (λ n. (ends g table.ForumHasModeratorPerson forum ≡ n ∷ []) × (persons g n ≡ p ∷ [])) (sym named) all

  module _ (some : SomeFirst (List ByteCell)) where
    pub some_is1 : RequiredEdgesAreThere → (person : ℕ) → (answer : List (List ByteCell)) × Is1Answer g person answer
    some_is1 required person = some_answers some (persons g person) (IsProfile g) [] AllRows (λ p c.
        (let (city, link) = lives required p.id (person_held g person p c) in (_, record { city = city; lives = city_only p.id city link; is = refl })))

    pub some_is3 : (person : ℕ) → (answer : List (List ByteCell)) × Is3Answer g person answer
    some_is3 person = some_answers some (friends g person) (IsFriend g) (Falling 4 ∷ Rising 1 ∷ []) AllRows (λ f c.
        (let (p, is, named) = person_at g graph f.0 (friend_held person f c) in (_, record { friend = p; held = is; is = refl })))

    pub some_is4 : (message : ℕ) → (answer : List (List ByteCell)) × Is4Answer g message answer
    some_is4 message = some_answers some (with_id g message) _ [] AllRows (λ m c. (_, refl))

    module _ (one : MessagesAreOfOneKind) (author : MessagesHaveOneAuthor) where
      pub some_is5 : (message : ℕ) → (answer : List (List ByteCell)) × Is5Answer g message answer
      some_is5 message = some_answers some (with_id g message) (λ m. IsCreator g m.id) [] AllRows (λ m c.
          (let (p, wrote) = some_author one author m.id (message_shown g message m c) in (_, record { author = p; wrote = wrote; is = refl })))

      pub some_is7 : (message : ℕ) → (answer : List (List ByteCell)) × Is7Answer g message answer
      some_is7 message = some_answers some (replies g message) (IsReplyTo g message) (Falling 3 ∷ Rising 4 ∷ Rising 1 ∷ []) AllRows (λ c d.
          (let (held, parent) = reply_held message c d in
          let (comment, is) = comment_at g graph c.0 held in
          let (p, wrote) = some_author one author c.0 (inr held) in
          let (q, answered) = some_author one author message parent in
          (_, record { comment = comment; held = is; author = p; wrote = wrote; answered = answered.id; created = answered.created; is = refl })))

      module _ (roots : MessagesHaveOneRoot) where
        pub some_is2 : (person : ℕ) → (answer : List (List ByteCell)) × Is2Answer g person answer
        some_is2 person = some_answers some (messages g person) (IsRecent g) (Falling 3 ∷ Falling 1 ∷ []) (FirstRows 10) (λ m c.
            (let held = sent_held person m c in
            let (message, is) = message_at g graph m.0 held in
            let root = roots g graph sound m.0 held in
            let (p, wrote) = some_author one author root.post (inl root.held) in
            (_, record { message = message; held = is; root = root.post; from = root.root; author = p; wrote = wrote; is = refl })))

        forum_shown : RequiredEdgesAreThere → (m : ℕ) → HasMessage g m → (row : List ByteCell) × IsForum g m row
        forum_shown required m h =
            let root = roots g graph sound m h in
            let (from, edge) = container_of required root.post root.held in
            let f = root_forum root.post from edge in
            let (who, leads) = moderator_of required f.0.id f.1.2 in
            let p = moderates f.0.id who leads in
            shown root.post root.root f.0 f.1 p.0 p.1
          where
            shown : (post : ℕ) → IsRoot g m post → (f : Forum) → Inside post f → (p : Person) → Moderates f.id p → (row : List ByteCell) × IsForum g m row
            shown post from f inside p known = (
              _,
              record {
                root = post;
                from = from;
                forum = f;
                inside = inside.0;
                held = inside.1;
                moderator = p;
                moderates = known.0;
                known = known.1;
                is = refl;
              },
            )

        pub some_is6 : RequiredEdgesAreThere → (message : ℕ) → (answer : List (List ByteCell)) × Is6Answer g message answer
        some_is6 required message = some_answers some (with_id g message) (λ m. IsForum g m.id) [] AllRows (λ m c. forum_shown required m.id (message_shown g message m c))
