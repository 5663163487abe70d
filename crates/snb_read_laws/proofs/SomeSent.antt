-- The complex reads of messages and likes have an answer: IC2, IC7, IC8 and, with those near, IC9.
use Rattle.std.proofs.Common.{ℕ, Bool, List, [], ◌∷◌, refl, subst, filter, inl, inr, map, nat_le, not, arith}
use Rattle.std.specs.List.{Contains, flat_map, list_any}
use Rattle.snb_schema.specs.declared.row.Row.{Row}
use Rattle.snb_schema.specs.declared.row.Row.TheVariants as row
use Rattle.snb_schema.specs.declared.table.Table.TheVariants as table
use Rattle.snb_graph_integrity.specs.SoundLaws.{MessagesAreOfOneKind, MessagesHaveOneAuthor}
use Rattle.snb_graph_model.specs.Graphs.{IsGraph}
use Rattle.snb_graph_model.specs.Messages.{HasMessage}
use Rattle.snb_graph_model.specs.Soundness.{Sound}
use Rattle.snb_read_order.specs.Laws.{SomeFirst}
use Rattle.snb_graph_model.proofs.Laws.{like_there}
use Rattle.snb_read_model.specs.Cells.{ByteCell}
use Rattle.snb_read_model.specs.declared.like.Like.{Like}
use Rattle.snb_read_model.specs.declared.sent.Sent.{Sent}
use Rattle.snb_graph_model.specs.Around.{friends, likes, messages, replies}
use Rattle.snb_read_model.specs.MessageReads.{Ic2Answer, Ic7Answer, Ic8Answer, ShowsReply, IsLiked, IsSent, beats, best_likes, newest_first, liked, messages_of}
use Rattle.snb_read_model.specs.Distance.{IsPerson}
use Rattle.snb_read_model.specs.Order.{ReadAnswers, Falling, FirstRows, Rising}
use Rattle.snb_read_laws.proofs.Lookups.{any, comment_at, message_at, person_at}
use Rattle.snb_read_laws.proofs.SomeAnswers.{some_answers}
use Rattle.snb_read_laws.proofs.SomeShort.{friend_held, reply_held, sent_held, some_author}
use Rattle.snb_base.proofs.Laws.{in_filter, in_flat, in_map}

module _ (g : List Row) (graph : IsGraph g) (sound : Sound g) where
  -- who likes a message is held
  liker_held : (m : ℕ) (l : ℕ × ℕ) → Contains (likes g m) l → IsPerson g l.0
  liker_held m l c = elim (like_there g m l.0 l.1 c) [
    | inl a ↦ sound.held (row.Dated table.PersonLikesPost l.0 m l.1) a 0 any (omega arith)
    | inr a ↦ sound.held (row.Dated table.PersonLikesComment l.0 m l.1) a 0 any (omega arith)
  ]

  like_held : (person : ℕ) (l : Like) → Contains (liked g person) l → IsPerson g l.person × HasMessage g l.message
  like_held person l c =
      let (m, there, d) = in_flat (λ (m : ℕ × ℕ). map {A = ℕ × ℕ} {B = Like} (λ l. record { person = l.0; date = l.1; message = m.0; sent = m.1 }) (likes g m.0)) (messages g person) l c in
      let (k, held, is) = in_map {X = ℕ × ℕ} {Y = Like} (λ l. record { person = l.0; date = l.1; message = m.0; sent = m.1 }) (likes g m.0) l d in
      subst (λ (z : Like). IsPerson g z.person × HasMessage g z.message) is (liker_held m.0 k held, sent_held g graph sound person m there)

  -- the messages of persons who are held
  sender_held : (passes : ℕ → Bool) (ps : List (ℕ × ℕ)) (s : Sent) → ((p : ℕ × ℕ) → Contains ps p → IsPerson g p.0) → Contains (messages_of g passes ps) s → IsPerson g s.person × HasMessage g s.message
  sender_held passes ps s all c =
      let (p, there, d) = in_flat (λ (p : ℕ × ℕ). map {A = ℕ × ℕ} {B = Sent} (λ m. record { person = p.0; message = m.0; date = m.1 }) (filter (λ (m : ℕ × ℕ). passes m.1) (messages g p.0))) ps s c in
      let (m, kept, is) = in_map {X = ℕ × ℕ} {Y = Sent} (λ m. record { person = p.0; message = m.0; date = m.1 }) (filter (λ (m : ℕ × ℕ). passes m.1) (messages g p.0)) s d in
      subst (λ (z : Sent). IsPerson g z.person × HasMessage g z.message) is
      (all p there, sent_held g graph sound p.0 m ((in_filter (λ (m : ℕ × ℕ). passes m.1) (messages g p.0) m).0 kept).0)

  module _ (some : SomeFirst (List ByteCell)) where
    pub some_latest : (passes : ℕ → Bool) (ps : List (ℕ × ℕ)) → ((p : ℕ × ℕ) → Contains ps p → IsPerson g p.0)
        → (answer : List (List ByteCell)) × ReadAnswers (messages_of g passes ps) (IsSent g) newest_first (FirstRows 20) answer
    some_latest passes ps all = some_answers some (messages_of g passes ps) (IsSent g) newest_first (FirstRows 20) (λ s c.
        (let (who, held) = sender_held passes ps s all c in
        let (p, is, named) = person_at g graph s.person who in
        let (m, sent) = message_at g graph s.message held in
        (_, record { person = p; held = is; message = m; sent = sent; is = refl })))

    pub some_ic2 : (person max_date : ℕ) → (answer : List (List ByteCell)) × Ic2Answer g person max_date answer
    some_ic2 person max_date = some_latest (λ date. nat_le date max_date) (friends g person) (friend_held g graph sound person)

    pub some_ic7 : (person : ℕ) → (answer : List (List ByteCell)) × Ic7Answer g person answer
    some_ic7 person = some_answers some (best_likes g person) (IsLiked g person) (Falling 4 ∷ Rising 1 ∷ []) (FirstRows 20) (λ l c.
        (let (who, held) = like_held person l ((in_filter (λ (z : Like). not (list_any (λ w. beats w z) (liked g person))) (liked g person) l).0 c).0 in
        let (p, is, named) = person_at g graph l.person who in
        let (m, sent) = message_at g graph l.message held in
        (_, record { person = p; held = is; message = m; sent = sent; is = refl })))

    pub some_ic8 : MessagesAreOfOneKind → MessagesHaveOneAuthor → (person : ℕ) → (answer : List (List ByteCell)) × Ic8Answer g person answer
    some_ic8 one author person = some_answers some (flat_map (λ (m : ℕ × ℕ). replies g m.0) (messages g person)) (ShowsReply g) (Falling 4 ∷ Rising 5 ∷ []) (FirstRows 20) (λ c d.
        (let (m, there, e) = in_flat (λ (m : ℕ × ℕ). replies g m.0) (messages g person) c d in
        let (held, parent) = reply_held g graph sound m.0 c e in
        let (comment, is) = comment_at g graph c.0 held in
        let (p, wrote) = some_author g graph sound one author c.0 (inr held) in
        (_, record { author = p; wrote = wrote; comment = comment; held = is; is = refl })))
