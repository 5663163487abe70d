-- The complex reads of messages and likes have one answer: IC2, IC7, IC8 and IC9.
use Rattle.std.proofs.Common.{◌≡◌, ◌∙◌, ℕ, ◌<◌, Bool, true, false, ◌||◌, List, [], ◌∷◌, ap, filter, inl, inr, map, nat_le, nat_lt, not, refl, subst, sym}
use Rattle.std.proofs.lemmas.Bool.{both_ways, cases_order, eq-eqb, lt-ltb, not-true}
use Rattle.std.specs.List.{Contains, flat_map, list_any}
use Rattle.snb_schema.specs.declared.row.Row.{Row}
use Rattle.snb_graph_model.specs.Graphs.{IsGraph}
use Rattle.snb_graph_model.specs.Soundness.{Sound}
use Rattle.snb_graph_integrity.specs.SoundLaws.{MessagesHaveOneAuthor}
use Rattle.snb_read_order.specs.Laws.{OneFirst}
use Rattle.snb_read_model.specs.declared.cell.Cell.TheVariants as cell
use Rattle.snb_read_model.specs.declared.like.Like.{Like}
use Rattle.snb_read_model.specs.declared.sent.Sent.{Sent}
use Rattle.snb_graph_model.specs.Around.{comments, friends, is_friend, likes, messages, persons, replies, with_id}
use Rattle.snb_graph_model.specs.RowParts.{Message}
use Rattle.snb_read_model.specs.Cells.{ByteCell, column, number_cell}
use Rattle.snb_read_model.specs.MessageReads.{Ic2Answer, Ic7Answer, Ic8Answer, Ic9Answer, ShowsReply, IsLiked, IsSent, beats, best_likes, newest_first, liked, messages_of, minutes}
use Rattle.snb_read_model.specs.Order.{ReadAnswers, Falling, FirstRows, Rising}
use Rattle.snb_read_laws.proofs.OneAnswers.{one_answers}
use Rattle.snb_read_laws.proofs.OneWithin.{one_within}
use Rattle.snb_read_laws.proofs.OneThings.{one_author, one_sender, sent_date}
use Rattle.snb_read_laws.proofs.Ties.{falling, rising, two_ties}
use Rattle.snb_base.proofs.Laws.{any_of, in_filter, in_flat, in_map, one_only}

-- ---- messages of persons

in_messages : (g : List Row) (passes : ℕ → Bool) (ps : List (ℕ × ℕ)) (s : Sent) → Contains (messages_of g passes ps) s → Contains (messages g s.person) (s.message, s.date)
in_messages g passes ps s c =
    let (p, there, d) = in_flat (λ (p : ℕ × ℕ). map {A = ℕ × ℕ} {B = Sent} (λ m. record { person = p.0; message = m.0; date = m.1 }) (filter (λ (m : ℕ × ℕ). passes m.1) (messages g p.0))) ps s c in
    let (m, kept, is) = in_map {X = ℕ × ℕ} {Y = Sent} (λ m. record { person = p.0; message = m.0; date = m.1 }) (filter (λ (m : ℕ × ℕ). passes m.1) (messages g p.0)) s d in
    subst (λ (z : Sent). Contains (messages g z.person) (z.message, z.date)) is ((in_filter (λ (m : ℕ × ℕ). passes m.1) (messages g p.0) m).0 kept).0

one_sent : (g : List Row) (m : Sent) (a b : List ByteCell) → IsSent g m a → IsSent g m b → a ≡ b
one_sent g m a b r s =
    let person : r.person ≡ s.person = one_only (persons g m.person) r.person s.person r.held s.held in
    let message : r.message ≡ s.message = one_only (with_id g m.message) r.message s.message r.sent s.sent in
    r.is ∙ (λ i. number_cell m.person ∷ cell.Words ((person i).first_name) ∷ cell.Words ((person i).last_name) ∷ number_cell m.message ∷ cell.Words ((message i).content) ∷ number_cell m.date ∷ []) ∙ sym s.is

module _ (first : OneFirst (List ByteCell)) (authors : MessagesHaveOneAuthor) (g : List Row) (graph : IsGraph g) (sound : Sound g) where
  one_latest : (passes : ℕ → Bool) (ps : List (ℕ × ℕ)) (a b : List (List ByteCell)) → ReadAnswers (messages_of g passes ps) (IsSent g) newest_first (FirstRows 20) a
      → ReadAnswers (messages_of g passes ps) (IsSent g) newest_first (FirstRows 20) b → a ≡ b
  one_latest passes ps = one_answers first (messages_of g passes ps) (IsSent g) newest_first (FirstRows 20) (one_sent g)
      (λ x y a b c d r s e.
      (let (dates, ids) = two_ties (Falling 6) (Rising 4) a b e in
      let date = falling 6 a b x.date y.date (ap (column 6) r.is) (ap (column 6) s.is) dates in
      let id = rising 4 a b x.message y.message (ap (column 4) r.is) (ap (column 4) s.is) ids in
      let sender = one_sender authors g graph sound x.person y.person y.message x.date y.date (subst (λ n. Contains (messages g x.person) (n, x.date)) id (in_messages g passes ps x c)) (in_messages g passes ps y d) in
      let same : x ≡ y = λ i. record { person = sender i; message = id i; date = date i } in
      one_sent g y a b (subst (λ (z : Sent). IsSent g z a) same r) s))

  pub one_ic2 : (person max_date : ℕ) (a b : List (List ByteCell)) → Ic2Answer g person max_date a → Ic2Answer g person max_date b → a ≡ b
  one_ic2 person max_date = one_latest (λ date. nat_le date max_date) (friends g person)

  pub one_ic9 : (person max_date : ℕ) (a b : List (List ByteCell)) → Ic9Answer g person max_date a → Ic9Answer g person max_date b → a ≡ b
  one_ic9 person max_date a b f h =
      let near = one_within g person 2 f.near h.near f.within h.within in
      one_latest (λ date. nat_lt date max_date) h.near a b (subst (λ (ps : List (ℕ × ℕ)). ReadAnswers (messages_of g (λ date. nat_lt date max_date) ps) (IsSent g) newest_first (FirstRows 20) a) near f.answers) h.answers

-- ---- replies to a person's messages

one_answered : (g : List Row) (c : ℕ × ℕ) (a b : List ByteCell) → ShowsReply g c a → ShowsReply g c b → a ≡ b
one_answered g c a b r s =
    let author = one_author g c.0 r.author s.author r.wrote s.wrote in
    let comment : r.comment ≡ s.comment = one_only (comments g c.0) r.comment s.comment r.held s.held in
    r.is ∙ (λ i. number_cell ((author i).id) ∷ cell.Words ((author i).first_name) ∷ cell.Words ((author i).last_name) ∷ number_cell c.1 ∷ number_cell c.0
    ∷ cell.Words ((comment i).content) ∷ []) ∙ sym s.is

pub one_ic8 : OneFirst (List ByteCell) → (g : List Row) (person : ℕ) (a b : List (List ByteCell)) → Ic8Answer g person a → Ic8Answer g person b → a ≡ b
one_ic8 first g person = one_answers first (flat_map (λ (m : ℕ × ℕ). replies g m.0) (messages g person)) (ShowsReply g) (Falling 4 ∷ Rising 5 ∷ []) (FirstRows 20) (one_answered g)
    (λ x y a b c d r s e.
    (let (dates, ids) = two_ties (Falling 4) (Rising 5) a b e in
    let date = falling 4 a b x.1 y.1 (ap (column 4) r.is) (ap (column 4) s.is) dates in
    let id = rising 5 a b x.0 y.0 (ap (column 5) r.is) (ap (column 5) s.is) ids in
    let same : x ≡ y = λ i. (id i, date i) in
    one_answered g y a b (subst (λ (z : ℕ × ℕ). ShowsReply g z a) same r) s))

-- ---- likes

-- a like is of a message of the person
in_liked : (g : List Row) (person : ℕ) (l : Like) → Contains (liked g person) l → Contains (messages g person) (l.message, l.sent)
in_liked g person l c =
    let (m, there, d) = in_flat (λ (m : ℕ × ℕ). map {A = ℕ × ℕ} {B = Like} (λ l. record { person = l.0; date = l.1; message = m.0; sent = m.1 }) (likes g m.0)) (messages g person) l c in
    let (k, held, is) = in_map {X = ℕ × ℕ} {Y = Like} (λ l. record { person = l.0; date = l.1; message = m.0; sent = m.1 }) (likes g m.0) l d in
    subst (λ (z : Like). Contains (messages g person) (z.message, z.sent)) is there

-- no like of the person's messages beats a best one
best_of : (g : List Row) (person : ℕ) (k l : Like) → Contains (best_likes g person) k → Contains (best_likes g person) l → ¬ (beats k l ≡ true)
best_of g person k l c d e =
    let one = (in_filter (λ (z : Like). not (list_any (λ w. beats w z) (liked g person))) (liked g person) k).0 c in
    let other = (in_filter (λ (z : Like). not (list_any (λ w. beats w z) (liked g person))) (liked g person) l).0 d in
    both_ways (list_any (λ w. beats w l) (liked g person)) (not-true (list_any (λ w. beats w l) (liked g person)) other.1) (any_of (λ w. beats w l) (liked g person) k one.0 e)

-- of two likes of one person and moment that of the lower message stands first
beats_later : (k l : Like) → k.person ≡ l.person → k.date ≡ l.date → k.message < l.message → beats k l ≡ true
beats_later k l who date low = rw (eq-eqb k.person l.person who, eq-eqb l.date k.date (sym date), lt-ltb k.message l.message low) (any_or (nat_lt l.date k.date))
  where
    any_or : (b : Bool) → (b || true) ≡ true
    any_or true = refl
    any_or false = refl

same_best : (g : List Row) (person : ℕ) (k l : Like) → Contains (best_likes g person) k → Contains (best_likes g person) l → k.person ≡ l.person → k.date ≡ l.date → k.message ≡ l.message
same_best g person k l c d who date = elim (cases_order k.message l.message) [
  | inl e ↦ e
  | inr other ↦ elim other [
    | inl low ↦ absurd (best_of g person k l c d (beats_later k l who date low))
    | inr high ↦ absurd (best_of g person l k d c (beats_later l k (sym who) (sym date) high))
  ]
]

module _ (first : OneFirst (List ByteCell)) (g : List Row) (graph : IsGraph g) where
  one_liked : (start : ℕ) (l : Like) (a b : List ByteCell) → IsLiked g start l a → IsLiked g start l b → a ≡ b
  one_liked start l a b r s =
      let person : r.person ≡ s.person = one_only (persons g l.person) r.person s.person r.held s.held in
      let message : r.message ≡ s.message = one_only (with_id g l.message) r.message s.message r.sent s.sent in
      r.is ∙ (λ i. number_cell l.person ∷ cell.Words ((person i).first_name) ∷ cell.Words ((person i).last_name) ∷ number_cell l.date ∷ number_cell l.message
      ∷ cell.Words ((message i).content) ∷ cell.Number (minutes l.date l.sent) ∷ cell.Flag (not (is_friend g start l.person)) ∷ []) ∙ sym s.is

  pub one_ic7 : (person : ℕ) (a b : List (List ByteCell)) → Ic7Answer g person a → Ic7Answer g person b → a ≡ b
  one_ic7 person = one_answers first (best_likes g person) (IsLiked g person) (Falling 4 ∷ Rising 1 ∷ []) (FirstRows 20) (one_liked person)
      (λ x y a b c d r s e.
      (let (dates, ids) = two_ties (Falling 4) (Rising 1) a b e in
      let date = falling 4 a b x.date y.date (ap (column 4) r.is) (ap (column 4) s.is) dates in
      let who = rising 1 a b x.person y.person (ap (column 1) r.is) (ap (column 1) s.is) ids in
      let message = same_best g person x y c d who date in
      let of : r.message ≡ s.message = one_only (with_id g y.message) r.message s.message (subst (λ n. with_id g n ≡ r.message ∷ []) message r.sent) s.sent in
      let sent : x.sent ≡ y.sent = sym (sent_date g graph person x.message x.sent r.message (in_liked g person x (counts x c)) r.sent) ∙ ap (λ (m : Message). m.date) of
      ∙ sent_date g graph person y.message y.sent s.message (in_liked g person y (counts y d)) s.sent in
      let same : x ≡ y = λ i. record { person = who i; date = date i; message = message i; sent = sent i } in
      one_liked person y a b (subst (λ (z : Like). IsLiked g person z a) same r) s))
    where
      counts : (l : Like) → Contains (best_likes g person) l → Contains (liked g person) l
      counts l c = ((in_filter (λ (z : Like). not (list_any (λ w. beats w z) (liked g person))) (liked g person) l).0 c).0
