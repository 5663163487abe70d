-- Each short read has one answer.
use Rattle.std.proofs.Common.{◌≡◌, ◌∙◌, ℕ, List, [], ◌∷◌, ap, sym, subst}
use Rattle.snb_schema.specs.declared.person.Person.{Person}
use Rattle.snb_schema.specs.declared.row.Row.{Row}
use Rattle.snb_schema.specs.declared.table.Table.TheVariants as table
use Rattle.snb_graph_model.specs.Graphs.{IsGraph}
use Rattle.snb_graph_model.specs.Soundness.{Sound}
use Rattle.snb_graph_integrity.specs.SoundLaws.{MessagesHaveOneRoot, RepliesAreHeld}
use Rattle.snb_read_order.specs.Laws.{OneFirst}
use Rattle.snb_read_model.specs.declared.cell.Cell.TheVariants.{Flag, Words}
use Rattle.snb_graph_model.specs.Around.{authors, comments, containers, ends, forums, friends, is_friend, messages, persons, replies, with_id}
use Rattle.snb_graph_model.specs.RowParts.{Message}
use Rattle.snb_read_model.specs.Cells.{ByteCell, column, number_cell}
use Rattle.snb_read_model.specs.Order.{Falling, FirstRows, Rising, AllRows}
use Rattle.snb_read_model.specs.ShortReads.{Is1Answer, Is2Answer, Is3Answer, Is4Answer, Is5Answer, Is6Answer, Is7Answer, IsAuthor, IsCreator, IsForum, IsFriend, IsProfile, IsRecent, IsReplyTo}
use Rattle.snb_read_laws.proofs.OneAnswers.{one_answers}
use Rattle.snb_read_laws.proofs.OneThings.{one_author, one_message, one_person, one_root}
use Rattle.snb_read_laws.proofs.Ties.{falling, rising, three_ties, two_ties}
use Rattle.snb_base.proofs.Laws.{one_only}

module _ (first : OneFirst (List ByteCell)) (g : List Row) (graph : IsGraph g) where
  one_profile : (p : Person) (a b : List ByteCell) → IsProfile g p a → IsProfile g p b → a ≡ b
  one_profile p a b r s =
      let city : r.city ≡ s.city = one_only (ends g table.PersonIsLocatedInPlace p.id) r.city s.city r.lives s.lives in
      r.is ∙ (λ i. Words p.first_name ∷ Words p.last_name ∷ number_cell p.birthday ∷ Words p.location_ip ∷ Words p.browser_used
      ∷ number_cell (city i) ∷ Words p.gender ∷ number_cell p.creation_date ∷ []) ∙ sym s.is

  pub one_is1 : (person : ℕ) (a b : List (List ByteCell)) → Is1Answer g person a → Is1Answer g person b → a ≡ b
  one_is1 person = one_answers first (persons g person) (IsProfile g) [] AllRows one_profile
      (λ p q a b c d r s e. one_profile q a b (subst (λ (x : Person). IsProfile g x a) (one_person g graph person p q c d) r) s)

  one_friend : (f : ℕ × ℕ) (a b : List ByteCell) → IsFriend g f a → IsFriend g f b → a ≡ b
  one_friend f a b r s =
      let friend : r.friend ≡ s.friend = one_only (persons g f.0) r.friend s.friend r.held s.held in
      r.is ∙ (λ i. number_cell f.0 ∷ Words ((friend i).first_name) ∷ Words ((friend i).last_name) ∷ number_cell f.1 ∷ []) ∙ sym s.is

  pub one_is3 : (person : ℕ) (a b : List (List ByteCell)) → Is3Answer g person a → Is3Answer g person b → a ≡ b
  one_is3 person = one_answers first (friends g person) (IsFriend g) (Falling 4 ∷ Rising 1 ∷ []) AllRows one_friend
      (λ x y a b c d r s e.
      (let (dates, ids) = two_ties (Falling 4) (Rising 1) a b e in
      let date = falling 4 a b x.1 y.1 (ap (column 4) r.is) (ap (column 4) s.is) dates in
      let id = rising 1 a b x.0 y.0 (ap (column 1) r.is) (ap (column 1) s.is) ids in
      let same : x ≡ y = λ i. (id i, date i) in
      one_friend y a b (subst (λ (z : ℕ × ℕ). IsFriend g z a) same r) s))

  pub one_is4 : (message : ℕ) (a b : List (List ByteCell)) → Is4Answer g message a → Is4Answer g message b → a ≡ b
  one_is4 message = one_answers first (with_id g message) (λ m cells. cells ≡ number_cell m.date ∷ Words m.content ∷ []) [] AllRows (λ m a b r s. r ∙ sym s)
      (λ m n a b c d r s e. (let same = one_message g graph message m n c d in r ∙ (λ i. number_cell ((same i).date) ∷ Words ((same i).content) ∷ []) ∙ sym s))

  one_creator : (m : ℕ) (a b : List ByteCell) → IsCreator g m a → IsCreator g m b → a ≡ b
  one_creator m a b r s =
      let author = one_author g m r.author s.author r.wrote s.wrote in
      r.is ∙ (λ i. number_cell ((author i).id) ∷ Words ((author i).first_name) ∷ Words ((author i).last_name) ∷ []) ∙ sym s.is

  pub one_is5 : (message : ℕ) (a b : List (List ByteCell)) → Is5Answer g message a → Is5Answer g message b → a ≡ b
  one_is5 message = one_answers first (with_id g message) (λ m. IsCreator g m.id) [] AllRows (λ m. one_creator m.id)
      (λ m n a b c d r s e. one_creator n.id a b (subst (λ (x : Message). IsCreator g x.id a) (one_message g graph message m n c d) r) s)

  one_reply_to : (message : ℕ) (c : ℕ × ℕ) (a b : List ByteCell) → IsReplyTo g message c a → IsReplyTo g message c b → a ≡ b
  one_reply_to message c a b r s =
      let comment : r.comment ≡ s.comment = one_only (comments g c.0) r.comment s.comment r.held s.held in
      let author = one_author g c.0 r.author s.author r.wrote s.wrote in
      let answered : r.answered ≡ s.answered = one_only (authors g message) r.answered s.answered r.created s.created in
      r.is ∙ (λ i. number_cell c.0 ∷ Words ((comment i).content) ∷ number_cell c.1 ∷ number_cell ((author i).id) ∷ Words ((author i).first_name)
      ∷ Words ((author i).last_name) ∷ Flag (is_friend g (answered i) ((author i).id)) ∷ []) ∙ sym s.is

  pub one_is7 : (message : ℕ) (a b : List (List ByteCell)) → Is7Answer g message a → Is7Answer g message b → a ≡ b
  one_is7 message = one_answers first (replies g message) (IsReplyTo g message) (Falling 3 ∷ Rising 4 ∷ Rising 1 ∷ []) AllRows (one_reply_to message)
      (λ x y a b c d r s e.
      (let (dates, authors, ids) = three_ties (Falling 3) (Rising 4) (Rising 1) a b e in
      let date = falling 3 a b x.1 y.1 (ap (column 3) r.is) (ap (column 3) s.is) dates in
      let id = rising 1 a b x.0 y.0 (ap (column 1) r.is) (ap (column 1) s.is) ids in
      let same : x ≡ y = λ i. (id i, date i) in
      one_reply_to message y a b (subst (λ (z : ℕ × ℕ). IsReplyTo g message z a) same r) s))

  -- the reads that show a root
  module _ (sound : Sound g) (roots : MessagesHaveOneRoot) (held : RepliesAreHeld) where
    one_recent : (m : ℕ × ℕ) (a b : List ByteCell) → IsRecent g m a → IsRecent g m b → a ≡ b
    one_recent m a b r s =
        let message : r.message ≡ s.message = one_only (with_id g m.0) r.message s.message r.held s.held in
        let root = one_root roots held g graph sound m.0 r.root s.root r.from s.from in
        let author = one_author g s.root r.author s.author (subst (λ n. IsAuthor g n r.author) root r.wrote) s.wrote in
        r.is ∙ (λ i. number_cell m.0 ∷ Words ((message i).content) ∷ number_cell m.1 ∷ number_cell (root i) ∷ number_cell ((author i).id) ∷ Words ((author i).first_name)
        ∷ Words ((author i).last_name) ∷ []) ∙ sym s.is

    pub one_is2 : (person : ℕ) (a b : List (List ByteCell)) → Is2Answer g person a → Is2Answer g person b → a ≡ b
    one_is2 person = one_answers first (messages g person) (IsRecent g) (Falling 3 ∷ Falling 1 ∷ []) (FirstRows 10) one_recent
        (λ x y a b c d r s e.
        (let (dates, ids) = two_ties (Falling 3) (Falling 1) a b e in
        let date = falling 3 a b x.1 y.1 (ap (column 3) r.is) (ap (column 3) s.is) dates in
        let id = falling 1 a b x.0 y.0 (ap (column 1) r.is) (ap (column 1) s.is) ids in
        let same : x ≡ y = λ i. (id i, date i) in
        one_recent y a b (subst (λ (z : ℕ × ℕ). IsRecent g z a) same r) s))

    one_forum : (m : ℕ) (a b : List ByteCell) → IsForum g m a → IsForum g m b → a ≡ b
    one_forum m a b r s =
        let root = one_root roots held g graph sound m r.root s.root r.from s.from in
        let ids : r.forum.id ≡ s.forum.id = one_only (containers g s.root) r.forum.id s.forum.id (subst (λ n. containers g n ≡ r.forum.id ∷ []) root r.inside) s.inside in
        let forum : r.forum ≡ s.forum = one_only (forums g s.forum.id) r.forum s.forum (subst (λ n. forums g n ≡ r.forum ∷ []) ids r.held) s.held in
        let who : r.moderator.id ≡ s.moderator.id = one_only (ends g table.ForumHasModeratorPerson s.forum.id) r.moderator.id s.moderator.id
        (subst (λ n. ends g table.ForumHasModeratorPerson n ≡ r.moderator.id ∷ []) ids r.moderates) s.moderates in
        let moderator : r.moderator ≡ s.moderator = one_only (persons g s.moderator.id) r.moderator s.moderator (subst (λ n. persons g n ≡ r.moderator ∷ []) who r.known) s.known in
        r.is ∙ (λ i. number_cell ((forum i).id) ∷ Words ((forum i).title) ∷ number_cell ((moderator i).id) ∷ Words ((moderator i).first_name) ∷ Words ((moderator i).last_name) ∷ []) ∙ sym s.is

    pub one_is6 : (message : ℕ) (a b : List (List ByteCell)) → Is6Answer g message a → Is6Answer g message b → a ≡ b
    one_is6 message = one_answers first (with_id g message) (λ m. IsForum g m.id) [] AllRows (λ m. one_forum m.id)
        (λ m n a b c d r s e. one_forum n.id a b (subst (λ (x : Message). IsForum g x.id a) (one_message g graph message m n c d) r) s)
