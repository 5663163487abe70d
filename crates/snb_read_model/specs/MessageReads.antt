-- What the complex reads IC2, IC7, IC8 and IC9 of the LDBC Social Network Benchmark answer, which
-- ask for messages.
use Rattle.std.specs.Prelude.{◌≡◌, ℕ, ◌==◌, ◌&&◌, ◌||◌, nat_lt, nat_le, not, pos, ℤ, ◌-ℤ◌, Bool, List, [], ◌∷◌, filter, map}
use Rattle.std.specs.Int.{int_div_euclid}
use Rattle.std.specs.List.{flat_map, list_any}
use Rattle.snb_schema.specs.declared.person.Person.{Person}
use Rattle.snb_schema.specs.declared.row.Row.{Row}
use Rattle.snb_read_model.specs.declared.cell.Cell.TheVariants as cell
use Rattle.snb_read_model.specs.declared.like.Like.{Like}
use Rattle.snb_read_model.specs.declared.sent.Sent.{Sent}
use Rattle.snb_read_model.specs.Cells.{ByteCell, number_cell}
use Rattle.snb_read_model.specs.Distance.{IsWithin}
use Rattle.snb_read_model.specs.Order.{ReadAnswers, FirstRows, Way, Rising, Falling}
use Rattle.snb_read_model.specs.ShortReads.{IsAuthor}
use Rattle.snb_graph_model.specs.Around.{comments, friends, is_friend, likes, messages, persons, replies, with_id}
use Rattle.snb_graph_model.specs.RowParts.{Message}

-- the same person's like that stands before another: a greater date, or the same and a lower
-- message id
abbrev pub beats : Like → Like → Bool
beats k l =
    (k.person == l.person)
    && (nat_lt l.date k.date || ((l.date == k.date) && nat_lt k.message l.message))

-- whole minutes from the message to the like, rounded down
abbrev pub minutes : ℕ → ℕ → ℤ
minutes liked sent = int_div_euclid (pos liked -ℤ pos sent) (pos 60000)

-- date descending, message id ascending
abbrev pub newest_first : List Way
newest_first = Falling 6 ∷ Rising 4 ∷ []

module _ (g : List Row) where
  -- the persons' messages that pass
  abbrev pub messages_of : (ℕ → Bool) → List (ℕ × ℕ) → List Sent
  messages_of passes ps =
      flat_map (λ p. map (λ m. record { person = p.0; message = m.0; date = m.1 })
      (filter (λ m. passes m.1) (messages g p.0))) ps

  -- a person's message
  pub record IsSent (s : Sent) (cells : List ByteCell) : Type 0 where
    pub person : Person
    pub held : persons g s.person ≡ person ∷ []
    pub message : Message
    pub sent : with_id g s.message ≡ message ∷ []
    pub is : cells ≡ number_cell s.person ∷ cell.Words person.first_name
        ∷ cell.Words person.last_name ∷ number_cell s.message ∷ cell.Words message.content
        ∷ number_cell s.date ∷ []

  -- IC2: the messages of friends up to the date, it included, twenty at most: the latest first
  abbrev pub Ic2Answer : ℕ → ℕ → List (List ByteCell) → Type 0
  Ic2Answer person max_date =
      ReadAnswers (messages_of (λ date. nat_le date max_date) (friends g person)) IsSent
      newest_first (FirstRows 20)

  -- IC9: the messages before the date of persons at distance 1 or 2, twenty at most: the latest
  -- first
  pub record Ic9Answer (person max_date : ℕ) (answer : List (List ByteCell)) : Type 0 where
    pub near : List (ℕ × ℕ)
    pub within : IsWithin g person 2 near
    pub answers : ReadAnswers (messages_of (λ date. nat_lt date max_date) near) IsSent newest_first
        (FirstRows 20) answer

  -- all likes of the person's messages
  abbrev pub liked : ℕ → List Like
  liked person =
      flat_map (λ m. map (λ l. record { person = l.0; date = l.1; message = m.0; sent = m.1 })
      (likes g m.0)) (messages g person)

  -- for each person the like that no other of theirs beats
  abbrev pub best_likes : ℕ → List Like
  best_likes person = filter (λ l. not (list_any (λ k. beats k l) (liked person))) (liked person)

  -- a like
  pub record IsLiked (start : ℕ) (l : Like) (cells : List ByteCell) : Type 0 where
    pub person : Person
    pub held : persons g l.person ≡ person ∷ []
    pub message : Message
    pub sent : with_id g l.message ≡ message ∷ []
    pub is : cells ≡ number_cell l.person ∷ cell.Words person.first_name
        ∷ cell.Words person.last_name ∷ number_cell l.date ∷ number_cell l.message
        ∷ cell.Words message.content ∷ cell.Number (minutes l.date l.sent)
        ∷ cell.Flag (not (is_friend g start l.person)) ∷ []

  -- IC7: who liked the person's messages, twenty at most: like date descending, person id ascending
  abbrev pub Ic7Answer : ℕ → List (List ByteCell) → Type 0
  Ic7Answer person =
      ReadAnswers (best_likes person) (IsLiked person) (Falling 4 ∷ Rising 1 ∷ []) (FirstRows 20)

  -- a direct reply to a message of the person
  pub record ShowsReply (c : ℕ × ℕ) (cells : List ByteCell) : Type 0 where
    pub author : Person
    pub wrote : IsAuthor g c.0 author
    pub comment : Message
    pub held : comments g c.0 ≡ comment ∷ []
    pub is : cells ≡ number_cell author.id ∷ cell.Words author.first_name
        ∷ cell.Words author.last_name ∷ number_cell c.1 ∷ number_cell c.0
        ∷ cell.Words comment.content ∷ []

  -- IC8: the direct replies to the person's messages, twenty at most: date descending, comment id
  -- ascending
  abbrev pub Ic8Answer : ℕ → List (List ByteCell) → Type 0
  Ic8Answer person =
      ReadAnswers (flat_map (λ m. replies g m.0) (messages g person)) ShowsReply
      (Falling 4 ∷ Rising 5 ∷ []) (FirstRows 20)
