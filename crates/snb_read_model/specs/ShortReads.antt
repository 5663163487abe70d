-- The seven short reads: the things that count, what each shows, in which order, and how many.
use Rattle.std.specs.Prelude.{◌≡◌, ℕ, List, [], ◌∷◌}
use Rattle.snb_schema.specs.declared.nodes.Forum.{Forum}
use Rattle.snb_schema.specs.declared.person.Person.{Person}
use Rattle.snb_schema.specs.declared.row.Row.{Row}
use Rattle.snb_schema.specs.declared.table.Table.TheVariants as table
use Rattle.snb_graph_model.specs.Messages.{IsRoot}
use Rattle.snb_read_model.specs.declared.cell.Cell.TheVariants.{Flag, Words}
use Rattle.snb_graph_model.specs.Around.{authors, comments, containers, ends, forums, friends, is_friend, messages, persons, replies, with_id}
use Rattle.snb_graph_model.specs.RowParts.{Message}
use Rattle.snb_read_model.specs.Cells.{ByteCell, number_cell}
use Rattle.snb_read_model.specs.Order.{ReadAnswers, AllRows, FirstRows, Rising, Falling}

module _ (g : List Row) where
  -- who created the message
  pub record IsAuthor (m : ℕ) (p : Person) : Type 0 where
    pub id : ℕ
    pub created : authors g m ≡ id ∷ []
    pub held : persons g id ≡ p ∷ []

  -- the profile of a person
  pub record IsProfile (p : Person) (cells : List ByteCell) : Type 0 where
    pub city : ℕ
    pub lives : ends g table.PersonIsLocatedInPlace p.id ≡ city ∷ []
    pub is : cells ≡ Words p.first_name ∷ Words p.last_name ∷ number_cell p.birthday
        ∷ Words p.location_ip ∷ Words p.browser_used
        ∷ number_cell city ∷ Words p.gender ∷ number_cell p.creation_date ∷ []

  -- IS1: the profile of a person
  abbrev pub Is1Answer : ℕ → List (List ByteCell) → Type 0
  Is1Answer person = ReadAnswers (persons g person) IsProfile [] AllRows

  -- a message, and the post at its root
  pub record IsRecent (m : ℕ × ℕ) (cells : List ByteCell) : Type 0 where
    pub message : Message
    pub held : with_id g m.0 ≡ message ∷ []
    pub root : ℕ
    pub from : IsRoot g m.0 root
    pub author : Person
    pub wrote : IsAuthor root author
    pub is : cells ≡ number_cell m.0 ∷ Words message.content ∷ number_cell m.1 ∷ number_cell root
        ∷ number_cell author.id ∷ Words author.first_name
        ∷ Words author.last_name ∷ []

  -- IS2: the messages of a person, ten at most: date descending, id descending
  abbrev pub Is2Answer : ℕ → List (List ByteCell) → Type 0
  Is2Answer person =
      ReadAnswers (messages g person) IsRecent (Falling 3 ∷ Falling 1 ∷ []) (FirstRows 10)

  -- a friend
  pub record IsFriend (f : ℕ × ℕ) (cells : List ByteCell) : Type 0 where
    pub friend : Person
    pub held : persons g f.0 ≡ friend ∷ []
    pub is : cells ≡ number_cell f.0 ∷ Words friend.first_name ∷ Words friend.last_name
        ∷ number_cell f.1 ∷ []

  -- IS3: the friends of a person: date descending, id ascending
  abbrev pub Is3Answer : ℕ → List (List ByteCell) → Type 0
  Is3Answer person = ReadAnswers (friends g person) IsFriend (Falling 4 ∷ Rising 1 ∷ []) AllRows

  -- IS4: the date and the content of a message
  abbrev pub Is4Answer : ℕ → List (List ByteCell) → Type 0
  Is4Answer message =
      ReadAnswers (with_id g message)
      (λ m cells. cells ≡ number_cell m.date ∷ Words m.content ∷ []) [] AllRows

  -- the creator of a message
  pub record IsCreator (m : ℕ) (cells : List ByteCell) : Type 0 where
    pub author : Person
    pub wrote : IsAuthor m author
    pub is : cells ≡ number_cell author.id ∷ Words author.first_name ∷ Words author.last_name ∷ []

  -- IS5: the creator of a message
  abbrev pub Is5Answer : ℕ → List (List ByteCell) → Type 0
  Is5Answer message = ReadAnswers (with_id g message) (λ m. IsCreator m.id) [] AllRows

  -- the forum of a message's root
  pub record IsForum (m : ℕ) (cells : List ByteCell) : Type 0 where
    pub root : ℕ
    pub from : IsRoot g m root
    pub forum : Forum
    pub inside : containers g root ≡ forum.id ∷ []
    pub held : forums g forum.id ≡ forum ∷ []
    pub moderator : Person
    pub moderates : ends g table.ForumHasModeratorPerson forum.id ≡ moderator.id ∷ []
    pub known : persons g moderator.id ≡ moderator ∷ []
    pub is : cells ≡ number_cell forum.id ∷ Words forum.title ∷ number_cell moderator.id
        ∷ Words moderator.first_name ∷ Words moderator.last_name ∷ []

  -- IS6: the forum of a message's root, with its moderator
  abbrev pub Is6Answer : ℕ → List (List ByteCell) → Type 0
  Is6Answer message = ReadAnswers (with_id g message) (λ m. IsForum m.id) [] AllRows

  -- a direct reply, and whether its author is a friend of the message's
  pub record IsReplyTo (message : ℕ) (c : ℕ × ℕ) (cells : List ByteCell) : Type 0 where
    pub comment : Message
    pub held : comments g c.0 ≡ comment ∷ []
    pub author : Person
    pub wrote : IsAuthor c.0 author
    pub answered : ℕ
    pub created : authors g message ≡ answered ∷ []
    pub is : cells ≡ number_cell c.0 ∷ Words comment.content ∷ number_cell c.1
        ∷ number_cell author.id ∷ Words author.first_name
        ∷ Words author.last_name ∷ Flag (is_friend g answered author.id) ∷ []

  -- IS7: the direct replies to a message: date descending, author id ascending, comment id
  -- ascending
  abbrev pub Is7Answer : ℕ → List (List ByteCell) → Type 0
  Is7Answer message =
      ReadAnswers (replies g message) (IsReplyTo message) (Falling 3 ∷ Rising 4 ∷ Rising 1 ∷ [])
      AllRows
