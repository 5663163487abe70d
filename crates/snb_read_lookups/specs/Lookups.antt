-- What is looked up for a read: what is the only one, and numbers that fit a cell.
use Rattle.std.specs.Prelude.{◌≡◌, ℕ, ◌<◌, ◌^◌, List, [], ◌∷◌}
use Rattle.snb_schema.specs.declared.person.Person.{Person}
use Rattle.snb_schema.specs.declared.nodes.Forum.{Forum}
use Rattle.snb_schema.specs.declared.row.Row.{Row}
use Rattle.snb_schema.specs.declared.table.Kind.TheVariants as kinds
use Rattle.snb_schema.specs.declared.table.Table.TheVariants as table
use Rattle.snb_schema.specs.RowKeys.{node_key}
use Rattle.snb_graph_model.specs.Graphs.{HasKey}
use Rattle.snb_graph_model.specs.Messages.{HasMessage}
use Rattle.snb_graph_model.specs.Around.{authors, containers, ends, forums, persons, with_id}
use Rattle.snb_read_model.specs.Distance.{IsPerson}

-- a number that a cell can hold
abbrev pub IsCellNumber : ℕ → Type 0
IsCellNumber n = n < 2 ^ 63

module _ (g : List Row) where
  -- the person of this id
  pub record IsOnlyPerson (id : ℕ) (p : Person) : Type 0 where
    pub only : persons g id ≡ p ∷ []
    pub named : p.id ≡ id
    pub id_fits : IsCellNumber p.id
    pub birthday_fits : IsCellNumber p.birthday
    pub date_fits : IsCellNumber p.creation_date

  -- what the message of this id shows
  pub record IsOnlyMessage (id date : ℕ) (content : List ℕ) : Type 0 where
    pub only : with_id g id ≡ (record { id = id; date = date; content = content }) ∷ []
    pub held : HasMessage g id
    pub id_fits : IsCellNumber id
    pub date_fits : IsCellNumber date

  -- the person who created a message
  pub record IsOnlyAuthor (message author : ℕ) : Type 0 where
    pub only : authors g message ≡ author ∷ []
    pub held : IsPerson g author

  -- the city where a person lives
  pub record IsOnlyCity (person city : ℕ) : Type 0 where
    pub only : ends g table.PersonIsLocatedInPlace person ≡ city ∷ []
    pub fits : IsCellNumber city

  -- the forum that has a post
  pub record IsOnlyForum (post : ℕ) (forum : Forum) : Type 0 where
    pub inside : containers g post ≡ forum.id ∷ []
    pub only : forums g forum.id ≡ forum ∷ []
    pub held : HasKey g (node_key kinds.Forum forum.id)
    pub fits : IsCellNumber forum.id

  -- the moderator of a forum
  pub record IsOnlyModerator (forum moderator : ℕ) : Type 0 where
    pub only : ends g table.ForumHasModeratorPerson forum ≡ moderator ∷ []
    pub held : IsPerson g moderator
