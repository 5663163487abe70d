-- The parts of rows.
use Rattle.std.specs.Prelude.{ℕ, ◌==◌, Bool, List, [], ◌∷◌, Option, Some, None, if◌then◌else◌}
use Rattle.std.specs.List.{list_any}
use Rattle.snb_schema.specs.declared.nodes.Comment.{Comment}
use Rattle.snb_schema.specs.declared.nodes.Forum.{Forum}
use Rattle.snb_schema.specs.declared.nodes.Organisation.{Organisation}
use Rattle.snb_schema.specs.declared.nodes.Place.{Place}
use Rattle.snb_schema.specs.declared.nodes.Post.{Post}
use Rattle.snb_schema.specs.declared.person.Person.{Person}
use Rattle.snb_schema.specs.declared.row.Row.{Row}
use Rattle.snb_schema.specs.declared.row.Row.TheVariants as row

-- what a read shows of a post or a comment
pub record Message : Type 0 where
  pub id : ℕ
  pub date : ℕ
  pub content : List ℕ

-- a text, or another where it is empty
abbrev pub or_else : List ℕ → List ℕ → List ℕ
or_else [] other = other
or_else (x ∷ xs) other = x ∷ xs

-- a post shows its content, or its image where it has none; a comment shows its content
abbrev pub post_shown : Post → Message
post_shown q =
    record { id = q.id; date = q.creation_date; content = or_else q.content q.image_file }

abbrev pub comment_shown : Comment → Message
comment_shown c = record { id = c.id; date = c.creation_date; content = c.content }

-- the node of a row, where it has that id
abbrev pub person_in : ℕ → Row → Option Person
person_in id (row.Person p) = if p.id == id then Some p else None
person_in id other = None

abbrev pub forum_in : ℕ → Row → Option Forum
forum_in id (row.Forum f) = if f.id == id then Some f else None
forum_in id other = None

abbrev pub place_in : ℕ → Row → Option Place
place_in id (row.Place p) = if p.id == id then Some p else None
place_in id other = None

abbrev pub organisation_in : ℕ → Row → Option Organisation
organisation_in id (row.Organisation o) = if o.id == id then Some o else None
organisation_in id other = None

abbrev pub message_in : ℕ → Row → Option Message
message_in id (row.Post q) = if q.id == id then Some (post_shown q) else None
message_in id (row.Comment c) = if c.id == id then Some (comment_shown c) else None
message_in id other = None

-- where an edge from there leads, and from where an edge leads there
abbrev pub end_in : ℕ → Row → Option ℕ
end_in from (row.Link t a b) = if a == from then Some b else None
end_in from other = None

abbrev pub start_in : ℕ → Row → Option ℕ
start_in to (row.Link t a b) = if b == to then Some a else None
start_in to other = None

-- the other end of a friendship, and its date
abbrev pub friend_in : ℕ → Row → Option (ℕ × ℕ)
friend_in p (row.Dated t low high date) =
    if low == p then Some (high, date) else (if high == p then Some (low, date) else None)
friend_in p other = None

-- who likes the message, and the date
abbrev pub liker_in : ℕ → Row → Option (ℕ × ℕ)
liker_in m (row.Dated t from to date) = if to == m then Some (from, date) else None
liker_in m other = None

-- where the person is, and the year
abbrev pub stay_in : ℕ → Row → Option (ℕ × ℕ)
stay_in p (row.Yeared t from to year) = if from == p then Some (to, year) else None
stay_in p other = None

-- the text, where it is the person's
abbrev pub word_in : ℕ → Row → Option (List ℕ)
word_in p (row.Word t from text) = if from == p then Some text else None
word_in p other = None

-- the id is among these
abbrev pub has : ℕ → List ℕ → Bool
has x xs = list_any (λ y. y == x) xs
