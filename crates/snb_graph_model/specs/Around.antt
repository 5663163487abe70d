-- What a graph holds around a person or a message: filters of its rows.
use Rattle.std.specs.Prelude.{ℕ, ◌==◌, Bool, List, ◌++◌, Option, Some, None, if◌then◌else◌}
use Rattle.std.specs.List.{filter_map, list_any}
use Rattle.snb_schema.specs.declared.nodes.Comment.{Comment}
use Rattle.snb_schema.specs.declared.nodes.Forum.{Forum}
use Rattle.snb_schema.specs.declared.nodes.Organisation.{Organisation}
use Rattle.snb_schema.specs.declared.nodes.Place.{Place}
use Rattle.snb_schema.specs.declared.nodes.Post.{Post}
use Rattle.snb_schema.specs.declared.person.Person.{Person}
use Rattle.snb_schema.specs.declared.row.Row.{Row}
use Rattle.snb_schema.specs.declared.row.Row.TheVariants as row
use Rattle.snb_schema.specs.declared.table.Table.{Table}
use Rattle.snb_schema.specs.declared.table.Table.TheVariants as table
use Rattle.snb_graph_model.specs.Graphs.{rows}
use Rattle.snb_graph_model.specs.RowParts.{Message, end_in, forum_in, friend_in, has, liker_in, message_in, organisation_in, person_in, place_in, start_in, stay_in, word_in}

module _ (g : List Row) where
  -- the nodes of that id: at most one
  abbrev pub persons : ℕ → List Person
  persons id = filter_map (person_in id) (rows g table.Person)

  abbrev pub forums : ℕ → List Forum
  forums id = filter_map (forum_in id) (rows g table.Forum)

  abbrev pub places : ℕ → List Place
  places id = filter_map (place_in id) (rows g table.Place)

  abbrev pub organisations : ℕ → List Organisation
  organisations id = filter_map (organisation_in id) (rows g table.Organisation)

  abbrev pub comments : ℕ → List Message
  comments id = filter_map (message_in id) (rows g table.Comment)

  -- posts and comments share their ids
  abbrev pub with_id : ℕ → List Message
  with_id id = filter_map (message_in id) (rows g table.Post ++ rows g table.Comment)

  -- where the edges of a table lead
  abbrev pub ends : Table → ℕ → List ℕ
  ends t from = filter_map (end_in from) (rows g t)

  -- the forum that has the post
  abbrev pub containers : ℕ → List ℕ
  containers post = filter_map (start_in post) (rows g table.ForumContainerOfPost)

  -- who created the message, and to which message it replies
  abbrev pub authors : ℕ → List ℕ
  authors m = ends table.PostHasCreatorPerson m ++ ends table.CommentHasCreatorPerson m

  abbrev pub parents : ℕ → List ℕ
  parents c = ends table.CommentReplyOfPost c ++ ends table.CommentReplyOfComment c

  -- a message of the person, and its date
  abbrev pub message_of : ℕ → Row → Option (ℕ × ℕ)
  message_of p (row.Post q) =
      if has p (ends table.PostHasCreatorPerson q.id) then Some (q.id, q.creation_date) else None
  message_of p (row.Comment c) =
      if has p (ends table.CommentHasCreatorPerson c.id) then Some (c.id, c.creation_date) else None
  message_of p other = None

  -- a direct reply to the message, and its date
  abbrev pub reply_of : ℕ → Row → Option (ℕ × ℕ)
  reply_of m (row.Comment c) = if has m (parents c.id) then Some (c.id, c.creation_date) else None
  reply_of m other = None

  -- the person's friends, with the dates of the friendships
  abbrev pub friends : ℕ → List (ℕ × ℕ)
  friends p = filter_map (friend_in p) (rows g table.PersonKnowsPerson)

  -- the person's messages, with their dates
  abbrev pub messages : ℕ → List (ℕ × ℕ)
  messages p = filter_map (message_of p) (rows g table.Post ++ rows g table.Comment)

  -- the direct replies to the message, with their dates
  abbrev pub replies : ℕ → List (ℕ × ℕ)
  replies m = filter_map (reply_of m) (rows g table.Comment)

  -- who likes the message by a row of the table, with the dates
  abbrev pub likes_in : Table → ℕ → List (ℕ × ℕ)
  likes_in t m = filter_map (liker_in m) (rows g t)

  -- who likes the message, with the dates
  abbrev pub likes : ℕ → List (ℕ × ℕ)
  likes m =
      filter_map (liker_in m) (rows g table.PersonLikesPost ++ rows g table.PersonLikesComment)

  -- where the person works and where they studied, with the years
  abbrev pub work : ℕ → List (ℕ × ℕ)
  work p = filter_map (stay_in p) (rows g table.PersonWorkAtOrganisation)

  abbrev pub study : ℕ → List (ℕ × ℕ)
  study p = filter_map (stay_in p) (rows g table.PersonStudyAtOrganisation)

  -- the person's emails or languages
  abbrev pub words : Table → ℕ → List (List ℕ)
  words t p = filter_map (word_in p) (rows g t)

  -- whether the two are friends
  abbrev pub is_friend : ℕ → ℕ → Bool
  is_friend a b = list_any (λ f. f.0 == b) (friends a)
