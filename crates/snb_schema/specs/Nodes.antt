-- The nodes that inserts add: the columns and the values of each, and what an insert has beside it.
use Rattle.std.specs.Prelude.{ℕ, List, [], ◌∷◌}
use Rattle.snb_schema.specs.declared.column.Column.{Column}
use Rattle.snb_schema.specs.declared.column.Column.TheVariants.{Number, Small, Date, Day, Words}
use Rattle.snb_schema.specs.declared.column.Value.{Value}
use Rattle.snb_schema.specs.declared.column.Value.TheVariants.{Digits, SmallDigits, Letters}
use Rattle.snb_schema.specs.declared.limits.TheConstants.{MAX_ID, MAX_LENGTH}
use Rattle.snb_schema.specs.declared.nodes.Comment.{Comment}
use Rattle.snb_schema.specs.declared.nodes.Forum.{Forum}
use Rattle.snb_schema.specs.declared.nodes.Post.{Post}
use Rattle.snb_schema.specs.declared.op.Op.{Op}
use Rattle.snb_schema.specs.declared.op.Op.TheVariants as ops
use Rattle.snb_schema.specs.declared.op.Parent.{Parent}
use Rattle.snb_schema.specs.declared.person.Person.{Person}

-- a column of ids
abbrev pub id_column : Column
id_column = Number MAX_ID

-- ---- columns and values, in the order of a line

abbrev pub person_columns : List Column
person_columns = id_column ∷ Words ∷ Words ∷ Words ∷ Day ∷ Date ∷ Words ∷ Words ∷ []

abbrev pub person_values : Person → List Value
person_values p =
    Digits p.id ∷ Letters p.first_name ∷ Letters p.last_name ∷ Letters p.gender ∷ Digits p.birthday
    ∷ Digits p.creation_date ∷ Letters p.location_ip ∷ Letters p.browser_used ∷ []

-- the person that has these values
abbrev pub person_by : List Value → Person
person_by
    (Digits id ∷ Letters first ∷ Letters last ∷ Letters gender ∷ Digits birthday ∷ Digits date
    ∷ Letters ip ∷ Letters browser ∷ []) = record {
      id = id;
      first_name = first;
      last_name = last;
      gender = gender;
      birthday = birthday;
      creation_date = date;
      location_ip = ip;
      browser_used = browser;
    }
person_by values = record {
  id = 0;
  first_name = [];
  last_name = [];
  gender = [];
  birthday = 0;
  creation_date = 0;
  location_ip = [];
  browser_used = [];
}

abbrev pub forum_columns : List Column
forum_columns = id_column ∷ Words ∷ Date ∷ []

abbrev pub forum_values : Forum → List Value
forum_values f = Digits f.id ∷ Letters f.title ∷ Digits f.creation_date ∷ []

-- the forum that has these values
abbrev pub forum_by : List Value → Forum
forum_by (Digits id ∷ Letters title ∷ Digits date ∷ []) =
    record { id = id; title = title; creation_date = date }
forum_by values = record { id = 0; title = []; creation_date = 0 }

-- a forum of which no more is told
abbrev pub forum_named : ℕ → List ℕ → ℕ → Forum
forum_named id title date = record { id = id; title = title; creation_date = date }

abbrev pub post_columns : List Column
post_columns =
    id_column ∷ Words ∷ Date ∷ Words ∷ Words ∷ Words ∷ Words ∷ Small MAX_LENGTH ∷ []

abbrev pub post_values : Post → List Value
post_values p =
    Digits p.id ∷ Letters p.image_file ∷ Digits p.creation_date ∷ Letters p.location_ip
    ∷ Letters p.browser_used ∷ Letters p.language ∷ Letters p.content ∷ SmallDigits p.length ∷ []

-- the post that has these values
abbrev pub post_by : List Value → Post
post_by
    (Digits id ∷ Letters image ∷ Digits date ∷ Letters ip ∷ Letters browser ∷ Letters language
    ∷ Letters content ∷ SmallDigits size ∷ []) = record {
      id = id;
      image_file = image;
      creation_date = date;
      location_ip = ip;
      browser_used = browser;
      language = language;
      content = content;
      length = size;
    }
post_by values = record {
  id = 0;
  image_file = [];
  creation_date = 0;
  location_ip = [];
  browser_used = [];
  language = [];
  content = [];
  length = 0;
}

abbrev pub comment_columns : List Column
comment_columns = id_column ∷ Date ∷ Words ∷ Words ∷ Words ∷ Small MAX_LENGTH ∷ []

abbrev pub comment_values : Comment → List Value
comment_values c =
    Digits c.id ∷ Digits c.creation_date ∷ Letters c.location_ip ∷ Letters c.browser_used
    ∷ Letters c.content ∷ SmallDigits c.length ∷ []

-- the comment that has these values
abbrev pub comment_by : List Value → Comment
comment_by
    (Digits id ∷ Digits date ∷ Letters ip ∷ Letters browser ∷ Letters content ∷ SmallDigits size
    ∷ []) = record {
      id = id;
      creation_date = date;
      location_ip = ip;
      browser_used = browser;
      content = content;
      length = size;
    }
comment_by values = record {
  id = 0;
  creation_date = 0;
  location_ip = [];
  browser_used = [];
  content = [];
  length = 0;
}

-- ---- inserts

-- an insert by what it adds: a node, as a row of its table has it, with what its line has beside
-- that, or an edge with its date
pub data Addition : Type 0 where
  NewPerson : (person : Person) (city : ℕ) (languages emails : List (List ℕ)) (tags : List ℕ)
      (study work : List (ℕ × ℕ)) → Addition
  NewForum : (forum : Forum) (moderator : ℕ) (tags : List ℕ) → Addition
  NewPost : (post : Post) (author forum country : ℕ) (tags : List ℕ) → Addition
  NewComment : (comment : Comment) (author country : ℕ) (parent : Parent) (tags : List ℕ) → Addition
  NewPostLike : (person post date : ℕ) → Addition
  NewCommentLike : (person comment date : ℕ) → Addition
  NewMember : (person forum date : ℕ) → Addition
  NewFriends : (one other date : ℕ) → Addition

-- what an insert adds
abbrev pub addition : Op → Addition
addition
    (ops.AddPerson id first last gender birthday date ip browser city languages emails tags study
    work) =
    NewPerson (record {
      id = id;
      first_name = first;
      last_name = last;
      gender = gender;
      birthday = birthday;
      creation_date = date;
      location_ip = ip;
      browser_used = browser;
    }) city languages emails tags study work
addition (ops.LikePost person post date) = NewPostLike person post date
addition (ops.LikeComment person comment date) = NewCommentLike person comment date
addition (ops.AddForum id title date moderator tags) =
    NewForum (record { id = id; title = title; creation_date = date }) moderator tags
addition (ops.AddMember person forum date) = NewMember person forum date
addition (ops.AddPost id image date ip browser language content size author forum country tags) =
    NewPost (record {
      id = id;
      image_file = image;
      creation_date = date;
      location_ip = ip;
      browser_used = browser;
      language = language;
      content = content;
      length = size;
    }) author forum country tags
addition (ops.AddComment id date ip browser content size author country parent tags) =
    NewComment (record {
      id = id;
      creation_date = date;
      location_ip = ip;
      browser_used = browser;
      content = content;
      length = size;
    }) author country parent tags
addition (ops.AddFriend one other date) = NewFriends one other date

-- the insert that adds it
abbrev pub adding : Addition → Op
adding (NewPerson p city languages emails tags study work) =
    ops.AddPerson p.id p.first_name p.last_name p.gender p.birthday p.creation_date p.location_ip
    p.browser_used city languages emails tags study work
adding (NewForum f moderator tags) = ops.AddForum f.id f.title f.creation_date moderator tags
adding (NewPost p author forum country tags) =
    ops.AddPost p.id p.image_file p.creation_date p.location_ip p.browser_used p.language p.content
    p.length author forum country tags
adding (NewComment c author country parent tags) =
    ops.AddComment c.id c.creation_date c.location_ip c.browser_used c.content c.length author
    country parent tags
adding (NewPostLike person post date) = ops.LikePost person post date
adding (NewCommentLike person comment date) = ops.LikeComment person comment date
adding (NewMember person forum date) = ops.AddMember person forum date
adding (NewFriends one other date) = ops.AddFriend one other date
