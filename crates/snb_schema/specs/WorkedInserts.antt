-- Worked rows: inserts of each of the eight kinds.
use Rattle.std.specs.Prelude.{◌≡◌, List, [], ◌∷◌, codes}
use Rattle.snb_schema.specs.declared.op.Op.{Op}
use Rattle.snb_schema.specs.declared.op.Op.TheVariants as ops
use Rattle.snb_schema.specs.declared.op.Parent.TheVariants as parents
use Rattle.snb_schema.specs.declared.person.Person.{Person}
use Rattle.snb_schema.specs.declared.row.Row.{Row}
use Rattle.snb_schema.specs.declared.row.Row.TheVariants as row
use Rattle.snb_schema.specs.declared.table.Table.TheVariants as table
use Rattle.snb_schema.specs.Layouts.{key_columns, shape}
use Rattle.snb_schema.specs.RowKeys.{column_key, row_key}
use Rattle.snb_schema.specs.RowValues.{row_shape, table_of, values}

-- 8000|0|1|12|Cy|Fox|male|0|8000|1.1.1.3|Opera|1|en|c@x.org|0||0,2011
abbrev pub cy : Op
cy = ops.AddPerson 12 (codes "Cy") (codes "Fox") (codes "male") 0 8000 (codes "1.1.1.3")
    (codes "Opera") 1 (codes "en" ∷ []) (codes "c@x.org" ∷ []) (0 ∷ []) [] ((0, 2011) ∷ [])

-- its row of the table person
abbrev pub cy_person : Person
cy_person = record {
  id = 12;
  first_name = codes "Cy";
  last_name = codes "Fox";
  gender = codes "male";
  birthday = 0;
  creation_date = 8000;
  location_ip = codes "1.1.1.3";
  browser_used = codes "Opera";
}

-- the rows that it adds: the person, the place, an email, a language, an interest and a work
abbrev pub rows_of_cy : List Row
rows_of_cy =
    row.Person cy_person
    ∷ row.Link table.PersonIsLocatedInPlace 12 1
    ∷ row.Word table.PersonEmailEmailAddress 12 (codes "c@x.org")
    ∷ row.Word table.PersonSpeaksLanguage 12 (codes "en")
    ∷ row.Link table.PersonHasInterestTag 12 0
    ∷ row.Yeared table.PersonWorkAtOrganisation 12 0 2011
    ∷ []

-- 28000|0|1|13|Di|Orr|female|0|28000|1.1.1.4|Safari|1||||1,2006|
abbrev pub di : Op
di = ops.AddPerson 13 (codes "Di") (codes "Orr") (codes "female") 0 28000 (codes "1.1.1.4")
    (codes "Safari") 1 [] [] [] ((1, 2006) ∷ []) []

-- 9000|2000|2|11|40|9000
abbrev pub like_of_post : Op
like_of_post = ops.LikePost 11 40 9000

-- 98000|28000|3|13|31|98000
abbrev pub like_of_comment : Op
like_of_comment = ops.LikeComment 13 31 98000

-- 48000|8000|4|21|Group|48000|12|0
abbrev pub group : Op
group = ops.AddForum 21 (codes "Group") 48000 12 (0 ∷ [])

-- the rows that it adds: the forum, its moderator and its tag
abbrev pub rows_of_group : List Row
rows_of_group =
    row.Forum (record { id = 21; title = codes "Group"; creation_date = 48000 })
    ∷ row.Link table.ForumHasModeratorPerson 21 12
    ∷ row.Link table.ForumHasTagTag 21 0
    ∷ []

-- 58000|28000|5|13|21|58000
abbrev pub member : Op
member = ops.AddMember 13 21 58000

-- 9000|2000|6|40||9000|1.1.1.1|Firefox|en|Post|4|10|21|0|0
abbrev pub post : Op
post = ops.AddPost 40 [] 9000 (codes "1.1.1.1") (codes "Firefox") (codes "en") (codes "Post") 4 10
    21 0 (0 ∷ [])

-- the rows that it adds: the post, its forum, author, place and tag
abbrev pub rows_of_post : List Row
rows_of_post =
    row.Post (record {
      id = 40;
      image_file = [];
      creation_date = 9000;
      location_ip = codes "1.1.1.1";
      browser_used = codes "Firefox";
      language = codes "en";
      content = codes "Post";
      length = 4;
    })
    ∷ row.Link table.ForumContainerOfPost 21 40
    ∷ row.Link table.PostHasCreatorPerson 40 10
    ∷ row.Link table.PostIsLocatedInPlace 40 0
    ∷ row.Link table.PostHasTagTag 40 0
    ∷ []

-- 68000|8000|7|41|68000|1.1.1.3|Opera|Hey|3|12|0|30|-1|
abbrev pub reply_to_post : Op
reply_to_post =
    ops.AddComment 41 68000 (codes "1.1.1.3") (codes "Opera") (codes "Hey") 3 12 0
    (parents.Post 30) []

-- the rows that it adds: the comment, its author, its place and its parent
abbrev pub rows_of_reply_to_post : List Row
rows_of_reply_to_post =
    row.Comment (record {
      id = 41;
      creation_date = 68000;
      location_ip = codes "1.1.1.3";
      browser_used = codes "Opera";
      content = codes "Hey";
      length = 3;
    })
    ∷ row.Link table.CommentHasCreatorPerson 41 12
    ∷ row.Link table.CommentIsLocatedInPlace 41 0
    ∷ row.Link table.CommentReplyOfPost 41 30
    ∷ []

-- 68000|8000|7|41|68000|1.1.1.3|Opera|Hey|3|12|0|-1|31|0
abbrev pub reply_to_comment : Op
reply_to_comment =
    ops.AddComment 41 68000 (codes "1.1.1.3") (codes "Opera") (codes "Hey") 3 12 0
    (parents.Comment 31) (0 ∷ [])

-- the rows that it adds: the same with a comment as the parent, and a tag
abbrev pub rows_of_reply_to_comment : List Row
rows_of_reply_to_comment =
    row.Comment (record {
      id = 41;
      creation_date = 68000;
      location_ip = codes "1.1.1.3";
      browser_used = codes "Opera";
      content = codes "Hey";
      length = 3;
    })
    ∷ row.Link table.CommentHasCreatorPerson 41 12
    ∷ row.Link table.CommentIsLocatedInPlace 41 0
    ∷ row.Link table.CommentReplyOfComment 41 31
    ∷ row.Link table.CommentHasTagTag 41 0
    ∷ []

-- 38000|28000|8|13|12|38000
abbrev pub friends : Op
friends = ops.AddFriend 13 12 38000

-- the key of each row of its table's shape is what the table's key columns say of its values
abbrev pub KeysAreTheColumns : Type 0
KeysAreTheColumns =
    (r : Row) → row_shape r ≡ shape (table_of r)
    → row_key r ≡ column_key (key_columns (table_of r)) (table_of r) (values r)
