-- Worked rows: a small network of 33 rows, and comments whose replies go round.
use Rattle.std.specs.Prelude.{ℕ, List, [], ◌∷◌, ◌++◌, codes}
use Rattle.snb_schema.specs.declared.person.Person.{Person}
use Rattle.snb_schema.specs.declared.row.Row.{Row}
use Rattle.snb_schema.specs.declared.row.Row.TheVariants as row
use Rattle.snb_schema.specs.declared.table.Table.TheVariants as table
use Rattle.snb_schema.specs.Nodes.{forum_named}

-- 10|Ann|Lee|female|0|1000|1.1.1.1|Firefox
abbrev pub ann : Person
ann = record {
  id = 10;
  first_name = codes "Ann";
  last_name = codes "Lee";
  gender = codes "female";
  birthday = 0;
  creation_date = 1000;
  location_ip = codes "1.1.1.1";
  browser_used = codes "Firefox";
}

-- 11|Bob|Ray|male|0|2000|1.1.1.2|Chrome
abbrev pub bob : Person
bob = record {
  id = 11;
  first_name = codes "Bob";
  last_name = codes "Ray";
  gender = codes "male";
  birthday = 0;
  creation_date = 2000;
  location_ip = codes "1.1.1.2";
  browser_used = codes "Chrome";
}

-- the rows of the network before the place of the person 10
abbrev pub before_place : List Row
before_place =
    row.Place (record { id = 0; name = codes "Earthland"; url = codes "u"; kind = codes "country" })
    ∷ row.Place (record { id = 1; name = codes "Townville"; url = codes "u"; kind = codes "city" })
    ∷ row.TagClass (record { id = 0; name = codes "Thing"; url = codes "u" })
    ∷ row.Tag (record { id = 0; name = codes "Tea"; url = codes "u" })
    ∷ row.Organisation
    (record { id = 0; kind = codes "company"; name = codes "Acme"; url = codes "u" })
    ∷ row.Organisation
    (record { id = 1; kind = codes "university"; name = codes "Uni"; url = codes "u" })
    ∷ row.Person ann
    ∷ row.Person bob
    ∷ row.Forum (forum_named 20 (codes "Wall") 4000)
    ∷ row.Post
    (record {
      id = 30;
      image_file = [];
      creation_date = 5000;
      location_ip = codes "1.1.1.1";
      browser_used = codes "Firefox";
      language = codes "en";
      content = codes "Hi";
      length = 2;
    })
    ∷ row.Comment
    (record {
      id = 31;
      creation_date = 6000;
      location_ip = codes "1.1.1.2";
      browser_used = codes "Chrome";
      content = codes "Yo";
      length = 2;
    })
    ∷ row.Link table.PlaceIsPartOfPlace 1 0
    ∷ row.Link table.TagHasTypeTagClass 0 0
    ∷ row.Link table.OrganisationIsLocatedInPlace 0 0
    ∷ row.Link table.OrganisationIsLocatedInPlace 1 1
    ∷ row.Link table.PersonHasInterestTag 10 0
    ∷ []

-- and those after it
abbrev pub after_place : List Row
after_place =
    row.Link table.PersonIsLocatedInPlace 11 1
    ∷ row.Dated table.PersonKnowsPerson 10 11 3000
    ∷ row.Dated table.PersonLikesPost 11 30 7000
    ∷ row.Yeared table.PersonStudyAtOrganisation 10 1 2005
    ∷ row.Yeared table.PersonWorkAtOrganisation 11 0 2010
    ∷ row.Link table.ForumContainerOfPost 20 30
    ∷ row.Dated table.ForumHasMemberPerson 20 11 4500
    ∷ row.Link table.ForumHasModeratorPerson 20 10
    ∷ row.Link table.PostHasCreatorPerson 30 10
    ∷ row.Link table.PostHasTagTag 30 0
    ∷ row.Link table.PostIsLocatedInPlace 30 0
    ∷ row.Link table.CommentHasCreatorPerson 31 11
    ∷ row.Link table.CommentIsLocatedInPlace 31 0
    ∷ row.Link table.CommentReplyOfPost 31 30
    ∷ row.Word table.PersonEmailEmailAddress 10 (codes "ann@x.org")
    ∷ row.Word table.PersonSpeaksLanguage 10 (codes "en")
    ∷ []

-- the network: two places, two persons who know each other, a forum with a post, a comment on it,
-- and so on
abbrev pub network : List Row
network = before_place ++ row.Link table.PersonIsLocatedInPlace 10 1 ∷ after_place

-- the network without that place
abbrev pub without_place : List Row
without_place = before_place ++ after_place

-- a comment of this id
abbrev pub comment : ℕ → Row
comment n =
    row.Comment
    (record {
      id = n;
      creation_date = 0;
      location_ip = [];
      browser_used = [];
      content = [];
      length = 0;
    })

-- comments 31 and 32 reply to each other, 30 to 32, and 29 to the post 5
abbrev pub circle : List Row
circle =
    comment 29
    ∷ comment 30
    ∷ comment 31
    ∷ comment 32
    ∷ row.Link table.CommentReplyOfPost 29 5
    ∷ row.Link table.CommentReplyOfComment 30 32
    ∷ row.Link table.CommentReplyOfComment 31 32
    ∷ row.Link table.CommentReplyOfComment 32 31
    ∷ []
