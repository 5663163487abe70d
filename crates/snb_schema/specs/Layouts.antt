-- The table of tables: what each of the 33 tables is called, what its rows hold, what they refer
-- to, and what tells them apart.
use Prim.Native.String.{String}
use Rattle.std.specs.Prelude.{Bool, true, false, Option, Some, None}
use Rattle.snb_schema.specs.declared.layout.KeyColumns.{KeyColumns}
use Rattle.snb_schema.specs.declared.layout.KeyColumns.TheVariants.{First, Second, FirstTwo}
use Rattle.snb_schema.specs.declared.layout.Shape.{Shape}
use Rattle.snb_schema.specs.declared.layout.Shape.TheVariants.{Link, Dated, Yeared, Word}
use Rattle.snb_schema.specs.declared.layout.Shape.TheVariants as shapes
use Rattle.snb_schema.specs.declared.table.Kind.{Kind}
use Rattle.snb_schema.specs.declared.table.Kind.TheVariants.{Place, TagClass, Tag, Organisation, Person, Forum, Post, Comment}
use Rattle.snb_schema.specs.declared.table.Table.{Table}
use Rattle.snb_schema.specs.declared.table.Table.TheVariants as table

-- what is fixed of a table
pub record Layout : Type 0 where
  pub name : String  -- by which its files are named
  pub shape : Shape  -- what its rows are like
  -- the columns that are its key; of an edge without direction it is the pair, in whichever order
  pub key_columns : KeyColumns
  -- the kinds of node that the first id of its rows refers to, and the second column; a node's own
  -- id refers to nothing, and an email or a language is no node
  pub from_kind : Option Kind
  pub to_kind : Option Kind
  -- the kind of node of which each must have a row of it; the row's key is the node's id
  pub required_of : Option Kind
  pub has_no_direction : Bool  -- its edges have no direction, so a row has the lower id first
  pub is_needed : Bool  -- part 0 of its file must be there
  pub shares : Option Table  -- the other table with which it shares its keys

-- a table of nodes: name, shape, is needed, shares
abbrev pub node : String → Shape → Bool → Option Table → Layout
node name shape needed shares = record {
  name = name;
  shape = shape;
  key_columns = First;
  from_kind = None;
  to_kind = None;
  required_of = None;
  has_no_direction = false;
  is_needed = needed;
  shares = shares;
}

-- a table of edges: name, shape, key columns, from, to, required of, has no direction, is needed,
-- shares
abbrev pub edge : String → Shape → KeyColumns → Kind → Kind → Option Kind → Bool → Bool
    → Option Table → Layout
edge name shape key from to required undirected needed shares = record {
  name = name;
  shape = shape;
  key_columns = key;
  from_kind = Some from;
  to_kind = Some to;
  required_of = required;
  has_no_direction = undirected;
  is_needed = needed;
  shares = shares;
}

-- a table of words: name, key columns, from, is needed
abbrev pub word : String → KeyColumns → Kind → Bool → Layout
word name key from needed = record {
  name = name;
  shape = Word;
  key_columns = key;
  from_kind = Some from;
  to_kind = None;
  required_of = None;
  has_no_direction = false;
  is_needed = needed;
  shares = None;
}

-- the 33 tables, nodes and then edges. Posts and comments have one id space, and a comment has one
-- parent, be it a post or a comment
abbrev pub layout : Table → Layout
layout table.Place = node "place" shapes.Place true None
layout table.TagClass = node "tagclass" shapes.TagClass true None
layout table.Tag = node "tag" shapes.Tag true None
layout table.Organisation = node "organisation" shapes.Organisation true None
layout table.Person = node "person" shapes.Person true None
layout table.Forum = node "forum" shapes.Forum true None
layout table.Post = node "post" shapes.Post true None
layout table.Comment = node "comment" shapes.Comment true (Some table.Post)
layout table.PlaceIsPartOfPlace =
    edge "place_isPartOf_place" Link First Place Place None false true None
layout table.TagClassIsSubclassOfTagClass =
    edge "tagclass_isSubclassOf_tagclass" Link First TagClass TagClass None false true None
layout table.TagHasTypeTagClass =
    edge "tag_hasType_tagclass" Link First Tag TagClass (Some Tag) false true None
layout table.OrganisationIsLocatedInPlace =
    edge "organisation_isLocatedIn_place" Link First Organisation Place (Some Organisation) false
    true None
layout table.PersonEmailEmailAddress = word "person_email_emailaddress" FirstTwo Person true
layout table.PersonSpeaksLanguage = word "person_speaks_language" FirstTwo Person true
layout table.PersonHasInterestTag =
    edge "person_hasInterest_tag" Link FirstTwo Person Tag None false true None
layout table.PersonIsLocatedInPlace =
    edge "person_isLocatedIn_place" Link First Person Place (Some Person) false true None
layout table.PersonKnowsPerson =
    edge "person_knows_person" Dated FirstTwo Person Person None true true None
layout table.PersonLikesPost =
    edge "person_likes_post" Dated FirstTwo Person Post None false true None
layout table.PersonLikesComment =
    edge "person_likes_comment" Dated FirstTwo Person Comment None false true None
layout table.PersonStudyAtOrganisation =
    edge "person_studyAt_organisation" Yeared FirstTwo Person Organisation None false true None
layout table.PersonWorkAtOrganisation =
    edge "person_workAt_organisation" Yeared FirstTwo Person Organisation None false true None
layout table.ForumContainerOfPost =
    edge "forum_containerOf_post" Link Second Forum Post (Some Post) false true None
layout table.ForumHasMemberPerson =
    edge "forum_hasMember_person" Dated FirstTwo Forum Person None false true None
layout table.ForumHasModeratorPerson =
    edge "forum_hasModerator_person" Link First Forum Person (Some Forum) false true None
layout table.ForumHasTagTag = edge "forum_hasTag_tag" Link FirstTwo Forum Tag None false true None
layout table.PostHasCreatorPerson =
    edge "post_hasCreator_person" Link First Post Person (Some Post) false true None
layout table.PostHasTagTag = edge "post_hasTag_tag" Link FirstTwo Post Tag None false true None
layout table.PostIsLocatedInPlace =
    edge "post_isLocatedIn_place" Link First Post Place (Some Post) false true None
layout table.CommentHasCreatorPerson =
    edge "comment_hasCreator_person" Link First Comment Person (Some Comment) false true None
layout table.CommentHasTagTag =
    edge "comment_hasTag_tag" Link FirstTwo Comment Tag None false true None
layout table.CommentIsLocatedInPlace =
    edge "comment_isLocatedIn_place" Link First Comment Place (Some Comment) false true None
layout table.CommentReplyOfPost =
    edge "comment_replyOf_post" Link First Comment Post (Some Comment) false true None
layout table.CommentReplyOfComment =
    edge "comment_replyOf_comment" Link First Comment Comment None false true
    (Some table.CommentReplyOfPost)

-- what the rows of a table are like
abbrev pub shape : Table → Shape
shape t = (layout t).shape

-- the columns that are a table's key; of a friendship it is the pair, in whichever order
abbrev pub key_columns : Table → KeyColumns
key_columns t = (layout t).key_columns

-- an edge of the table has no direction, so its row has the lower id first
abbrev pub has_no_direction : Table → Bool
has_no_direction t = (layout t).has_no_direction
