-- The 33 tables in their order.
use Rattle.std.specs.Prelude.{Bool, List, [], ◌∷◌}
use Rattle.std.specs.declared.cmp.Ordering.{Ordering}
use Rattle.snb_schema.specs.contracts.table.TableOrd.TheImpl as table_ord
use Rattle.snb_schema.specs.contracts.table.TablePartialEq.TheImpl as table_eq
use Rattle.snb_schema.specs.declared.table.Table.{Table}
use Rattle.snb_schema.specs.declared.table.Table.TheVariants as table

-- two tables are one
abbrev pub same_table : Table → Table → Bool
same_table = (table_eq.ghosts).eq

-- tables in the order in which they are read, checked and written
abbrev pub table_order : Table → Table → Ordering
table_order = (table_ord.ghosts).cmp

-- all tables, in this order: nodes, then edges
abbrev pub all_tables : List Table
all_tables =
    table.Place
    ∷ table.TagClass
    ∷ table.Tag
    ∷ table.Organisation
    ∷ table.Person
    ∷ table.Forum
    ∷ table.Post
    ∷ table.Comment
    ∷ table.PlaceIsPartOfPlace
    ∷ table.TagClassIsSubclassOfTagClass
    ∷ table.TagHasTypeTagClass
    ∷ table.OrganisationIsLocatedInPlace
    ∷ table.PersonEmailEmailAddress
    ∷ table.PersonSpeaksLanguage
    ∷ table.PersonHasInterestTag
    ∷ table.PersonIsLocatedInPlace
    ∷ table.PersonKnowsPerson
    ∷ table.PersonLikesPost
    ∷ table.PersonLikesComment
    ∷ table.PersonStudyAtOrganisation
    ∷ table.PersonWorkAtOrganisation
    ∷ table.ForumContainerOfPost
    ∷ table.ForumHasMemberPerson
    ∷ table.ForumHasModeratorPerson
    ∷ table.ForumHasTagTag
    ∷ table.PostHasCreatorPerson
    ∷ table.PostHasTagTag
    ∷ table.PostIsLocatedInPlace
    ∷ table.CommentHasCreatorPerson
    ∷ table.CommentHasTagTag
    ∷ table.CommentIsLocatedInPlace
    ∷ table.CommentReplyOfPost
    ∷ table.CommentReplyOfComment
    ∷ []
