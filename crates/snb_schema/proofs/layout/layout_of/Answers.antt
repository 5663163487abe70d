use Rattle.std.proofs.Common.{refl}
use Rattle.snb_schema.proofs.LayoutFacts.{kept_is}
use Rattle.snb_schema.proofs.layout.layout_of.Goals as goal

pub returns-in-Place : goal.returns-in-Place
returns-in-Place c = kept_is c.node.ensures c.in-Place.is (record { name = refl; shape = refl; key_columns = refl; from_kind = refl; to_kind = refl; required_of = refl; has_no_direction = refl; is_needed = refl; shares = refl })

pub returns-in-TagClass : goal.returns-in-TagClass
returns-in-TagClass c = kept_is c.node-in-TagClass.ensures c.in-TagClass.is (record { name = refl; shape = refl; key_columns = refl; from_kind = refl; to_kind = refl; required_of = refl; has_no_direction = refl; is_needed = refl; shares = refl })

pub returns-in-Tag : goal.returns-in-Tag
returns-in-Tag c = kept_is c.node-in-Tag.ensures c.in-Tag.is (record { name = refl; shape = refl; key_columns = refl; from_kind = refl; to_kind = refl; required_of = refl; has_no_direction = refl; is_needed = refl; shares = refl })

pub returns-in-Organisation : goal.returns-in-Organisation
returns-in-Organisation c = kept_is c.node-in-Organisation.ensures c.in-Organisation.is (record { name = refl; shape = refl; key_columns = refl; from_kind = refl; to_kind = refl; required_of = refl; has_no_direction = refl; is_needed = refl; shares = refl })

pub returns-in-Person : goal.returns-in-Person
returns-in-Person c = kept_is c.node-in-Person.ensures c.in-Person.is (record { name = refl; shape = refl; key_columns = refl; from_kind = refl; to_kind = refl; required_of = refl; has_no_direction = refl; is_needed = refl; shares = refl })

pub returns-in-Forum : goal.returns-in-Forum
returns-in-Forum c = kept_is c.node-in-Forum.ensures c.in-Forum.is (record { name = refl; shape = refl; key_columns = refl; from_kind = refl; to_kind = refl; required_of = refl; has_no_direction = refl; is_needed = refl; shares = refl })

pub returns-in-Post : goal.returns-in-Post
returns-in-Post c = kept_is c.node-in-Post.ensures c.in-Post.is (record { name = refl; shape = refl; key_columns = refl; from_kind = refl; to_kind = refl; required_of = refl; has_no_direction = refl; is_needed = refl; shares = refl })

pub returns-in-Comment : goal.returns-in-Comment
returns-in-Comment c = kept_is c.node-in-Comment.ensures c.in-Comment.is (record { name = refl; shape = refl; key_columns = refl; from_kind = refl; to_kind = refl; required_of = refl; has_no_direction = refl; is_needed = refl; shares = refl })

pub returns-in-PlaceIsPartOfPlace : goal.returns-in-PlaceIsPartOfPlace
returns-in-PlaceIsPartOfPlace c = kept_is c.edge.ensures c.in-PlaceIsPartOfPlace.is (record { name = refl; shape = refl; key_columns = refl; from_kind = refl; to_kind = refl; required_of = refl; has_no_direction = refl; is_needed = refl; shares = refl })

pub returns-in-TagClassIsSubclassOfTagClass : goal.returns-in-TagClassIsSubclassOfTagClass
returns-in-TagClassIsSubclassOfTagClass c = kept_is c.edge-in-TagClassIsSubclassOfTagClass.ensures c.in-TagClassIsSubclassOfTagClass.is (record { name = refl; shape = refl; key_columns = refl; from_kind = refl; to_kind = refl; required_of = refl; has_no_direction = refl; is_needed = refl; shares = refl })

pub returns-in-TagHasTypeTagClass : goal.returns-in-TagHasTypeTagClass
returns-in-TagHasTypeTagClass c = kept_is c.edge-in-TagHasTypeTagClass.ensures c.in-TagHasTypeTagClass.is (record { name = refl; shape = refl; key_columns = refl; from_kind = refl; to_kind = refl; required_of = refl; has_no_direction = refl; is_needed = refl; shares = refl })

pub returns-in-OrganisationIsLocatedInPlace : goal.returns-in-OrganisationIsLocatedInPlace
returns-in-OrganisationIsLocatedInPlace c = kept_is c.edge-in-OrganisationIsLocatedInPlace.ensures c.in-OrganisationIsLocatedInPlace.is (record { name = refl; shape = refl; key_columns = refl; from_kind = refl; to_kind = refl; required_of = refl; has_no_direction = refl; is_needed = refl; shares = refl })

pub returns-in-PersonEmailEmailAddress : goal.returns-in-PersonEmailEmailAddress
returns-in-PersonEmailEmailAddress c = kept_is c.word.ensures c.in-PersonEmailEmailAddress.is (record { name = refl; shape = refl; key_columns = refl; from_kind = refl; to_kind = refl; required_of = refl; has_no_direction = refl; is_needed = refl; shares = refl })

pub returns-in-PersonSpeaksLanguage : goal.returns-in-PersonSpeaksLanguage
returns-in-PersonSpeaksLanguage c = kept_is c.word-in-PersonSpeaksLanguage.ensures c.in-PersonSpeaksLanguage.is (record { name = refl; shape = refl; key_columns = refl; from_kind = refl; to_kind = refl; required_of = refl; has_no_direction = refl; is_needed = refl; shares = refl })

pub returns-in-PersonHasInterestTag : goal.returns-in-PersonHasInterestTag
returns-in-PersonHasInterestTag c = kept_is c.edge-in-PersonHasInterestTag.ensures c.in-PersonHasInterestTag.is (record { name = refl; shape = refl; key_columns = refl; from_kind = refl; to_kind = refl; required_of = refl; has_no_direction = refl; is_needed = refl; shares = refl })

pub returns-in-PersonIsLocatedInPlace : goal.returns-in-PersonIsLocatedInPlace
returns-in-PersonIsLocatedInPlace c = kept_is c.edge-in-PersonIsLocatedInPlace.ensures c.in-PersonIsLocatedInPlace.is (record { name = refl; shape = refl; key_columns = refl; from_kind = refl; to_kind = refl; required_of = refl; has_no_direction = refl; is_needed = refl; shares = refl })

pub returns-in-PersonKnowsPerson : goal.returns-in-PersonKnowsPerson
returns-in-PersonKnowsPerson c = kept_is c.edge-in-PersonKnowsPerson.ensures c.in-PersonKnowsPerson.is (record { name = refl; shape = refl; key_columns = refl; from_kind = refl; to_kind = refl; required_of = refl; has_no_direction = refl; is_needed = refl; shares = refl })

pub returns-in-PersonLikesPost : goal.returns-in-PersonLikesPost
returns-in-PersonLikesPost c = kept_is c.edge-in-PersonLikesPost.ensures c.in-PersonLikesPost.is (record { name = refl; shape = refl; key_columns = refl; from_kind = refl; to_kind = refl; required_of = refl; has_no_direction = refl; is_needed = refl; shares = refl })

pub returns-in-PersonLikesComment : goal.returns-in-PersonLikesComment
returns-in-PersonLikesComment c = kept_is c.edge-in-PersonLikesComment.ensures c.in-PersonLikesComment.is (record { name = refl; shape = refl; key_columns = refl; from_kind = refl; to_kind = refl; required_of = refl; has_no_direction = refl; is_needed = refl; shares = refl })

pub returns-in-PersonStudyAtOrganisation : goal.returns-in-PersonStudyAtOrganisation
returns-in-PersonStudyAtOrganisation c = kept_is c.edge-in-PersonStudyAtOrganisation.ensures c.in-PersonStudyAtOrganisation.is (record { name = refl; shape = refl; key_columns = refl; from_kind = refl; to_kind = refl; required_of = refl; has_no_direction = refl; is_needed = refl; shares = refl })

pub returns-in-PersonWorkAtOrganisation : goal.returns-in-PersonWorkAtOrganisation
returns-in-PersonWorkAtOrganisation c = kept_is c.edge-in-PersonWorkAtOrganisation.ensures c.in-PersonWorkAtOrganisation.is (record { name = refl; shape = refl; key_columns = refl; from_kind = refl; to_kind = refl; required_of = refl; has_no_direction = refl; is_needed = refl; shares = refl })

pub returns-in-ForumContainerOfPost : goal.returns-in-ForumContainerOfPost
returns-in-ForumContainerOfPost c = kept_is c.edge-in-ForumContainerOfPost.ensures c.in-ForumContainerOfPost.is (record { name = refl; shape = refl; key_columns = refl; from_kind = refl; to_kind = refl; required_of = refl; has_no_direction = refl; is_needed = refl; shares = refl })

pub returns-in-ForumHasMemberPerson : goal.returns-in-ForumHasMemberPerson
returns-in-ForumHasMemberPerson c = kept_is c.edge-in-ForumHasMemberPerson.ensures c.in-ForumHasMemberPerson.is (record { name = refl; shape = refl; key_columns = refl; from_kind = refl; to_kind = refl; required_of = refl; has_no_direction = refl; is_needed = refl; shares = refl })

pub returns-in-ForumHasModeratorPerson : goal.returns-in-ForumHasModeratorPerson
returns-in-ForumHasModeratorPerson c = kept_is c.edge-in-ForumHasModeratorPerson.ensures c.in-ForumHasModeratorPerson.is (record { name = refl; shape = refl; key_columns = refl; from_kind = refl; to_kind = refl; required_of = refl; has_no_direction = refl; is_needed = refl; shares = refl })

pub returns-in-ForumHasTagTag : goal.returns-in-ForumHasTagTag
returns-in-ForumHasTagTag c = kept_is c.edge-in-ForumHasTagTag.ensures c.in-ForumHasTagTag.is (record { name = refl; shape = refl; key_columns = refl; from_kind = refl; to_kind = refl; required_of = refl; has_no_direction = refl; is_needed = refl; shares = refl })

pub returns-in-PostHasCreatorPerson : goal.returns-in-PostHasCreatorPerson
returns-in-PostHasCreatorPerson c = kept_is c.edge-in-PostHasCreatorPerson.ensures c.in-PostHasCreatorPerson.is (record { name = refl; shape = refl; key_columns = refl; from_kind = refl; to_kind = refl; required_of = refl; has_no_direction = refl; is_needed = refl; shares = refl })

pub returns-in-PostHasTagTag : goal.returns-in-PostHasTagTag
returns-in-PostHasTagTag c = kept_is c.edge-in-PostHasTagTag.ensures c.in-PostHasTagTag.is (record { name = refl; shape = refl; key_columns = refl; from_kind = refl; to_kind = refl; required_of = refl; has_no_direction = refl; is_needed = refl; shares = refl })

pub returns-in-PostIsLocatedInPlace : goal.returns-in-PostIsLocatedInPlace
returns-in-PostIsLocatedInPlace c = kept_is c.edge-in-PostIsLocatedInPlace.ensures c.in-PostIsLocatedInPlace.is (record { name = refl; shape = refl; key_columns = refl; from_kind = refl; to_kind = refl; required_of = refl; has_no_direction = refl; is_needed = refl; shares = refl })

pub returns-in-CommentHasCreatorPerson : goal.returns-in-CommentHasCreatorPerson
returns-in-CommentHasCreatorPerson c = kept_is c.edge-in-CommentHasCreatorPerson.ensures c.in-CommentHasCreatorPerson.is (record { name = refl; shape = refl; key_columns = refl; from_kind = refl; to_kind = refl; required_of = refl; has_no_direction = refl; is_needed = refl; shares = refl })

pub returns-in-CommentHasTagTag : goal.returns-in-CommentHasTagTag
returns-in-CommentHasTagTag c = kept_is c.edge-in-CommentHasTagTag.ensures c.in-CommentHasTagTag.is (record { name = refl; shape = refl; key_columns = refl; from_kind = refl; to_kind = refl; required_of = refl; has_no_direction = refl; is_needed = refl; shares = refl })

pub returns-in-CommentIsLocatedInPlace : goal.returns-in-CommentIsLocatedInPlace
returns-in-CommentIsLocatedInPlace c = kept_is c.edge-in-CommentIsLocatedInPlace.ensures c.in-CommentIsLocatedInPlace.is (record { name = refl; shape = refl; key_columns = refl; from_kind = refl; to_kind = refl; required_of = refl; has_no_direction = refl; is_needed = refl; shares = refl })

pub returns-in-CommentReplyOfPost : goal.returns-in-CommentReplyOfPost
returns-in-CommentReplyOfPost c = kept_is c.edge-in-CommentReplyOfPost.ensures c.in-CommentReplyOfPost.is (record { name = refl; shape = refl; key_columns = refl; from_kind = refl; to_kind = refl; required_of = refl; has_no_direction = refl; is_needed = refl; shares = refl })

pub returns-in-CommentReplyOfComment : goal.returns-in-CommentReplyOfComment
returns-in-CommentReplyOfComment c = kept_is c.edge-in-CommentReplyOfComment.ensures c.in-CommentReplyOfComment.is (record { name = refl; shape = refl; key_columns = refl; from_kind = refl; to_kind = refl; required_of = refl; has_no_direction = refl; is_needed = refl; shares = refl })
