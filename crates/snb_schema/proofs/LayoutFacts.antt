-- What the code keeps of a table.
use Rattle.std.proofs.Common.{◌≡◌, [], ◌∷◌, refl, sym, subst}
use Rattle.snb_schema.specs.declared.layout.Layout.{Layout}
use Rattle.snb_schema.specs.declared.table.Table.{Table}
use Rattle.snb_schema.specs.declared.table.Table.TheVariants as table
use Rattle.snb_schema.specs.CodeLayouts.{IsLayoutOf}
use Rattle.snb_schema.specs.References.{required}

-- one layout is that of one table
pub kept_is : {kept made : Layout} {t u : Table} → kept ≡ made → t ≡ u → IsLayoutOf u made → IsLayoutOf t kept
kept_is {kept} {made} {t} {u} made_so is of = subst (λ l. IsLayoutOf t l) (sym made_so) (subst (λ a. IsLayoutOf a made) (sym is) of)

-- the edges that the layouts require
pub ten_required : required
    ≡ (table.Tag, table.TagHasTypeTagClass)
    ∷ (table.Organisation, table.OrganisationIsLocatedInPlace)
    ∷ (table.Person, table.PersonIsLocatedInPlace)
    ∷ (table.Forum, table.ForumHasModeratorPerson)
    ∷ (table.Post, table.ForumContainerOfPost)
    ∷ (table.Post, table.PostHasCreatorPerson)
    ∷ (table.Post, table.PostIsLocatedInPlace)
    ∷ (table.Comment, table.CommentHasCreatorPerson)
    ∷ (table.Comment, table.CommentIsLocatedInPlace)
    ∷ (table.Comment, table.CommentReplyOfPost)
    ∷ []
ten_required = refl
