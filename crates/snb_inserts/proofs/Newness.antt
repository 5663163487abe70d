-- The rows of an insert that is welcome are new: no slot of them is filled, and no two of them have one slot.
use Rattle.std.proofs.Common.{◌∷◌, ℕ, min, max, List, [], refl}
use Rattle.snb_schema.specs.declared.op.Parent.{Parent}
use Rattle.snb_schema.specs.declared.op.Parent.TheVariants as parents
use Rattle.snb_schema.specs.declared.row.Row.{Row}
use Rattle.snb_schema.specs.declared.row.Row.TheVariants as row
use Rattle.snb_schema.specs.declared.table.Kind.TheVariants as kinds
use Rattle.snb_schema.specs.declared.table.Table.{Table}
use Rattle.snb_schema.specs.declared.table.Table.TheVariants as table
use Rattle.snb_inserts.proofs.Keys.{key_of}
use Rattle.snb_inserts.proofs.ListRows.{all_rows}
use Rattle.snb_schema.specs.InsertLines.{addition_kind, beside_columns, beside_values}
use Rattle.snb_schema.specs.Nodes.{Addition, NewPerson, NewForum, NewPost, NewComment, NewPostLike, NewCommentLike, NewMember, NewFriends, addition}
use Rattle.snb_columns.specs.Laws.{HasPlainFields}
use Rattle.snb_graph_model.specs.Graphs.{IsGraph}
use Rattle.snb_schema.specs.Inserts.{parent_row, rows_of}
use Rattle.snb_graph_model.specs.Soundness.{HoldsRefs}
use Rattle.snb_inserts.specs.Laws.{RowsAreNew}
use Rattle.snb_inserts.proofs.Fields.{AreProper, op_proper}
use Rattle.snb_inserts.proofs.TakenLemmas.{IsKeyFilled, filled_taken}
use Rattle.snb_inserts.proofs.Fresh.{AreFresh, IsAbsent, are_new, edge_fresh, joined, links_fresh, single, stays_fresh, words_fresh}

parent_fresh : {g : List Row} {id : ℕ} → IsAbsent g kinds.Comment id → (parent : Parent) → AreFresh g (table.CommentReplyOfPost ∷ []) (parent_row id parent ∷ [])
parent_fresh {id} new (parents.Post to) = edge_fresh new table.CommentReplyOfPost (row.Link table.CommentReplyOfPost id to) refl refl
parent_fresh {id} new (parents.Comment to) = edge_fresh new table.CommentReplyOfPost (row.Link table.CommentReplyOfComment id to) refl refl

-- the rows that an insert adds whose key isn't held
fresh : (g : List Row) (a : Addition) → IsGraph g → HoldsRefs g → AreProper (beside_columns (addition_kind a)) (beside_values a) → ¬ IsKeyFilled g (key_of a) → (ts : List Table) × AreFresh g ts (all_rows a)
fresh g (NewPerson person city languages emails tags study work) graph held (c, (spoken, (mailed, (tagged, (studied, (worked, end)))))) free =
    let new : IsAbsent g kinds.Person person.id = record { graph = graph; held = held; free = free } in (
      _,
      joined (single table.Person (row.Person _) refl free)
          (joined (edge_fresh new table.PersonIsLocatedInPlace (row.Link table.PersonIsLocatedInPlace person.id city) refl refl)
          (joined (joined (joined (joined
          (words_fresh new table.PersonEmailEmailAddress refl emails (λ text. refl) mailed.1)
          (words_fresh new table.PersonSpeaksLanguage refl languages (λ text. refl) spoken.1) (refl, tt))
          (links_fresh new table.PersonHasInterestTag refl tags (λ to. refl) tagged.1) (refl, (refl, tt)))
          (stays_fresh new table.PersonStudyAtOrganisation refl study (λ to. refl) studied.1) (refl, (refl, (refl, tt))))
          (stays_fresh new table.PersonWorkAtOrganisation refl work (λ to. refl) worked.1) (refl, (refl, (refl, (refl, tt)))))
          (refl, tt)) (refl, tt),
    )
fresh g (NewPostLike person post date) graph held proper free = (_, single table.PersonLikesPost (row.Dated table.PersonLikesPost person post date) refl free)
fresh g (NewCommentLike person comment date) graph held proper free = (_, single table.PersonLikesComment (row.Dated table.PersonLikesComment person comment date) refl free)
fresh g (NewForum forum moderator tags) graph held (m, (tagged, end)) free =
    let new : IsAbsent g kinds.Forum forum.id = record { graph = graph; held = held; free = free } in (
      _,
      joined (single table.Forum (row.Forum _) refl free)
          (joined (edge_fresh new table.ForumHasModeratorPerson (row.Link table.ForumHasModeratorPerson forum.id moderator) refl refl)
          (links_fresh new table.ForumHasTagTag refl tags (λ to. refl) tagged.1) (refl, tt)) (refl, tt),
    )
fresh g (NewMember person forum date) graph held proper free = (_, single table.ForumHasMemberPerson (row.Dated table.ForumHasMemberPerson forum person date) refl free)
fresh g (NewPost post author forum country tags) graph held (a, (f, (c, (tagged, end)))) free =
    let new : IsAbsent g kinds.Post post.id = record { graph = graph; held = held; free = free } in (
      _,
      joined (single table.Post (row.Post _) refl free)
          (joined (edge_fresh new table.ForumContainerOfPost (row.Link table.ForumContainerOfPost forum post.id) refl refl)
          (joined (edge_fresh new table.PostHasCreatorPerson (row.Link table.PostHasCreatorPerson post.id author) refl refl)
          (joined (edge_fresh new table.PostIsLocatedInPlace (row.Link table.PostIsLocatedInPlace post.id country) refl refl)
          (links_fresh new table.PostHasTagTag refl tags (λ to. refl) tagged.1) (refl, tt)) (refl, tt)) (refl, tt)) (refl, tt),
    )
fresh g (NewComment comment author country parent tags) graph held (a, (c, (parents, (other, (tagged, end))))) free =
    let new : IsAbsent g kinds.Comment comment.id = record { graph = graph; held = held; free = free } in (
      _,
      joined (single table.Post (row.Comment _) refl free)
          (joined (edge_fresh new table.CommentHasCreatorPerson (row.Link table.CommentHasCreatorPerson comment.id author) refl refl)
          (joined (edge_fresh new table.CommentIsLocatedInPlace (row.Link table.CommentIsLocatedInPlace comment.id country) refl refl)
          (joined (parent_fresh new parent)
          (links_fresh new table.CommentHasTagTag refl tags (λ to. refl) tagged.1) (refl, tt)) (refl, tt)) (refl, tt)) (refl, tt),
    )
fresh g (NewFriends one other date) graph held proper free = (_, single table.PersonKnowsPerson (row.Dated table.PersonKnowsPerson (min one other) (max one other) date) refl free)

-- where an insert that has a line is welcome, its rows are new
pub rows_new : ((line : List ℕ) → HasPlainFields line) → RowsAreNew
rows_new plain g op graph held has welcome = let all = fresh g (addition op) graph held (op_proper plain op has).1 (λ filled. welcome.1 (filled_taken g (addition op) filled)) in are_new g all.0 (rows_of op) all.1
