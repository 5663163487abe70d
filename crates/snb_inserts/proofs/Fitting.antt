-- The rows of an insert that has a line are rows that their tables can have.
use Rattle.std.proofs.Common.{◌≢◌, ◌<◌, ◌≤◌, ℕ, min, max, List, refl, arith}
use Rattle.std.proofs.lemmas.List.Elements.{All-from_recursion}
use Rattle.std.specs.List.{AllByRecursion}
use Rattle.snb_schema.specs.declared.column.Column.TheVariants.{OptionalId}
use Rattle.snb_schema.specs.declared.limits.TheConstants.{MAX_ID}
use Rattle.snb_schema.specs.declared.op.Parent.{Parent}
use Rattle.snb_schema.specs.declared.op.Parent.TheVariants as parents
use Rattle.snb_schema.specs.declared.row.Row.TheVariants as row
use Rattle.snb_schema.specs.declared.table.Table.TheVariants as table
use Rattle.snb_schema.specs.TableRows.{IsTableRow}
use Rattle.snb_schema.specs.UpdateLines.{AreTwo}
use Rattle.snb_schema.specs.InsertLines.{addition_kind, beside_columns, beside_values, node_columns, node_values, parent_comment, parent_post}
use Rattle.snb_schema.specs.Nodes.{Addition, NewPerson, NewForum, NewPost, NewComment, NewPostLike, NewCommentLike, NewMember, NewFriends, addition}
use Rattle.snb_columns.specs.Laws.{HasPlainFields}
use Rattle.snb_schema.specs.Inserts.{parent_row, rows_of}
use Rattle.snb_inserts.proofs.ListRows.{all_rows, links, stays, words}
use Rattle.snb_inserts.specs.Laws.{RowsFit}
use Rattle.snb_inserts.proofs.Fields.{AreProper, IsProper, IsWordText, IsYearly, op_proper}
use Rattle.snb_inserts.proofs.Lists.{each_both, each_of}

-- the lower of two ids that differ is the lower
lower_first : (one other : ℕ) → one ≢ other → min one other < max one other
lower_first one other ne = omega (arith, ne)

parent_fits : (comment : ℕ) (parent : Parent) → comment ≤ MAX_ID → IsProper OptionalId (parent_post parent) → IsProper OptionalId (parent_comment parent) → IsTableRow (parent_row comment parent)
parent_fits comment (parents.Post to) id post other = record { shaped = refl; in_order = tt; within = (id, (post, tt)) }
parent_fits comment (parents.Comment to) id post other = record { shaped = refl; in_order = tt; within = (id, (other, tt)) }

fitting : (a : Addition) → AreProper (node_columns (addition_kind a)) (node_values a) → AreProper (beside_columns (addition_kind a)) (beside_values a) → AreTwo a → AllByRecursion IsTableRow (all_rows a)
fitting (NewPerson person city languages emails tags study work) node (c, (spoken, (mailed, (tagged, (studied, (worked, end)))))) two = (
  record { shaped = refl; in_order = tt; within = node },
  (
    record { shaped = refl; in_order = tt; within = (node.0, (c, tt)) },
    each_both IsTableRow _ (stays table.PersonWorkAtOrganisation person.id work)
        (each_both IsTableRow _ (stays table.PersonStudyAtOrganisation person.id study)
        (each_both IsTableRow _ (links table.PersonHasInterestTag person.id tags)
        (each_both IsTableRow (words table.PersonEmailEmailAddress person.id emails) (words table.PersonSpeaksLanguage person.id languages)
        (each_of IsWordText IsTableRow (λ text. row.Word table.PersonEmailEmailAddress person.id text) (λ text t. record { shaped = refl; in_order = tt; within = (node.0, (t, tt)) }) emails mailed.0)
        (each_of IsWordText IsTableRow (λ text. row.Word table.PersonSpeaksLanguage person.id text) (λ text t. record { shaped = refl; in_order = tt; within = (node.0, (t, tt)) }) languages spoken.0))
        (each_of (λ to. to ≤ MAX_ID) IsTableRow (λ to. row.Link table.PersonHasInterestTag person.id to) (λ to t. record { shaped = refl; in_order = tt; within = (node.0, (t, tt)) }) tags tagged.0))
        (each_of IsYearly IsTableRow (λ to. row.Yeared table.PersonStudyAtOrganisation person.id to.0 to.1) (λ to t. record { shaped = refl; in_order = tt; within = (node.0, (t.0, (t.1, tt))) }) study studied.0))
        (each_of IsYearly IsTableRow (λ to. row.Yeared table.PersonWorkAtOrganisation person.id to.0 to.1) (λ to t. record { shaped = refl; in_order = tt; within = (node.0, (t.0, (t.1, tt))) }) work worked.0),
  ),
)
fitting (NewPostLike person post date) node (p, (m, (d, end))) two = (record { shaped = refl; in_order = tt; within = (p, (m, (d, tt))) }, tt)
fitting (NewCommentLike person comment date) node (p, (m, (d, end))) two = (record { shaped = refl; in_order = tt; within = (p, (m, (d, tt))) }, tt)
fitting (NewForum forum moderator tags) node (m, (tagged, end)) two = (
  record { shaped = refl; in_order = tt; within = node },
  (
    record { shaped = refl; in_order = tt; within = (node.0, (m, tt)) },
    each_of (λ to. to ≤ MAX_ID) IsTableRow (λ to. row.Link table.ForumHasTagTag forum.id to) (λ to t. record { shaped = refl; in_order = tt; within = (node.0, (t, tt)) }) tags tagged.0,
  ),
)
fitting (NewMember person forum date) node (p, (f, (d, end))) two = (record { shaped = refl; in_order = tt; within = (f, (p, (d, tt))) }, tt)
fitting (NewPost post author forum country tags) node (a, (f, (c, (tagged, end)))) two = (
  record { shaped = refl; in_order = tt; within = node },
  (
    record { shaped = refl; in_order = tt; within = (f, (node.0, tt)) },
    (
      record { shaped = refl; in_order = tt; within = (node.0, (a, tt)) },
      (
        record { shaped = refl; in_order = tt; within = (node.0, (c, tt)) },
        each_of (λ to. to ≤ MAX_ID) IsTableRow (λ to. row.Link table.PostHasTagTag post.id to) (λ to t. record { shaped = refl; in_order = tt; within = (node.0, (t, tt)) }) tags tagged.0,
      ),
    ),
  ),
)
fitting (NewComment comment author country parent tags) node (a, (c, (post, (other, (tagged, end))))) two = (
  record { shaped = refl; in_order = tt; within = node },
  (
    record { shaped = refl; in_order = tt; within = (node.0, (a, tt)) },
    (
      record { shaped = refl; in_order = tt; within = (node.0, (c, tt)) },
      (
        parent_fits comment.id parent node.0 post other,
        each_of (λ to. to ≤ MAX_ID) IsTableRow (λ to. row.Link table.CommentHasTagTag comment.id to) (λ to t. record { shaped = refl; in_order = tt; within = (node.0, (t, tt)) }) tags tagged.0,
      ),
    ),
  ),
)
fitting (NewFriends one other date) node (a, (b, (d, end))) two =
    (record { shaped = refl; in_order = lower_first one other two; within = (omega (arith, a, b), (omega (arith, a, b), (d, tt))) }, tt)

-- the rows of an insert that has a line are rows that their tables can have
pub rows_fit : ((line : List ℕ) → HasPlainFields line) → RowsFit
rows_fit plain op has =
    let proper = op_proper plain op has in
    All-from_recursion IsTableRow (rows_of op) (fitting (addition op) proper.0 proper.1 has.3.of_two)
