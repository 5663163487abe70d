use Rattle.std.proofs.Common.{◌∙◌, ◌+◌, ℕ, List, arith, ap, refl, rules, subst}
use Rattle.std.specs.Prelude.{IfOk}
use Rattle.snb_schema.specs.declared.op.InsertKind.TheVariants as kinds
use Rattle.snb_schema.specs.Nodes.{comment_columns, comment_values}
use Rattle.snb_schema.specs.UpdateLines.{IsFirstBad}
use Rattle.snb_input_fields.specs.Fields.{StopsIn}
use Rattle.snb_input_fields.specs.Reading.{Reading, line_meaning}
use Rattle.snb_input_fields.proofs.Laws.{at, reads_to}
use Rattle.snb_streams.proofs.MakeFacts.{at_own, expects_node, if_spelled, node_first, on_bad}
use Rattle.snb_streams.specs.Make.{HasSpelled}
use Rattle.snb_streams.proofs.make.comment.Goals as goal

pub read_comment-requires : goal.read_comment-requires
read_comment-requires c = expects_node kinds.AddComment c.args.fields.now.fields c.args.fields.now c.requires

pub add_comment-requires : goal.add_comment-requires
add_comment-requires c =
    at_own kinds.AddComment c.args.fields.now.fields 9 c.read_comment.new.fields
    (reads_to comment_columns (comment_values c.in_ok-comment.comment) c.args.fields.now c.read_comment.new.fields c.in_ok-comment.ensures.ok ∙ ap (λ (r : Reading). at r.columns r.fields (r.read + 6)) c.requires)

pub returns-in_err-comment-clause-bad : goal.returns-in_err-comment-clause-bad
returns-in_err-comment-clause-bad c =
    on_bad c.from_residual.result (StopsIn line_meaning c.args.fields.now comment_columns) (IsFirstBad kinds.AddComment c.args.fields.now.fields)
    (node_first kinds.AddComment c.args.fields.now.fields c.args.fields.now c.requires 9 refl (λ column clash. (let at = clash.0 in omega (arith, at)))) (search rules)

pub returns-clause-ok : goal.returns-clause-ok
returns-clause-ok c =
    let same = ap (λ (r : Reading). r.fields) (reads_to comment_columns (comment_values c.in_ok-comment.comment) c.args.fields.now c.read_comment.new.fields c.in_ok-comment.ensures.ok) in
    if_spelled kinds.AddComment c.args.fields.now.fields c.args.fields.now c.requires (comment_values c.in_ok-comment.comment) c.read_comment.new.fields c.add_comment.result (λ friend. cc) c.in_ok-comment.ensures.ok
    (subst (λ (xs : List (List ℕ)). IfOk c.add_comment.result (HasSpelled kinds.AddComment (comment_values c.in_ok-comment.comment) 9 xs)) same c.add_comment.ensures.ok)
