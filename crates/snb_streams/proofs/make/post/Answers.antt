use Rattle.std.proofs.Common.{rules}
use Rattle.snb_schema.specs.declared.op.InsertKind.TheVariants as kinds
use Rattle.snb_schema.specs.InsertLines.{beside_columns}
use Rattle.snb_schema.specs.Nodes.{post_columns, post_values}
use Rattle.snb_schema.specs.UpdateLines.{IsFirstBad}
use Rattle.snb_input_fields.specs.Fields.{StopsIn}
use Rattle.snb_input_fields.specs.Reading.{line_meaning}
use Rattle.snb_streams.proofs.MakeFacts.{beside_bad, expects_beside, expects_node, if_made, node_bad, on_bad}
use Rattle.snb_streams.proofs.make.post.Goals as goal

pub read_post-requires : goal.read_post-requires
read_post-requires c = expects_node kinds.AddPost c.args.fields.now.fields c.args.fields.now c.requires

pub add_post-requires : goal.add_post-requires
add_post-requires c = expects_beside kinds.AddPost c.args.fields.now.fields c.args.fields.now c.requires (post_values c.in_ok-post.post) c.read_post.new.fields c.in_ok-post.ensures.ok

pub returns-in_err-post-clause-bad : goal.returns-in_err-post-clause-bad
returns-in_err-post-clause-bad c =
    on_bad c.from_residual.result (StopsIn line_meaning c.args.fields.now post_columns) (IsFirstBad kinds.AddPost c.args.fields.now.fields)
    (node_bad kinds.AddPost c.args.fields.now.fields c.args.fields.now c.requires (λ c h. h)) (search rules)

pub returns-clause-ok : goal.returns-clause-ok
returns-clause-ok c =
    if_made kinds.AddPost c.args.fields.now.fields c.args.fields.now c.requires (post_values c.in_ok-post.post) c.read_post.new.fields c.add_post.new.fields c.add_post.result (λ friend. cc) c.in_ok-post.ensures.ok c.add_post.ensures.ok

pub returns-clause-bad : goal.returns-clause-bad
returns-clause-bad c =
    on_bad c.add_post.result (StopsIn line_meaning c.read_post.new.fields (beside_columns kinds.AddPost)) (IsFirstBad kinds.AddPost c.args.fields.now.fields)
    (beside_bad kinds.AddPost c.args.fields.now.fields c.args.fields.now c.requires (λ c h. h) (post_values c.in_ok-post.post) c.read_post.new.fields c.in_ok-post.ensures.ok) c.add_post.ensures.bad
