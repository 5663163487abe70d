use Rattle.std.proofs.Common.{rules}
use Rattle.snb_schema.specs.declared.op.InsertKind.TheVariants as kinds
use Rattle.snb_schema.specs.InsertLines.{beside_columns}
use Rattle.snb_schema.specs.Nodes.{forum_columns, forum_values}
use Rattle.snb_schema.specs.UpdateLines.{IsFirstBad}
use Rattle.snb_input_fields.specs.Fields.{StopsIn}
use Rattle.snb_input_fields.specs.Reading.{line_meaning}
use Rattle.snb_streams.proofs.MakeFacts.{beside_bad, expects_beside, expects_node, if_made, node_bad, on_bad}
use Rattle.snb_streams.proofs.make.forum.Goals as goal

pub read_forum-requires : goal.read_forum-requires
read_forum-requires c = expects_node kinds.AddForum c.args.fields.now.fields c.args.fields.now c.requires

pub add_forum-requires : goal.add_forum-requires
add_forum-requires c = expects_beside kinds.AddForum c.args.fields.now.fields c.args.fields.now c.requires (forum_values c.in_ok-forum.forum) c.read_forum.new.fields c.in_ok-forum.ensures.ok

pub returns-in_err-forum-clause-bad : goal.returns-in_err-forum-clause-bad
returns-in_err-forum-clause-bad c =
    on_bad c.from_residual.result (StopsIn line_meaning c.args.fields.now forum_columns) (IsFirstBad kinds.AddForum c.args.fields.now.fields)
    (node_bad kinds.AddForum c.args.fields.now.fields c.args.fields.now c.requires (λ c h. h)) (search rules)

pub returns-clause-ok : goal.returns-clause-ok
returns-clause-ok c =
    if_made kinds.AddForum c.args.fields.now.fields c.args.fields.now c.requires (forum_values c.in_ok-forum.forum) c.read_forum.new.fields c.add_forum.new.fields c.add_forum.result (λ friend. cc) c.in_ok-forum.ensures.ok c.add_forum.ensures.ok

pub returns-clause-bad : goal.returns-clause-bad
returns-clause-bad c =
    on_bad c.add_forum.result (StopsIn line_meaning c.read_forum.new.fields (beside_columns kinds.AddForum)) (IsFirstBad kinds.AddForum c.args.fields.now.fields)
    (beside_bad kinds.AddForum c.args.fields.now.fields c.args.fields.now c.requires (λ c h. h) (forum_values c.in_ok-forum.forum) c.read_forum.new.fields c.in_ok-forum.ensures.ok) c.add_forum.ensures.bad
