use Rattle.std.proofs.Common.{refl}
use Rattle.snb_schema.specs.declared.layout.Shape.TheVariants as shapes
use Rattle.snb_schema.specs.declared.row.Row.TheVariants as row
use Rattle.snb_schema.specs.Nodes.{comment_columns}
use Rattle.snb_input_fields.proofs.Laws.{expects_all}
use Rattle.snb_csv.proofs.MadeFacts.{made}
use Rattle.snb_csv.proofs.make.comment.Goals as goal

pub read_comment-requires : goal.read_comment-requires
read_comment-requires c = expects_all comment_columns c.args.fields.now.fields c.args.fields.now c.requires

pub returns-clause-ok : goal.returns-clause-ok
returns-clause-ok c =
    made shapes.Comment c.args.table c.args.fields.now.fields c.args.fields.now c.read_comment.new.fields (row.Comment c.in_ok-read_comment.field-0) c.requires refl refl c.in_ok-read_comment.ensures.ok
