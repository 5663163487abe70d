use Rattle.std.proofs.Common.{refl}
use Rattle.snb_schema.specs.declared.layout.Shape.TheVariants as shapes
use Rattle.snb_schema.specs.declared.row.Row.TheVariants as row
use Rattle.snb_schema.specs.Nodes.{post_columns}
use Rattle.snb_input_fields.proofs.Laws.{expects_all}
use Rattle.snb_csv.proofs.MadeFacts.{made}
use Rattle.snb_csv.proofs.make.post.Goals as goal

pub read_post-requires : goal.read_post-requires
read_post-requires c = expects_all post_columns c.args.fields.now.fields c.args.fields.now c.requires

pub returns-clause-ok : goal.returns-clause-ok
returns-clause-ok c =
    made shapes.Post c.args.table c.args.fields.now.fields c.args.fields.now c.read_post.new.fields (row.Post c.in_ok-read_post.field-0) c.requires refl refl c.in_ok-read_post.ensures.ok
