use Rattle.std.proofs.Common.{refl}
use Rattle.snb_schema.specs.declared.layout.Shape.TheVariants as shapes
use Rattle.snb_schema.specs.declared.row.Row.TheVariants as row
use Rattle.snb_schema.specs.Nodes.{forum_columns}
use Rattle.snb_input_fields.proofs.Laws.{expects_all}
use Rattle.snb_csv.proofs.MadeFacts.{made}
use Rattle.snb_csv.proofs.make.forum.Goals as goal

pub read_forum-requires : goal.read_forum-requires
read_forum-requires c = expects_all forum_columns c.args.fields.now.fields c.args.fields.now c.requires

pub returns-clause-ok : goal.returns-clause-ok
returns-clause-ok c =
    made shapes.Forum c.args.table c.args.fields.now.fields c.args.fields.now c.read_forum.new.fields (row.Forum c.in_ok-read_forum.field-0) c.requires refl refl c.in_ok-read_forum.ensures.ok
