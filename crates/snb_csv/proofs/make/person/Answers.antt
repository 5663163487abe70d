use Rattle.std.proofs.Common.{refl}
use Rattle.snb_schema.specs.declared.layout.Shape.TheVariants as shapes
use Rattle.snb_schema.specs.declared.row.Row.TheVariants as row
use Rattle.snb_schema.specs.Nodes.{person_columns}
use Rattle.snb_input_fields.proofs.Laws.{expects_all}
use Rattle.snb_csv.proofs.MadeFacts.{made}
use Rattle.snb_csv.proofs.make.person.Goals as goal

pub read_person-requires : goal.read_person-requires
read_person-requires c = expects_all person_columns c.args.fields.now.fields c.args.fields.now c.requires

pub returns-clause-ok : goal.returns-clause-ok
returns-clause-ok c =
    made shapes.Person c.args.table c.args.fields.now.fields c.args.fields.now c.read_person.new.fields (row.Person c.in_ok-read_person.field-0) c.requires refl refl c.in_ok-read_person.ensures.ok
