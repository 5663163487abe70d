use Rattle.std.proofs.Common.{rules}
use Rattle.snb_schema.specs.declared.op.InsertKind.TheVariants as kinds
use Rattle.snb_schema.specs.InsertLines.{beside_columns}
use Rattle.snb_schema.specs.Nodes.{person_columns, person_values}
use Rattle.snb_schema.specs.UpdateLines.{IsFirstBad}
use Rattle.snb_input_fields.specs.Fields.{StopsIn}
use Rattle.snb_input_fields.specs.Reading.{line_meaning}
use Rattle.snb_streams.proofs.MakeFacts.{beside_bad, expects_beside, expects_node, if_made, node_bad, on_bad}
use Rattle.snb_streams.proofs.make.person.Goals as goal

pub read_person-requires : goal.read_person-requires
read_person-requires c = expects_node kinds.AddPerson c.args.fields.now.fields c.args.fields.now c.requires

pub add_person-requires : goal.add_person-requires
add_person-requires c = expects_beside kinds.AddPerson c.args.fields.now.fields c.args.fields.now c.requires (person_values c.in_ok-person.person) c.read_person.new.fields c.in_ok-person.ensures.ok

pub returns-in_err-person-clause-bad : goal.returns-in_err-person-clause-bad
returns-in_err-person-clause-bad c =
    on_bad c.from_residual.result (StopsIn line_meaning c.args.fields.now person_columns) (IsFirstBad kinds.AddPerson c.args.fields.now.fields)
    (node_bad kinds.AddPerson c.args.fields.now.fields c.args.fields.now c.requires (λ c h. h)) (search rules)

pub returns-clause-ok : goal.returns-clause-ok
returns-clause-ok c =
    if_made kinds.AddPerson c.args.fields.now.fields c.args.fields.now c.requires (person_values c.in_ok-person.person) c.read_person.new.fields c.add_person.new.fields c.add_person.result (λ friend. cc) c.in_ok-person.ensures.ok c.add_person.ensures.ok

pub returns-clause-bad : goal.returns-clause-bad
returns-clause-bad c =
    on_bad c.add_person.result (StopsIn line_meaning c.read_person.new.fields (beside_columns kinds.AddPerson)) (IsFirstBad kinds.AddPerson c.args.fields.now.fields)
    (beside_bad kinds.AddPerson c.args.fields.now.fields c.args.fields.now c.requires (λ c h. h) (person_values c.in_ok-person.person) c.read_person.new.fields c.in_ok-person.ensures.ok) c.add_person.ensures.bad
