use Rattle.std.proofs.Common.{[], refl, rules}
use Rattle.snb_schema.specs.declared.op.InsertKind.TheVariants as kinds
use Rattle.snb_schema.specs.InsertLines.{beside_columns}
use Rattle.snb_schema.specs.UpdateLines.{IsFirstBad}
use Rattle.snb_input_fields.specs.Fields.{StopsIn}
use Rattle.snb_input_fields.specs.Reading.{line_meaning}
use Rattle.snb_streams.proofs.MakeFacts.{expects_insert, made_of, on_bad, stop_bad}
use Rattle.snb_streams.proofs.make.member.Goals as goal

pub edge-requires : goal.edge-requires
edge-requires c = expects_insert kinds.AddMember c.args.fields.now.fields c.args.fields.now c.requires

pub returns-in_err-ends-clause-bad : goal.returns-in_err-ends-clause-bad
returns-in_err-ends-clause-bad c =
    on_bad c.from_residual.result (StopsIn line_meaning c.args.fields.now (beside_columns kinds.AddMember)) (IsFirstBad kinds.AddMember c.args.fields.now.fields)
    (stop_bad kinds.AddMember c.args.fields.now.fields c.args.fields.now c.requires (λ c h. h)) (search rules)

pub returns-clause-ok : goal.returns-clause-ok
returns-clause-ok c =
    made_of kinds.AddMember c.args.fields.now.fields c.args.fields.now c.requires [] c.args.fields.now c.edge.new.fields _ (λ friend. cc) refl (record { kind_is = refl; node_is = refl; beside = c.in_ok-ends.ensures.ok })
