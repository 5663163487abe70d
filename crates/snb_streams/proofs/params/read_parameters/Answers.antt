use Rattle.std.proofs.Common.{◌∙◌, List, ap, length, sym}
use Rattle.snb_schema.specs.declared.column.Column.{Column}
use Rattle.snb_schema.specs.ParameterLines.{IsBadQuery}
use Rattle.snb_schema.specs.ReadKinds.{parameter_columns}
use Rattle.snb_input_fields.specs.Fields.{StopsIn}
use Rattle.snb_input_fields.specs.Reading.{at_first, line_meaning}
use Rattle.snb_input_fields.proofs.Laws.{expects_all}
use Rattle.snb_streams.proofs.MakeFacts.{on_bad}
use Rattle.snb_streams.proofs.ParameterFacts.{kind_columns, told_none, told_read}
use Rattle.snb_streams.proofs.params.read_parameters.Goals as goal

pub read_query-requires : goal.read_query-requires
read_query-requires c = expects_all (parameter_columns c.in-Some.kind) c.args.fields.now c.new.result (c.new.ensures ∙ (λ i. at_first (c.columns-columns.ensures i) c.args.fields.now))

pub returns-clause-ok : goal.returns-clause-ok
returns-clause-ok c =
    let kind = sym c.of_number.ensures ∙ c.in-Some.is in
    let same = c.columns-columns.ensures ∙ kind_columns c.args.query c.in-Some.kind kind in
    let long = sym c.len.ensures ∙ c.if-len-columns.false ∙ ap (λ (cs : List Column). length cs) same in
    told_read c.read_query.result c.args.query c.in-Some.kind c.args.fields.now c.new.result c.read_query.new.fields kind long (c.new.ensures ∙ (λ i. at_first (same i) c.args.fields.now)) c.read_query.ensures.kind c.read_query.ensures.ok

pub returns-clause-bad : goal.returns-clause-bad
returns-clause-bad c =
    let kind = sym c.of_number.ensures ∙ c.in-Some.is in
    let same = c.columns-columns.ensures ∙ kind_columns c.args.query c.in-Some.kind kind in
    let long = sym c.len.ensures ∙ c.if-len-columns.false ∙ ap (λ (cs : List Column). length cs) same in
    on_bad c.read_query.result (StopsIn line_meaning c.new.result (parameter_columns c.in-Some.kind)) (IsBadQuery c.args.query c.args.fields.now)
    (λ column stops. told_none c.args.query c.in-Some.kind c.args.fields.now c.new.result column kind long (c.new.ensures ∙ (λ i. at_first (same i) c.args.fields.now)) stops) c.read_query.ensures.bad
