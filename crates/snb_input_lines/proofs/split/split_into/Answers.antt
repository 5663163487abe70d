use Rattle.std.proofs.lemmas.Result.{on_ok_weaker}
use Rattle.csv.specs.Records.{fields_of, partial_of}
use Rattle.snb_input_lines.proofs.FieldFacts.{last_split, next_split}
use Rattle.snb_input_lines.proofs.split.split_into.Goals as goal

pub fields-preserved : goal.fields-preserved
fields-preserved c = record {
  split = next_split c.args.line.now c.fields.rest.now c.in-Some.field.now c.in-Some.behind.now (partial_of c.fields.row) (fields_of c.fields.row) (fields_of c.push_field.new.self)
      c.fields.invariant.split c.fields.invariant.whole c.in-Some.ensures.0 c.in-Some.ensures.1 c.in_ok-push_field.ensures.fields;
  whole = c.in_ok-push_field.ensures.partial;
}

pub returns : goal.returns
returns c =
    on_ok_weaker c.push_field-2.result
    (last_split c.args.line.now c.fields.rest.now (partial_of c.fields.row) (fields_of c.fields.row) (fields_of c.push_field-2.new.self) c.fields.invariant.split c.fields.invariant.whole c.in_default.ensures)
    c.push_field-2.ensures.fields
