use Rattle.std.proofs.Common.{arith, refl, rules}
use Rattle.snb_schema.specs.declared.column.Column.TheVariants as columns
use Rattle.snb_schema.specs.declared.column.Value.TheVariants.{Digits}
use Rattle.snb_schema.specs.declared.limits.TheConstants.{MAX_ID}
use Rattle.snb_csv.proofs.RowFacts.{no_friends}
use Rattle.snb_input_fields.proofs.Laws.{moved, spelled}
use Rattle.snb_csv.proofs.make.make_friends.Goals as goal

pub returns-in_err-one-clause-bad : goal.returns-in_err-one-clause-bad
returns-in_err-one-clause-bad c = no_friends 0 c.in_err-one.field-0.0 c.from_residual.result c.args.fields.now c.args.fields.now.fields (search rules) (omega arith) c.requires c.in_err-one.ensures.bad

pub returns-in_err-other-clause-bad : goal.returns-in_err-other-clause-bad
returns-in_err-other-clause-bad c =
    no_friends 1 c.in_err-other.field-0.0 c.from_residual-in_err-other.result c.number.new.self c.args.fields.now.fields (search rules) (omega arith) (moved c.in_ok-one.ensures.past c.requires) c.in_err-other.ensures.bad

pub returns-clause-ok : goal.returns-clause-ok
returns-clause-ok c =
    let e1 = moved c.in_ok-one.ensures.past c.requires in
    let e2 = moved c.in_ok-other.ensures.past e1 in (
      record {
        one = c.in_ok-one.one;
        other = c.in_ok-other.other;
        date = c.in_ok-date.date;
        spelled = (spelled 0 (columns.Number MAX_ID) (Digits c.in_ok-one.one) c.requires c.in_ok-one.ensures.ok, (spelled 1 (columns.Number MAX_ID) (Digits c.in_ok-other.other) e1 c.in_ok-other.ensures.ok, (spelled 2 columns.Date (Digits c.in_ok-date.date) e2 c.in_ok-date.ensures.ok, tt)));
        differ = c.if-one-other.false;
        made = rw (c.min.ensures, c.max.ensures) refl;
        turns = refl;
      },
      refl,
    )
