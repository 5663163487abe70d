use Rattle.std.proofs.Common.{[], ◌∷◌, ◌+◌, ◌≤◌, arith, inl, length, refl, rules, subst}
use Rattle.snb_schema.specs.declared.column.Column.TheVariants as columns
use Rattle.snb_schema.specs.declared.column.Value.TheVariants.{Digits}
use Rattle.snb_schema.specs.declared.limits.TheConstants.{MAX_TIME}
use Rattle.snb_schema.specs.Faults.{OnBadColumn}
use Rattle.snb_schema.specs.UpdateLines.{IsBadInsert}
use Rattle.snb_input_fields.specs.Reading.{IsBadIn, Reading}
use Rattle.snb_input_fields.proofs.Laws.{moved, spelled, spells_from}
use Rattle.snb_streams.proofs.FaultFacts.{third_bad, time_bad, times}
use Rattle.snb_streams.proofs.KindFacts.{field_none, field_there, third_named, third_unnamed}
use Rattle.snb_streams.proofs.MakeFacts.{on_bad}
use Rattle.snb_streams.proofs.line.named_kind.Goals as goal

pub returns-in_default-clause-bad : goal.returns-in_default-clause-bad
returns-in_default-clause-bad c =
    let few = field_none c.get.result c.args.fields.now 2 c.get.ensures.value c.in_default.is in
    inl (omega arith, refl)

pub returns-in-Some-kind_in-clause-ok : goal.returns-in-Some-kind_in-clause-ok
returns-in-Some-kind_in-clause-ok c =
    let there = field_there c.get.result c.in-Some.third c.args.fields.now 2 c.get.ensures.value c.in-Some.is in
    third_named c.args.kinds.now c.args.fields.now c.in-Some.third.now c.in-Some-kind_in.kind there.0 there.1 c.in-Some-kind_in.ensures

pub new-times-requires-clause-enough : goal.new-times-requires-clause-enough
new-times-requires-clause-enough c =
    let there = field_there c.get.result c.in-Some.third c.args.fields.now 2 c.get.ensures.value c.in-Some.is in
    let long = there.0 in
    omega arith

pub returns-in_err-number-clause-bad : goal.returns-in_err-number-clause-bad
returns-in_err-number-clause-bad c =
    let fs = c.args.fields.now in
    let there = field_there c.get.result c.in-Some.third fs 2 c.get.ensures.value c.in-Some.is in
    let long = there.0 in
    let none = third_unnamed c.args.kinds.now fs c.in-Some.third.now there.1 c.in_default-kind_in.ensures in
    on_bad c.from_residual.result (IsBadIn times fs) (IsBadInsert c.args.kinds.now fs) (λ column bad. time_bad c.args.kinds.now fs bad.0 column (omega (arith, long)) none bad.1 bad.2)
    (subst (λ (r : Reading). OnBadColumn c.from_residual.result (IsBadIn r.columns r.fields)) c.new-times.ensures (search rules))

pub returns-in_err-number-2-clause-bad : goal.returns-in_err-number-2-clause-bad
returns-in_err-number-2-clause-bad c =
    let fs = c.args.fields.now in
    let there = field_there c.get.result c.in-Some.third fs 2 c.get.ensures.value c.in-Some.is in
    let long = there.0 in
    let none = third_unnamed c.args.kinds.now fs c.in-Some.third.now there.1 c.in_default-kind_in.ensures in
    let e1 = moved c.in_ok-number.ensures.past c.new-times.ensures in
    on_bad c.from_residual-in_err-number-2.result (IsBadIn times fs) (IsBadInsert c.args.kinds.now fs) (λ column bad. time_bad c.args.kinds.now fs bad.0 column (omega (arith, long)) none bad.1 bad.2)
    (subst (λ (r : Reading). OnBadColumn c.from_residual-in_err-number-2.result (IsBadIn r.columns r.fields)) e1 (search rules))

pub returns-clause-bad : goal.returns-clause-bad
returns-clause-bad c =
    let fs = c.args.fields.now in
    let there = field_there c.get.result c.in-Some.third fs 2 c.get.ensures.value c.in-Some.is in
    let long = there.0 in
    let none = third_unnamed c.args.kinds.now fs c.in-Some.third.now there.1 c.in_default-kind_in.ensures in
    let e1 = moved c.in_ok-number.ensures.past c.new-times.ensures in
    let vs = Digits c.in_ok-number.field-0 ∷ Digits c.in_ok-number-2.field-0 ∷ [] in
    let enough : 0 + length times ≤ length fs = omega (arith, long) in
    third_bad c.args.kinds.now fs vs (omega (arith, long)) none
    (spells_from 0 times fs vs enough (spelled 0 (columns.Number MAX_TIME) (Digits c.in_ok-number.field-0) c.new-times.ensures c.in_ok-number.ensures.ok, (spelled 1 (columns.Number MAX_TIME) (Digits c.in_ok-number-2.field-0) e1 c.in_ok-number-2.ensures.ok, tt)))
