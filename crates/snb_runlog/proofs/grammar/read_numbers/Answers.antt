use Rattle.std.proofs.Common.{◌≡◌, ◌+◌, ◌∙◌, Some, take, drop, sym, ap, subst, add-one, arith, length-set, length, ◌<◌}
use Rattle.std.proofs.lemmas.List.{take_more_set}
use Rattle.snb_input_lines.specs.Records.{field_at}
use Rattle.snb_runlog.specs.Lines.{AreNumbers, IsNumber}
use Rattle.snb_runlog.proofs.LineFacts.{after_some, numbers_push, stops_here}
use Rattle.snb_runlog.proofs.NumberFacts.{none_spelled, some_spelled}
use Rattle.snb_runlog.proofs.grammar.read_numbers.Goals as goal
use Rattle.snb_input_lines.proofs.Laws.{found_there, none_there, some_field}

pub unreachable-requires : goal.unreachable-requires
unreachable-requires c =
    some_field c.args.fields.now (c.loop-i.i + c.args.before) (let w = c.requires.wide in let l = c.loop-i-test.true in omega arith) (none_there c.get.result _ c.get.ensures.value c.in_default.is)

pub returns-in-None-clause-bad : goal.returns-in-None-clause-bad
returns-in-None-clause-bad c =
    let i = c.loop-i.i in
    let before = c.args.before in
    let on : before + i ≡ i + before = omega arith in
    let there : field_at (drop before c.args.fields.now) i ≡ Some c.in-Some.field.now =
    sym (after_some c.args.fields.now before i) ∙ ap (field_at c.args.fields.now) on ∙ found_there c.get.result c.in-Some.field _ c.get.ensures.value c.in-Some.is in
    let none = none_spelled (IsNumber _ c.in-Some.field.now) c.number_in.result c.number_in.ensures c.in-None.is in
    let column : i + before + 1 ≡ i + (before + 1) = omega arith in
    (i, stops_here i c.args.columns.now (drop before c.args.fields.now) (take i c.loop-i.numbers) _ c.in-Some.field.now c.loop-i-test.true there c.loop-i.invariant.read none, column)

pub loop-i-preserved : goal.loop-i-preserved
loop-i-preserved c =
    let i = c.loop-i.i in
    let before = c.args.before in
    let n = c.in-Some-number_in.n in
    let on : before + i ≡ i + before = omega arith in
    let there : field_at (drop before c.args.fields.now) i ≡ Some c.in-Some.field.now =
    sym (after_some c.args.fields.now before i) ∙ ap (field_at c.args.fields.now) on ∙ found_there c.get.result c.in-Some.field _ c.get.ensures.value c.in-Some.is in
    let spelled = some_spelled (IsNumber _ c.in-Some.field.now) c.number_in.result n c.number_in.ensures c.in-Some-number_in.is in
    let more = numbers_push i c.args.columns.now (drop before c.args.fields.now) (take i c.loop-i.numbers) _ c.in-Some.field.now n c.loop-i-test.true there c.loop-i.invariant.read spelled in
    let room : i < length c.loop-i.numbers = (let five = c.loop-i.invariant.room in let few = c.requires.few in let l = c.loop-i-test.true in omega arith) in
    record {
      room = length-set c.loop-i.numbers i n ∙ c.loop-i.invariant.room;
      read = subst (AreNumbers (take (i + 1) c.args.columns.now) (take (i + 1) (drop before c.args.fields.now))) (sym (take_more_set c.loop-i.numbers i n room)) (rw add-one more);
    }
