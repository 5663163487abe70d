use Rattle.std.proofs.Common.{All, ◌∙◌, subst, sym}
use Rattle.std.specs.Str.{IsUtf8}
use Rattle.snb_streams.proofs.LineFacts.{broken_bad, empty_bad, tested_empty}
use Rattle.snb_streams.proofs.text.fields_in.Goals as goal

pub returns-then-not-is_one_line-clause-bad : goal.returns-then-not-is_one_line-clause-bad
returns-then-not-is_one_line-clause-bad c =
    broken_bad c.args.text.now (sym c.is_marked.ensures ∙ c.if-is_marked.false) (λ text one. (let yes = c.is_one_line.ensures.1 (text, one) in let no = c.if-not-is_one_line.true in cc (yes, no)))

pub returns-then-is_empty-clause-bad : goal.returns-then-is_empty-clause-bad
returns-then-is_empty-clause-bad c = empty_bad c.args.text.now (tested_empty c.args.text.now c.is_empty.result c.is_empty.ensures c.if-is_empty.true)

pub returns-clause-ok : goal.returns-clause-ok
returns-clause-ok c =
    let unmarked = sym c.is_marked.ensures ∙ c.if-is_marked.false in
    let one = c.is_one_line.ensures.0 c.if-not-is_one_line.false in
    let same = c.in_ok-split_line.ensures in
    record { utf8 = one.0; unmarked = unmarked; one_line = one.1; split = same; texts = subst (All IsUtf8) (sym same) ((c.plain_fields.ensures c.args.text.now).texts one.0) }
