use Rattle.std.proofs.Common.{arith, rules}
use Rattle.snb_schema.specs.declared.op.InsertKind.TheVariants as kinds
use Rattle.snb_schema.specs.UpdateLines.{IsFirstBad}
use Rattle.snb_input_fields.specs.Reading.{IsBadNext}
use Rattle.snb_input_fields.proofs.Laws.{moved}
use Rattle.snb_streams.proofs.MakeFacts.{next_bad, on_bad}
use Rattle.snb_streams.proofs.make.add_comment.Goals as goal

pub returns-in_err-country_id-clause-bad : goal.returns-in_err-country_id-clause-bad
returns-in_err-country_id-clause-bad c =
    on_bad c.from_residual-in_err-country_id.result (IsBadNext c.number.new.self) (IsFirstBad kinds.AddComment c.args.fields.now.fields)
    (next_bad kinds.AddComment c.args.fields.now.fields 10 c.number.new.self (moved c.in_ok-author_id.ensures.past c.requires) (λ column clash. (let at = clash.0 in omega (arith, at)))) (search rules)

pub returns-in_err-tag_ids-clause-bad : goal.returns-in_err-tag_ids-clause-bad
returns-in_err-tag_ids-clause-bad c =
    let fs = c.args.fields.now.fields in
    let e = rw (moved c.in_ok-country_id.ensures.past (moved c.in_ok-author_id.ensures.past c.requires)) at c.in_ok-parent.ensures.past in
    on_bad c.from_residual-in_err-tag_ids.result (IsBadNext c.parent.new.fields) (IsFirstBad kinds.AddComment fs)
    (next_bad kinds.AddComment fs 13 c.parent.new.fields e (λ column clash. absurd ((rw (moved c.in_ok-country_id.ensures.past (moved c.in_ok-author_id.ensures.past c.requires)) at c.in_ok-parent.ensures.one) column clash))) (search rules)
