use Rattle.std.proofs.Common.{inl, inr, rules}
use Rattle.snb_schema.specs.declared.column.Column.TheVariants.{Small, Words}
use Rattle.snb_schema.specs.declared.column.Value.TheVariants.{Digits, Letters}
use Rattle.snb_schema.specs.declared.limits.TheConstants.{MAX_LENGTH}
use Rattle.snb_schema.specs.Nodes.{comment_columns}
use Rattle.snb_input_fields.specs.Fields.{StopsIn}
use Rattle.snb_input_fields.proofs.Laws.{on_bad}
use Rattle.snb_node_fields.proofs.nodes.read_comment.Goals as goal

pub returns-in_err-text-2-clause-bad : goal.returns-in_err-text-2-clause-bad
returns-in_err-text-2-clause-bad g c =
    on_bad c.from_residual-in_err-text-2.result (g.F.Fields.meaning.stops c.text.new.self Words) (StopsIn g.F.Fields.meaning c.args.fields.now comment_columns)
    (λ column here. inr (Digits c.in_ok-number.field-0, c.number.new.self, c.in_ok-number.ensures.ok, inr (Digits c.in_ok-date.field-0, c.date.new.self, c.in_ok-date.ensures.ok, inr (Letters c.in_ok-text.field-0, c.text.new.self, c.in_ok-text.ensures.ok, inl here)))) (search rules)

pub returns-in_err-text-3-clause-bad : goal.returns-in_err-text-3-clause-bad
returns-in_err-text-3-clause-bad g c =
    on_bad c.from_residual-in_err-text-3.result (g.F.Fields.meaning.stops c.text-2.new.self Words) (StopsIn g.F.Fields.meaning c.args.fields.now comment_columns)
    (λ column here. inr (Digits c.in_ok-number.field-0, c.number.new.self, c.in_ok-number.ensures.ok, inr (Digits c.in_ok-date.field-0, c.date.new.self, c.in_ok-date.ensures.ok, inr (Letters c.in_ok-text.field-0, c.text.new.self, c.in_ok-text.ensures.ok, inr (Letters c.in_ok-text-2.field-0, c.text-2.new.self, c.in_ok-text-2.ensures.ok, inl here))))) (search rules)

pub returns-in_err-small-clause-bad : goal.returns-in_err-small-clause-bad
returns-in_err-small-clause-bad g c =
    on_bad c.from_residual-in_err-small.result (g.F.Fields.meaning.stops c.text-3.new.self (Small MAX_LENGTH)) (StopsIn g.F.Fields.meaning c.args.fields.now comment_columns)
    (λ column here. inr (Digits c.in_ok-number.field-0, c.number.new.self, c.in_ok-number.ensures.ok, inr (Digits c.in_ok-date.field-0, c.date.new.self, c.in_ok-date.ensures.ok, inr (Letters c.in_ok-text.field-0, c.text.new.self, c.in_ok-text.ensures.ok, inr (Letters c.in_ok-text-2.field-0, c.text-2.new.self, c.in_ok-text-2.ensures.ok, inr (Letters c.in_ok-text-3.field-0, c.text-3.new.self, c.in_ok-text-3.ensures.ok, inl here)))))) (search rules)
