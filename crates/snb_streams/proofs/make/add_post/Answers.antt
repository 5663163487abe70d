use Rattle.std.proofs.Common.{inl, inr, rules}
use Rattle.snb_schema.specs.declared.column.Column.TheVariants.{IdList}
use Rattle.snb_schema.specs.declared.column.Value.TheVariants.{Digits}
use Rattle.snb_schema.specs.declared.op.InsertKind.TheVariants as kinds
use Rattle.snb_schema.specs.InsertLines.{beside_columns}
use Rattle.snb_input_fields.specs.Fields.{StopsIn}
use Rattle.snb_streams.proofs.MakeFacts.{on_bad}
use Rattle.snb_streams.proofs.make.add_post.Goals as goal

pub returns-in_err-tag_ids-clause-bad : goal.returns-in_err-tag_ids-clause-bad
returns-in_err-tag_ids-clause-bad g c =
    on_bad c.from_residual-in_err-tag_ids.result (g.F.Fields.meaning.stops c.number-3.new.self IdList) (StopsIn g.F.Fields.meaning c.args.fields.now (beside_columns kinds.AddPost))
    (λ column here. inr (Digits c.in_ok-author_id.author_id, c.number.new.self, c.in_ok-author_id.ensures.ok, inr (Digits c.in_ok-forum_id.forum_id, c.number-2.new.self, c.in_ok-forum_id.ensures.ok, inr (Digits c.in_ok-country_id.country_id, c.number-3.new.self, c.in_ok-country_id.ensures.ok, inl here)))) (search rules)
