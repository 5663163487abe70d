use Rattle.std.proofs.Common.{inl, inr, rules}
use Rattle.snb_schema.specs.declared.column.Column.TheVariants.{IdList, PairList}
use Rattle.snb_schema.specs.declared.column.Value.TheVariants.{Digits, Ids, Pairs, Texts}
use Rattle.snb_schema.specs.declared.op.InsertKind.TheVariants as kinds
use Rattle.snb_schema.specs.InsertLines.{beside_columns}
use Rattle.snb_input_fields.specs.Fields.{StopsIn}
use Rattle.snb_streams.proofs.MakeFacts.{on_bad}
use Rattle.snb_streams.proofs.make.add_person.Goals as goal

pub returns-in_err-tag_ids-clause-bad : goal.returns-in_err-tag_ids-clause-bad
returns-in_err-tag_ids-clause-bad g c =
    on_bad c.from_residual-in_err-tag_ids.result (g.F.Fields.meaning.stops c.texts-2.new.self IdList) (StopsIn g.F.Fields.meaning c.args.fields.now (beside_columns kinds.AddPerson))
    (λ column here. inr (Digits c.in_ok-city_id.city_id, c.number.new.self, c.in_ok-city_id.ensures.ok, inr (Texts c.in_ok-languages.languages, c.texts.new.self, c.in_ok-languages.ensures.ok, inr (Texts c.in_ok-emails.emails, c.texts-2.new.self, c.in_ok-emails.ensures.ok, inl here)))) (search rules)

pub returns-in_err-study_at-clause-bad : goal.returns-in_err-study_at-clause-bad
returns-in_err-study_at-clause-bad g c =
    on_bad c.from_residual-in_err-study_at.result (g.F.Fields.meaning.stops c.ids.new.self PairList) (StopsIn g.F.Fields.meaning c.args.fields.now (beside_columns kinds.AddPerson))
    (λ column here. inr (Digits c.in_ok-city_id.city_id, c.number.new.self, c.in_ok-city_id.ensures.ok, inr (Texts c.in_ok-languages.languages, c.texts.new.self, c.in_ok-languages.ensures.ok, inr (Texts c.in_ok-emails.emails, c.texts-2.new.self, c.in_ok-emails.ensures.ok, inr (Ids c.in_ok-tag_ids.tag_ids, c.ids.new.self, c.in_ok-tag_ids.ensures.ok, inl here))))) (search rules)

pub returns-in_err-work_at-clause-bad : goal.returns-in_err-work_at-clause-bad
returns-in_err-work_at-clause-bad g c =
    on_bad c.from_residual-in_err-work_at.result (g.F.Fields.meaning.stops c.pairs.new.self PairList) (StopsIn g.F.Fields.meaning c.args.fields.now (beside_columns kinds.AddPerson))
    (λ column here. inr (Digits c.in_ok-city_id.city_id, c.number.new.self, c.in_ok-city_id.ensures.ok, inr (Texts c.in_ok-languages.languages, c.texts.new.self, c.in_ok-languages.ensures.ok, inr (Texts c.in_ok-emails.emails, c.texts-2.new.self, c.in_ok-emails.ensures.ok, inr (Ids c.in_ok-tag_ids.tag_ids, c.ids.new.self, c.in_ok-tag_ids.ensures.ok, inr (Pairs c.in_ok-study_at.study_at, c.pairs.new.self, c.in_ok-study_at.ensures.ok, inl here)))))) (search rules)
