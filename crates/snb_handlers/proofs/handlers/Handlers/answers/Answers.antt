use Rattle.std.proofs.Common.{refl, subst}
use Rattle.snb_schema.specs.declared.query.Query.{Query}
use Rattle.snb_read_order.proofs.Laws.{zip_all, zip_more}
use Rattle.snb_read_model.specs.ComplexReads.{IsAnswer}
use Rattle.snb_handlers.proofs.handlers.Handlers.answers.Goals as goal

pub answer-requires-clause-kind : goal.answer-requires-clause-kind
answer-requires-clause-kind g c = c.requires.all _

pub loop-query-preserved : goal.loop-query-preserved
loop-query-preserved g c =
    let asked = subst (λ (q : Query). IsAnswer c.args.graph.now q c.in_ok-answer.field-0) c.query-item.is c.in_ok-answer.ensures in
    zip_more (IsAnswer c.args.graph.now) c.args.queries.now c.loop-query.query-index c.query-item.result _ _ _ c.loop-query-test.true c.in_ok-push.ensures.items c.loop-query.invariant asked

pub returns : goal.returns
returns g c = zip_all (IsAnswer c.args.graph.now) _ _ c.loop-query.query-index _ refl c.loop-query-test.false c.loop-query.invariant
