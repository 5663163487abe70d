use Rattle.std.proofs.Common.{refl, subst}
use Rattle.snb_schema.specs.declared.query.Query.{Query}
use Rattle.snb_read_order.proofs.Laws.{zip_all, zip_more}
use Rattle.snb_read_model.specs.ComplexReads.{IsAnswer}
use Rattle.snb_read_replies.proofs.reply.own_answers.Goals as goal

pub loop-query-preserved : goal.loop-query-preserved
loop-query-preserved c =
    zip_more (IsAnswer c.args.graph.now) c.args.queries.now c.loop-query.query-index c.query-item.result _ _ _ c.loop-query-test.true c.in_ok-push.ensures.items c.loop-query.invariant
    (subst (λ (query : Query). IsAnswer c.args.graph.now query c.in_ok-own_answer.field-0) c.query-item.is c.in_ok-own_answer.ensures)

pub returns : goal.returns
returns c = zip_all (IsAnswer c.args.graph.now) _ _ c.loop-query.query-index _ refl c.loop-query-test.false c.loop-query.invariant
