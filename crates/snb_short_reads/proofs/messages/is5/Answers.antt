use Rattle.std.proofs.Common.{[]}
use Rattle.std.proofs.lemmas.Result.{IfOk-weaker}
use Rattle.snb_read_order.proofs.Laws.{one_row}
use Rattle.snb_graph_model.specs.Around.{with_id}
use Rattle.snb_read_model.specs.ShortReads.{IsCreator}
use Rattle.snb_short_reads.proofs.messages.is5.Goals as goal

pub returns : goal.returns
returns c =
    IfOk-weaker c.only.result _ _ (λ a is. rw is (one_row (with_id c.args.graph.now c.args.message) (λ m. IsCreator c.args.graph.now m.id) [] _ _ c.in-Some.ensures.only c.in_ok-creator.ensures)) c.only.ensures
