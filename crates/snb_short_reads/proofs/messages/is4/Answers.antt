use Rattle.std.proofs.Common.{◌≡◌, ◌∷◌, [], rules}
use Rattle.std.proofs.lemmas.Result.{IfOk-weaker}
use Rattle.snb_read_order.proofs.Laws.{one_row}
use Rattle.snb_read_model.specs.declared.cell.Cell.TheVariants.{Words}
use Rattle.snb_graph_model.specs.Around.{with_id}
use Rattle.snb_read_model.specs.Cells.{number_cell}
use Rattle.snb_short_reads.proofs.messages.is4.Goals as goal

pub returns : goal.returns
returns c =
    let cells : c.from_vec.result ≡ number_cell c.in-Some.date ∷ Words c.in-Some.content.now ∷ [] = search rules in
    IfOk-weaker c.only.result _ _ (λ a is. rw is (one_row (with_id c.args.graph.now c.args.message) _ [] _ _ c.in-Some.ensures.only cells)) c.only.ensures
