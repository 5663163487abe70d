use Rattle.snb_tool_outcome.specs.DatasetEndings.{IsReplyAnswer}
use Rattle.snb_tool_dataset.proofs.DatasetLemmas.{read_no_dataset, replied}
use Rattle.snb_tool_outcome.proofs.Laws.{passed}
use Rattle.snb_tool_dataset.proofs.read_command.read_line.Goals as goal

pub returns-in_err-graph-clause-answer : goal.returns-in_err-graph-clause-answer
returns-in_err-graph-clause-answer g c =
    passed (IsReplyAnswer (g.S.Shelf.contents c.args.shelf.now) c.args.folder.now c.args.query.now) c.from_residual.result c.in_err-graph.field-0.0 c.from_residual.ensures.1
    (read_no_dataset (g.S.Shelf.contents c.args.shelf.now) c.args.folder.now c.args.query.now c.load_dataset.new.used c.in_err-graph.field-0.0 c.in_err-graph.ensures.answer)

pub returns-clause-answer : goal.returns-clause-answer
returns-clause-answer g c =
    replied (g.S.Shelf.contents c.args.shelf.now) c.args.folder.now c.args.query.now c.load_dataset.new.used c.in_ok-graph.graph c.in_ok-reply_line.field-0 c.in_ok-graph.ensures.answer c.in_ok-reply_line.ensures
