use Rattle.snb_tool_words.specs.declared.command.Command.TheVariants.{Read}
use Rattle.snb_tool_outcome.specs.Endings.{IsFinished}
use Rattle.snb_tool_outcome.proofs.Laws.{passed}
use Rattle.snb_tool_dataset.proofs.DatasetLemmas.{read_done, read_not}
use Rattle.snb_tool_dataset.proofs.read_command.read.Goals as goal

pub returns-in_err-line-clause-answer : goal.returns-in_err-line-clause-answer
returns-in_err-line-clause-answer g c = λ given moments.
    passed (IsFinished (Read c.args.folder.now c.args.query.now) (g.S.Shelf.contents c.args.shelf.now) given moments) c.from_residual.result c.in_err-line.field-0.0 c.from_residual.ensures.1
    (read_not (g.S.Shelf.contents c.args.shelf.now) c.args.folder.now c.args.query.now given moments c.in_err-line.field-0.0 c.in_err-line.ensures.answer)

pub returns-clause-answer : goal.returns-clause-answer
returns-clause-answer g c = λ given moments.
    read_done (g.S.Shelf.contents c.args.shelf.now) c.args.folder.now c.args.query.now given moments c.in_ok-line.line _ _ c.in_ok-line.ensures.answer c.shown.ensures.status c.shown.ensures.texts
