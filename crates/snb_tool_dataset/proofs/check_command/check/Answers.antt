use Rattle.std.proofs.Common.{ap, ◌∙◌}
use Rattle.snb_tool_words.specs.declared.command.Command.TheVariants.{Check}
use Rattle.snb_tool_outcome.specs.Endings.{IsFinished}
use Rattle.snb_tool_outcome.specs.Output.{on_screen}
use Rattle.snb_tool_outcome.proofs.Laws.{passed}
use Rattle.snb_tool_dataset.proofs.DatasetLemmas.{check_done, check_not}
use Rattle.snb_tool_dataset.proofs.check_command.check.Goals as goal

pub returns-in_err-input-clause-answer : goal.returns-in_err-input-clause-answer
returns-in_err-input-clause-answer g c = λ given moments.
    passed (IsFinished (Check c.args.folder.now c.args.frequencies) (g.S.Shelf.contents c.args.shelf.now) given moments) c.from_residual.result c.in_err-input.field-0.0 c.from_residual.ensures.1
    (check_not (g.S.Shelf.contents c.args.shelf.now) c.args.folder.now c.args.frequencies given moments c.one.result c.one.ensures c.in_err-input.field-0.0 c.in_err-input.ensures.answer)

pub returns-clause-answer : goal.returns-clause-answer
returns-clause-answer g c = λ given moments.
    check_done (g.S.Shelf.contents c.args.shelf.now) c.args.folder.now c.one.result c.args.frequencies given moments c.in_ok-input.input _ _ c.one.ensures c.in_ok-input.ensures.answer c.shown.ensures.status
    (c.shown.ensures.texts ∙ ap on_screen c.in_ok-text.ensures)
