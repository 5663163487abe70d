use Rattle.snb_tool_words.specs.declared.command.Command.TheVariants.{Expect}
use Rattle.snb_tool_outcome.specs.Endings.{IsFinished}
use Rattle.snb_tool_dataset.proofs.ExpectLemmas.{expect_done}
use Rattle.snb_tool_outcome.proofs.Laws.{passed}
use Rattle.snb_tool_dataset.proofs.DatasetLemmas.{expect_not}
use Rattle.snb_tool_dataset.proofs.expect_command.expect.Goals as goal

pub returns-in_err-input-clause-answer : goal.returns-in_err-input-clause-answer
returns-in_err-input-clause-answer g c = λ given moments.
    passed (IsFinished (Expect c.args.folder.now c.args.frequencies) (g.S.Shelf.contents c.args.shelf.now) given moments) c.from_residual.result c.in_err-input.field-0.0 c.from_residual.ensures.1
    (expect_not (g.S.Shelf.contents c.args.shelf.now) c.args.folder.now c.args.frequencies given moments c.one.result c.one.ensures c.in_err-input.field-0.0 c.in_err-input.ensures.answer)

pub returns-clause-answer : goal.returns-clause-answer
returns-clause-answer g c = λ given moments.
    expect_done (g.S.Shelf.contents c.args.shelf.now) c.args.folder.now c.one.result c.args.frequencies given moments c.one.ensures c.params_files.ensures c.in_ok-input.input _ c.in_ok-input.ensures.answer c.in_ok-output.ensures
