use Rattle.snb_tool_words.specs.declared.command.Command.TheVariants.{Run}
use Rattle.snb_tool_outcome.specs.Endings.{IsFinished}
use Rattle.snb_tool_outcome.proofs.Laws.{passed}
use Rattle.snb_tool_plan.proofs.PlanLemmas.{run_done, run_not}
use Rattle.snb_tool_plan.proofs.run_command.run.Goals as goal

pub returns-in_err-input-clause-answer : goal.returns-in_err-input-clause-answer
returns-in_err-input-clause-answer g c = λ given.
    passed (IsFinished (Run c.args.folder.now c.args.workers c.args.ratio c.args.frequencies) (g.S.Shelf.contents c.args.shelf.now) given (g.C.Clock.moments c.args.clock.now)) c.from_residual.result c.in_err-input.field-0.0 c.from_residual.ensures.1
    (run_not (g.S.Shelf.contents c.args.shelf.now) c.args.folder.now c.args.frequencies given (g.C.Clock.moments c.args.clock.now) c.args.workers c.args.ratio c.in_err-input.field-0.0 c.in_err-input.ensures.answer)

pub returns-clause-answer : goal.returns-clause-answer
returns-clause-answer g c = λ given.
    run_done (g.S.Shelf.contents c.args.shelf.now) c.args.folder.now c.args.workers c.args.ratio c.args.frequencies given (g.C.Clock.moments c.args.clock.now) c.in_ok-input.input _ c.in_ok-input.ensures.answer c.in_ok-output.ensures
