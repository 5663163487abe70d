use Rattle.std.proofs.Common.{Some}
use Rattle.snb_tool_words.specs.declared.command.Command.TheVariants.{Walk}
use Rattle.snb_tool_outcome.specs.Endings.{IsFinished}
use Rattle.snb_tool_outcome.proofs.Laws.{passed}
use Rattle.snb_tool_dataset.proofs.DatasetLemmas.{walk_done, walk_not}
use Rattle.snb_tool_dataset.proofs.walk_command.walk.Goals as goal

pub returns-in_err-text-clause-answer : goal.returns-in_err-text-clause-answer
returns-in_err-text-clause-answer g c = λ kinds moments all.
    passed (IsFinished (Walk c.args.folder.now c.args.query.now c.args.chance c.args.words.now) (g.S.Shelf.contents c.args.shelf.now) (Some (record { kinds = kinds; pick = c.args.policy.now.pick })) moments) c.from_residual.result c.in_err-text.field-0.0 c.from_residual.ensures.1
    (walk_not (g.S.Shelf.contents c.args.shelf.now) c.args.folder.now c.args.query.now c.args.chance c.args.words.now (record { kinds = kinds; pick = c.args.policy.now.pick }) moments all c.in_err-text.field-0.0 c.in_err-text.ensures.answer)

pub returns-clause-answer : goal.returns-clause-answer
returns-clause-answer g c = λ kinds moments all.
    walk_done (g.S.Shelf.contents c.args.shelf.now) c.args.folder.now c.args.query.now c.args.chance c.args.words.now (record { kinds = kinds; pick = c.args.policy.now.pick }) moments all c.in_ok-text.text _ _ c.in_ok-text.ensures.answer c.shown.ensures.status c.shown.ensures.texts
