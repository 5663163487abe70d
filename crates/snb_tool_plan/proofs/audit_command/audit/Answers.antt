use Rattle.std.proofs.Common.{ap, inl, inr, refl, ◌∙◌}
use Rattle.snb_tool_words.specs.declared.command.Command.TheVariants.{Audit}
use Rattle.snb_tool_outcome.specs.Endings.{IsFinished}
use Rattle.snb_tool_outcome.specs.Output.{on_screen}
use Rattle.snb_tool_outcome.proofs.Laws.{passed}
use Rattle.snb_tool_plan.proofs.PlanLemmas.{audit_done, audit_not}
use Rattle.snb_tool_plan.proofs.audit_command.audit.Goals as goal

pub judge-requires-clause-allowed : goal.judge-requires-clause-allowed
judge-requires-clause-allowed g c = λ name is. c.requires.allowed name (inl is)

pub judge-requires-clause-log : goal.judge-requires-clause-log
judge-requires-clause-log g c = c.requires.allowed c.args.log.now (inr refl)

pub returns-in_err-judged-clause-answer : goal.returns-in_err-judged-clause-answer
returns-in_err-judged-clause-answer g c = λ given moments.
    passed (IsFinished (Audit c.args.folder.now c.args.log.now c.args.ratio c.args.frequencies) (g.S.Shelf.contents c.args.shelf.now) given moments) c.from_residual.result c.in_err-judged.field-0.0 c.from_residual.ensures.1
    (audit_not (g.S.Shelf.contents c.args.shelf.now) c.args.folder.now c.args.log.now c.args.ratio c.args.frequencies given moments c.in_err-judged.field-0.0 c.in_err-judged.ensures.answer)

pub returns-clause-answer : goal.returns-clause-answer
returns-clause-answer g c = λ given moments.
    audit_done (g.S.Shelf.contents c.args.shelf.now) c.args.folder.now c.args.log.now c.args.ratio c.args.frequencies given moments c.in_ok-judged.judged _ _ c.in_ok-judged.ensures.answer
    (c.shown.ensures.status ∙ c.status_of.ensures) (c.shown.ensures.texts ∙ ap on_screen c.in_ok-text.ensures)
