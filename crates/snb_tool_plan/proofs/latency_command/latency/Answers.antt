use Rattle.std.specs.Prelude.{ℕ, List}
use Rattle.std.proofs.Common.{ap, inl, inr, refl, subst, sym, ◌∙◌}
use Rattle.snb_history.specs.Rules.{IsComplete, IsLegal}
use Rattle.snb_history.specs.declared.logged.Logged.{Logged}
use Rattle.snb_plan.specs.Plans.{schedule_of}
use Rattle.snb_tool_words.specs.declared.command.Command.TheVariants.{Latency}
use Rattle.snb_audit_model.specs.Miscounts.{events_of}
use Rattle.snb_tool_outcome.specs.Endings.{IsFinished}
use Rattle.snb_tool_outcome.specs.Output.{on_screen}
use Rattle.snb_tool_outcome.proofs.Laws.{passed}
use Rattle.snb_tool_plan.proofs.PlanLemmas.{judged_whole, latency_judged, latency_not, latency_summed}
use Rattle.snb_tool_plan.proofs.latency_command.latency.Goals as goal

pub judge-requires-clause-allowed : goal.judge-requires-clause-allowed
judge-requires-clause-allowed g c = λ name is. c.requires.allowed name (inl is)

pub judge-requires-clause-log : goal.judge-requires-clause-log
judge-requires-clause-log g c = c.requires.allowed c.args.log.now (inr refl)

pub summary_of-requires-clause-legal : goal.summary_of-requires-clause-legal
summary_of-requires-clause-legal g c =
    subst (λ (xs : List Logged). (workers : ℕ) × IsLegal (schedule_of c.in_ok-judged.judged.plan) workers (events_of xs)) (sym c.deref.ensures.value)
    (judged_whole (g.S.Shelf.contents c.args.shelf.now) c.args.folder.now c.args.log.now c.args.ratio c.args.frequencies c.whole_exactly.ensures c.in_ok-judged.judged c.in_ok-judged.ensures.answer (sym c.is_whole.ensures ∙ c.if-is_whole.true)).0

pub summary_of-requires-clause-complete : goal.summary_of-requires-clause-complete
summary_of-requires-clause-complete g c =
    subst (λ (xs : List Logged). IsComplete (schedule_of c.in_ok-judged.judged.plan) (events_of xs)) (sym c.deref.ensures.value)
    (judged_whole (g.S.Shelf.contents c.args.shelf.now) c.args.folder.now c.args.log.now c.args.ratio c.args.frequencies c.whole_exactly.ensures c.in_ok-judged.judged c.in_ok-judged.ensures.answer (sym c.is_whole.ensures ∙ c.if-is_whole.true)).1

pub returns-in_err-judged-clause-answer : goal.returns-in_err-judged-clause-answer
returns-in_err-judged-clause-answer g c = λ given moments.
    passed (IsFinished (Latency c.args.folder.now c.args.log.now c.args.ratio c.args.frequencies) (g.S.Shelf.contents c.args.shelf.now) given moments) c.from_residual.result c.in_err-judged.field-0.0 c.from_residual.ensures.1
    (latency_not (g.S.Shelf.contents c.args.shelf.now) c.args.folder.now c.args.log.now c.args.ratio c.args.frequencies given moments c.in_err-judged.field-0.0 c.in_err-judged.ensures.answer)

pub returns-then-is_whole-clause-answer : goal.returns-then-is_whole-clause-answer
returns-then-is_whole-clause-answer g c = λ given moments.
    latency_summed (g.S.Shelf.contents c.args.shelf.now) c.args.folder.now c.args.log.now c.args.ratio c.args.frequencies given moments c.in_ok-judged.judged _ _ _ _ c.in_ok-judged.ensures.answer
    (sym c.is_whole.ensures ∙ c.if-is_whole.true) c.deref.ensures.value c.shown.ensures.status c.shown.ensures.texts c.in_ok-text.ensures

pub returns-clause-answer : goal.returns-clause-answer
returns-clause-answer g c = λ given moments.
    latency_judged (g.S.Shelf.contents c.args.shelf.now) c.args.folder.now c.args.log.now c.args.ratio c.args.frequencies given moments c.in_ok-judged.judged _ _ c.in_ok-judged.ensures.answer
    (sym c.is_whole.ensures ∙ c.if-is_whole.false) c.shown-2.ensures.status (c.shown-2.ensures.texts ∙ ap on_screen c.in_ok-text-2.ensures)
