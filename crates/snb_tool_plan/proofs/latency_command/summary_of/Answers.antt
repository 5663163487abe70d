use Rattle.std.specs.Prelude.{ℕ, List, ◌++◌}
use Rattle.std.proofs.Common.{ap, subst, ◌∙◌}
use Rattle.snb_history.specs.declared.event.Event.{Event}
use Rattle.snb_summary.specs.Summaries.{IsSummary}
use Rattle.snb_summary.specs.SummaryTexts.{measures_text}
use Rattle.snb_summary.specs.Works.{run_of}
use Rattle.snb_tool_outcome.specs.Output.{on_screen}
use Rattle.snb_tool_plan.proofs.latency_command.summary_of.Goals as goal

pub returns : goal.returns
returns c = record {
  measures = c.in_ok-summary.summary;
  summary = subst (λ (h : List Event). IsSummary (run_of c.args.plan.now h) c.in_ok-summary.summary) (c.deref.ensures.value ∙ c.in_ok-events.ensures) c.in_ok-summary.ensures;
  shown = ap on_screen (c.in_ok-measures_text.ensures.ok ∙ ap (λ (xs : List ℕ). xs ++ measures_text c.in_ok-summary.summary) c.new-text.ensures.items);
}
