use Rattle.std.proofs.Common.{ap, length, ◌∙◌}
use Rattle.snb_history.specs.RunTexts.{log_text}
use Rattle.snb_graph_model.specs.FinalText.{final_text}
use Rattle.snb_plan.specs.Plans.{queries_in, updates_in}
use Rattle.snb_schema.specs.ScreenTexts.{summary_text}
use Rattle.snb_tool_texts.specs.Answers.{answers_text}
use Rattle.snb_replica.specs.Counts.{logged_of}
use Rattle.snb_tool_plan.proofs.run_command.texts_of.Goals as goal

pub returns : goal.returns
returns c =
    let parts = c.into_parts-events.ensures in
    let plan = c.args.plan.now in
    let events = c.into_vec.ensures ∙ parts.events in
    let log = c.in_ok-log.ensures ∙ (λ i. log_text c.args.workers (length plan.operations) (logged_of (parts.replies i) (events i))) in
    let answers = c.in_ok-answers.ensures ∙ ap answers_text parts.replies in
    let finals = c.in_ok-finals.ensures.0 ∙ ap final_text parts.graph in
    let screen = c.in_ok-finals.ensures.1 ∙ (λ i. summary_text (length plan.operations) (length (updates_in plan)) (length (queries_in plan)) (length (parts.graph i))) in
    λ i. record { screen = screen i; log = log i; answers = answers i; finals = finals i; cases = c.new.ensures.items i }
