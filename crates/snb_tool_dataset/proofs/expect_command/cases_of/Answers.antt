use Rattle.std.proofs.Common.{◌≡◌, ◌∙◌, List, ap, length}
use Rattle.std.proofs.lemmas.List.{length-map}
use Rattle.snb_history.specs.Schedule.{Schedule}
use Rattle.snb_history.specs.declared.step.Step.{Step}
use Rattle.snb_plan.specs.Plans.{Operation}
use Rattle.snb_tool_texts.specs.Answers.{bytes_in}
use Rattle.snb_tool_dataset.proofs.ExpectLemmas.{has_cases}
use Rattle.snb_tool_dataset.proofs.expect_command.cases_of.Goals as goal

pub returns : goal.returns
returns g c =
    let plan = c.into_parts-graph.result.1 in
    let size : length c.steps.result.now ≡ length plan.operations =
    ap (λ (steps : List Step). length steps) (c.steps.ensures.value ∙ ap (λ (s : Schedule). s.steps) c.schedule.ensures) ∙ length-map plan.operations (λ (o : Operation). o.step) in
    has_cases c.args.input c.into_parts-graph.result.0 plan _ c.new-cases.result.items _ c.into_parts-graph.ensures.0 c.into_parts-graph.ensures.1 c.known.ensures
    c.new-cases.ensures.items c.in_ok-expect_via.ensures.ok size c.in_ok-screen.ensures c.new.ensures.items (ap bytes_in c.new-2.ensures.items) c.new-3.ensures.items
