use Rattle.snb_tool_plan.proofs.PlanLemmas.{trial_done}
use Rattle.snb_tool_plan.proofs.trial_command.trial.Goals as goal

pub returns-clause-answer : goal.returns-clause-answer
returns-clause-answer g c = λ contents given.
    trial_done contents c.args.size c.args.workers given (g.C.Clock.moments c.args.clock.now) c.in_ok-input.input _ c.in_ok-input.ensures c.in_ok-output.ensures
