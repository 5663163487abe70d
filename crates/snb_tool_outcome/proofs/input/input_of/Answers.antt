use Rattle.snb_input_files.specs.Loading.{load_for_plan}
use Rattle.snb_tool_outcome.proofs.InputLemmas.{many_made, open_made, passed}
use Rattle.snb_tool_outcome.specs.PlanEndings.{IsMadeAnswer}
use Rattle.snb_tool_outcome.proofs.input.input_of.Goals as goal

pub returns-in_err-plan : goal.returns-in_err-plan
returns-in_err-plan c =
    passed (IsMadeAnswer c.args.graph c.args.lanes c.args.lists c.args.frequencies c.args.ratio) c.from_residual.result (load_for_plan c.in_err-plan.field-0.0) c.from_residual.ensures.1
    (many_made c.args.graph c.args.lanes c.args.lists c.args.frequencies c.args.ratio c.in_err-plan.field-0.0 c.in_err-plan.ensures.refused)

pub returns-in_err-closed : goal.returns-in_err-closed
returns-in_err-closed c =
    passed (IsMadeAnswer c.args.graph c.args.lanes c.args.lists c.args.frequencies c.args.ratio) c.from_residual-in_err-closed.result (load_for_plan c.in_err-closed.field-0.0) c.from_residual-in_err-closed.ensures.1
    (open_made c.args.graph c.args.lanes c.args.lists c.args.frequencies c.args.ratio c.in_ok-plan.plan c.in_err-closed.field-0.0 c.in_ok-plan.ensures.plan c.in_ok-plan.ensures.reads c.in_err-closed.ensures.bad)
