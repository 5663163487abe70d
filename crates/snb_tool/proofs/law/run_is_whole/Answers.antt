use Rattle.snb_tool_outcome.proofs.Laws.{AreOne}
use Rattle.snb_tool.proofs.WholeLemmas.{run_is_whole}
use Rattle.snb_tool.proofs.law.run_is_whole.Goals as goal

pub returns : goal.returns
returns c =
    let one : AreOne = record { dataset = c.one_dataset.ensures.one; lanes = c.one_lanes.ensures.one; params = c.one_params.ensures.one; plan = c.plan_is_one.ensures } in
    run_is_whole c.one_command.ensures c.refusal_is_one.ensures.or_not one c.one_log_refusal.ensures.says c.said_log_is_clean.ensures c.whole_exactly.ensures c.counts_of_a_run.ensures
