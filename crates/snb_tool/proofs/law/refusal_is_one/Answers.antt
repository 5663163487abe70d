use Rattle.snb_tool_outcome.proofs.Laws.{AreOne}
use Rattle.snb_tool.proofs.OnceLemmas.{RefuseEachOnce, once}
use Rattle.snb_tool.proofs.law.refusal_is_one.Goals as goal

pub returns-clause-one : goal.returns-clause-one
returns-clause-one c = λ command found r q a b.
    let one : AreOne = record { dataset = c.one_dataset.ensures.one; lanes = c.one_lanes.ensures.one; params = c.one_params.ensures.one; plan = c.plan_is_one.ensures } in
    let each : RefuseEachOnce = record { dataset = c.one_dataset.ensures.refusal; lanes = c.one_lanes.ensures.refusal; params = c.one_params.ensures.refusal; log = λ beside. record { one = c.one_log_refusal.ensures.one beside; or_not = c.one_log_refusal.ensures.or_not beside }; cases = c.one_cases_refusal.ensures.one } in
    (once one each command found).one r q a b

pub returns-clause-or_not : goal.returns-clause-or_not
returns-clause-or_not c = λ command found r a.
    let one : AreOne = record { dataset = c.one_dataset.ensures.one; lanes = c.one_lanes.ensures.one; params = c.one_params.ensures.one; plan = c.plan_is_one.ensures } in
    let each : RefuseEachOnce = record { dataset = c.one_dataset.ensures.refusal; lanes = c.one_lanes.ensures.refusal; params = c.one_params.ensures.refusal; log = λ beside. record { one = c.one_log_refusal.ensures.one beside; or_not = c.one_log_refusal.ensures.or_not beside }; cases = c.one_cases_refusal.ensures.one } in
    (once one each command found).or_not r a
