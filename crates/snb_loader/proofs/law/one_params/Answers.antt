use Rattle.std.proofs.Common.{[]}
use Rattle.snb_loader.proofs.LawFacts.{params_once, params_one}
use Rattle.snb_loader.proofs.law.one_params.Goals as goal

pub returns-clause-one : goal.returns-clause-one
returns-clause-one c = params_one (c.one_saying.ensures (record { done = []; mine = [] }))

pub returns-clause-refusal : goal.returns-clause-refusal
returns-clause-refusal c = params_once (c.one_refusal.ensures.one (record { done = []; mine = [] })) (c.one_refusal.ensures.or_not (record { done = []; mine = [] }))
