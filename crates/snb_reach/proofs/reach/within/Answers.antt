use Rattle.std.proofs.lemmas.Result.{IfOk-weaker}
use Rattle.snb_reach.proofs.reach.within.Goals as goal

pub returns : goal.returns
returns c = IfOk-weaker c.listed.result _ _ (λ near is. is c.args.graph.now c.args.start c.args.steps c.in_ok-met.ensures) c.listed.ensures
