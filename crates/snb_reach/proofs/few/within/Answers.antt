use Rattle.std.proofs.Common.{◌∙◌}
use Rattle.snb_reach.proofs.FewLemmas.{met_within, none_within}
use Rattle.snb_reach.proofs.few.within.Goals as goal

pub returns-in_default : goal.returns-in_default
returns-in_default c = none_within c.args.graph.now c.args.start c.args.steps _ c.new.ensures (λ h. let e = c.in_default.ensures.held.1 h in cc)

pub returns : goal.returns
returns c = met_within c.args.graph.now c.args.start c.args.steps _ _ c.in_ok-met.ensures (c.from_vec.ensures ∙ c.apart.ensures)
