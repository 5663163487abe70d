use Rattle.std.proofs.Common.{nat_lt, rules}
use Rattle.std.proofs.lemmas.Fn.{filter_same}
use Rattle.snb_reach.proofs.leveled.apart.Goals as goal

pub returns : goal.returns
returns c = filter_same _ (λ e. nat_lt 0 e.1) _ (λ x b f called. search rules) _ _ c.retain.ensures.filtered
