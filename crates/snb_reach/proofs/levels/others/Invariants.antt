use Rattle.std.proofs.Common.{◌≡◌, ◌++◌, nat_lt}
use Rattle.std.specs.List.{filter}
use Rattle.snb_reach.proofs.levels.others.Given as goal

abbrev pub invariant-loop-person : goal.invariant-loop-person
invariant-loop-person l = l.near ++ filter (λ e. nat_lt 0 e.1) l.person-iterator ≡ filter (λ e. nat_lt 0 e.1) l.met.entries
