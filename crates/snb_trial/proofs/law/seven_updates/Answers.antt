use Rattle.std.proofs.Common.{arith}
use Rattle.snb_trial.proofs.Counts.{seven_of_each}
use Rattle.snb_trial.proofs.law.seven_updates.Goals as goal

pub returns-clause-each : goal.returns-clause-each
returns-clause-each c = seven_of_each

pub returns-clause-few : goal.returns-clause-few
returns-clause-few c n few = let e = seven_of_each n in omega (arith, few, e)
