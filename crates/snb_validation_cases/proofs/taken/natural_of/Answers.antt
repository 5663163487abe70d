use Rattle.std.proofs.Common.{arith}
use Rattle.snb_validation_cases.proofs.TakeFacts.{natural}
use Rattle.snb_validation_cases.proofs.taken.natural_of.Goals as goal

pub returns : goal.returns
returns c = natural c.args.text.now c.scan.result c.to_u64.result (grind arith) (grind arith) c.to_u64.ensures
