use Rattle.snb_workers.proofs.CountLemmas.{finishes_are_of_operations}
use Rattle.snb_workers.proofs.law.finishes_are_of_operations.Goals as goal

pub returns : goal.returns
returns c = finishes_are_of_operations
