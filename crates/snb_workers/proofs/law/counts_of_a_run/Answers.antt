use Rattle.snb_workers.proofs.CountLemmas.{counts_of_a_run}
use Rattle.snb_workers.proofs.law.counts_of_a_run.Goals as goal

pub returns : goal.returns
returns c = counts_of_a_run c.once_each.ensures
