use Rattle.snb_tool.proofs.CompleteLemmas.{run_in_short}
use Rattle.snb_tool.proofs.law.run_in_short.Goals as goal

pub returns : goal.returns
returns c = run_in_short c.one_command.ensures c.counts_of_a_run.ensures
