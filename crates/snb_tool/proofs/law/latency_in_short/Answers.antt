use Rattle.snb_tool.proofs.CompleteLemmas.{latency_in_short}
use Rattle.snb_tool.proofs.law.latency_in_short.Goals as goal

pub returns : goal.returns
returns c = latency_in_short c.one_command.ensures c.whole_exactly.ensures
