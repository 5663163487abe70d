use Rattle.snb_tool.proofs.CompleteLemmas.{answers_have_status}
use Rattle.snb_tool.proofs.law.answers_have_status.Goals as goal

pub returns : goal.returns
returns c = answers_have_status
