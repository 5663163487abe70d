use Rattle.snb_input_files.proofs.LawFacts.{stages_join}
use Rattle.snb_input_files.proofs.law.stages_join.Goals as goal

pub returns : goal.returns
returns c = stages_join
