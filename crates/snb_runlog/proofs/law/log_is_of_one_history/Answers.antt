use Rattle.snb_runlog.proofs.LogLemmas.{log_of_one, text_of_one}
use Rattle.snb_runlog.proofs.law.log_is_of_one_history.Goals as goal

pub returns-clause-last : goal.returns-clause-last
returns-clause-last c = log_of_one

pub returns-clause-text : goal.returns-clause-text
returns-clause-text c = text_of_one
