use Rattle.snb_runlog.proofs.BackFacts
use Rattle.snb_runlog.proofs.law.log_reads_back.Goals as goal

pub returns-clause-back : goal.returns-clause-back
returns-clause-back c = BackFacts.log_reads_back c.one_spelling.ensures.read

pub returns-clause-run : goal.returns-clause-run
returns-clause-run c = BackFacts.run_reads_back c.one_spelling.ensures.read

pub returns-clause-again : goal.returns-clause-again
returns-clause-again c = BackFacts.log_again c.one_spelling.ensures.read

pub returns-clause-last : goal.returns-clause-last
returns-clause-last c = BackFacts.last_again c.one_spelling.ensures.read

pub returns-clause-first : goal.returns-clause-first
returns-clause-first c = BackFacts.first_again c.one_spelling.ensures.read

pub returns-clause-lacks : goal.returns-clause-lacks
returns-clause-lacks c = BackFacts.first_lacks c.one_spelling.ensures.read
