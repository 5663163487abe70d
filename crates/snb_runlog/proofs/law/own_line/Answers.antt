use Rattle.snb_runlog.proofs.OwnFacts
use Rattle.snb_runlog.proofs.law.own_line.Goals as goal

pub returns-clause-event : goal.returns-clause-event
returns-clause-event c = OwnFacts.own_line c.one_spelling.ensures.read

pub returns-clause-header : goal.returns-clause-header
returns-clause-header c = OwnFacts.own_header c.one_spelling.ensures.read
