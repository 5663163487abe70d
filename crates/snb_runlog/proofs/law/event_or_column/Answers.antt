use Rattle.snb_runlog.proofs.EventFacts
use Rattle.snb_runlog.proofs.HeaderFacts
use Rattle.snb_runlog.proofs.law.event_or_column.Goals as goal

pub returns-clause-event : goal.returns-clause-event
returns-clause-event c = EventFacts.event_or_column

pub returns-clause-header : goal.returns-clause-header
returns-clause-header c = HeaderFacts.header_or_column
