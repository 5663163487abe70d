use Rattle.snb_streams.proofs.FaultFacts.{no_fault, one_fault}
use Rattle.snb_streams.proofs.SomeFacts.{insert_or_column}
use Rattle.snb_streams.proofs.law.one_fault.Goals as goal

pub returns : goal.returns
returns c = record { some = insert_or_column c.spelled_or_not.ensures.line; one = one_fault; none = no_fault }
