use Rattle.snb_tool.proofs.CompleteLemmas.{audit_in_short}
use Rattle.snb_tool.proofs.law.audit_in_short.Goals as goal

pub returns : goal.returns
returns c = audit_in_short c.one_command.ensures c.accepted_in_order.ensures
