use Rattle.snb_workers.proofs.CountLemmas.{one_entry}
use Rattle.snb_workers.proofs.law.one_entry.Goals as goal

pub returns : goal.returns
returns c = one_entry c.one_reply.ensures.reply
