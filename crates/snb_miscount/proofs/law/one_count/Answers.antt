use Rattle.snb_miscount.proofs.MiscountFacts.{count_is_one}
use Rattle.snb_miscount.proofs.law.one_count.Goals as goal

pub returns : goal.returns
returns c = count_is_one c.one_reply.ensures.reply c.graphs_are_their_rows.ensures c.replay_is_welcome.ensures.sound
