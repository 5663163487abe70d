use Rattle.snb_read_laws.proofs.EachRead.{one_answer}
use Rattle.snb_read_laws.proofs.ReplyFacts.{one_reply}
use Rattle.snb_read_laws.proofs.law.one_reply.Goals as goal

pub returns-clause-answer : goal.returns-clause-answer
returns-clause-answer c =
    one_answer c.first_is_one.ensures c.first_is_one-2.ensures c.first_is_one-3.ensures c.sound_graphs.ensures.author c.sound_graphs.ensures.root c.sound_graphs.ensures.replies

pub returns-clause-reply : goal.returns-clause-reply
returns-clause-reply c =
    one_reply c.first_is_one.ensures c.first_is_one-2.ensures c.first_is_one-3.ensures c.sound_graphs.ensures.author c.sound_graphs.ensures.root c.sound_graphs.ensures.replies
