use Rattle.snb_read_laws.proofs.ReplyFacts.{some_reply}
use Rattle.snb_read_laws.proofs.law.some_reply.Goals as goal

pub returns : goal.returns
returns c =
    some_reply c.first_is_some.ensures c.first_is_some-2.ensures c.first_is_some-3.ensures
    c.sound_graphs.ensures.kinds c.sound_graphs.ensures.required c.sound_graphs.ensures.author c.sound_graphs.ensures.root
