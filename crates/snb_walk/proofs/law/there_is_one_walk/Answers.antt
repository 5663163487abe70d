use Rattle.snb_walk.proofs.OneWalks.{one_walk}
use Rattle.snb_walk.proofs.SomeWalks.{some_walk}
use Rattle.snb_walk.proofs.law.there_is_one_walk.Goals as goal

pub returns : goal.returns
returns c = record { some = some_walk c.some_reply.ensures; one = one_walk c.one_reply.ensures.answer }
