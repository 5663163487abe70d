-- The replica has taken the events after those that it stood for.
use Rattle.std.proofs.lemmas.Result.{on_ok_weaker}
use Rattle.snb_workers.proofs.TurnEvents.{caught_up}
use Rattle.snb_workers.proofs.crew.catch_up.Goals as goal

pub returns : goal.returns
returns c =
    on_ok_weaker c.advance.result
    (λ taken base behind. caught_up base c.args.plan.now c.events.result.now c.args.book.now.history c.args.replica.now c.advance.new.self c.front-front.result c.front-front.ensures c.events.ensures.value behind taken)
    c.advance.ensures.ok
