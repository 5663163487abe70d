use Rattle.snb_handlers.proofs.Answering.{if_answer}
use Rattle.snb_handlers.proofs.handler.Handler.answer.Goals as goal

pub returns : goal.returns
returns g c =
    if_answer c.one_reply.ensures.answer c.some_reply.ensures c.args.graph.now c.known.ensures c.requires.sound c.args.query.now c.called.result c.called.ensures
