use Rattle.snb_handlers.proofs.table.HandlersReplies.answer_to.Goals as goal

pub answer-requires-clause-kind : goal.answer-requires-clause-kind
answer-requires-clause-kind g c = c.requires.ready _
