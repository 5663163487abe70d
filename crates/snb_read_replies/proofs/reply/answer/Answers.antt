use Rattle.snb_read_laws.proofs.Laws.{columns_of_answer}
use Rattle.snb_read_replies.proofs.reply.answer.Goals as goal

pub tail_of-requires : goal.tail_of-requires
tail_of-requires c = record { columns = columns_of_answer c.args.graph.now c.args.query.now c.in_ok-own.own c.in_ok-own.ensures }
