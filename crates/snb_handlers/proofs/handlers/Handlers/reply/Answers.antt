use Rattle.std.proofs.Common.{List, sym, subst}
use Rattle.snb_schema.specs.ReadKinds.{read_kind_of}
use Rattle.snb_read_model.specs.Cells.{ByteCell}
use Rattle.snb_read_model.specs.Columns.{HaveColumns}
use Rattle.snb_read_laws.proofs.Laws.{columns_of_answer}
use Rattle.snb_handlers.proofs.handlers.Handlers.reply.Goals as goal

pub answer-requires-clause-kind : goal.answer-requires-clause-kind
answer-requires-clause-kind g c = c.requires.all (read_kind_of c.args.query.now)

pub tail_of-requires : goal.tail_of-requires
tail_of-requires g c =
    let columns = columns_of_answer c.args.graph.now c.args.query.now c.in_ok-own.own c.in_ok-own.ensures in
    record { columns = subst (λ (answer : List (List ByteCell)). HaveColumns c.args.query.now answer) (sym c.in_ok-lend_answer.ensures) columns }
