use Rattle.std.proofs.Common.{Some, inl, inr, refl}
use Rattle.snb_tool_words.specs.declared.command.Command.TheVariants.{Validate}
use Rattle.snb_tool_words.specs.declared.options.Via.TheVariants.{Graph, Table}
use Rattle.snb_tool_outcome.specs.Endings.{IsFinished}
use Rattle.snb_tool_outcome.proofs.Laws.{passed}
use Rattle.snb_tool_dataset.proofs.DatasetLemmas.{table_done, table_not, validate_done, validate_not}
use Rattle.snb_tool_dataset.proofs.validate_command.validate.Goals as goal

pub tally_of-requires-clause-allowed : goal.tally_of-requires-clause-allowed
tally_of-requires-clause-allowed g c = λ name is. c.requires.allowed name (inl is)

pub tally_of-requires-clause-cases : goal.tally_of-requires-clause-cases
tally_of-requires-clause-cases g c = c.requires.allowed c.args.cases.now (inr refl)

pub returns-in_err-tally-clause-graph : goal.returns-in_err-tally-clause-graph
returns-in_err-tally-clause-graph g c = λ given moments.
    passed (IsFinished (Validate c.args.folder.now c.args.cases.now Graph) (g.S.Shelf.contents c.args.shelf.now) given moments) c.from_residual.result c.in_err-tally.field-0.0 c.from_residual.ensures.1
    (validate_not (g.S.Shelf.contents c.args.shelf.now) c.args.folder.now c.args.cases.now moments given c.in_err-tally.field-0.0 c.in_err-tally.ensures.answer)

pub returns-in_err-tally-clause-table : goal.returns-in_err-tally-clause-table
returns-in_err-tally-clause-table g c = λ connector moments all.
    passed (IsFinished (Validate c.args.folder.now c.args.cases.now Table) (g.S.Shelf.contents c.args.shelf.now) (Some connector) moments) c.from_residual.result c.in_err-tally.field-0.0 c.from_residual.ensures.1
    (table_not (g.S.Shelf.contents c.args.shelf.now) c.args.folder.now c.args.cases.now moments connector all c.in_err-tally.field-0.0 c.in_err-tally.ensures.answer)

pub returns-clause-graph : goal.returns-clause-graph
returns-clause-graph g c = λ given moments.
    validate_done (g.S.Shelf.contents c.args.shelf.now) c.args.folder.now c.args.cases.now moments given c.in_ok-tally.tally c.in_ok-finished_of.field-0 c.in_ok-tally.ensures.answer c.in_ok-finished_of.ensures

pub returns-clause-table : goal.returns-clause-table
returns-clause-table g c = λ connector moments all.
    table_done (g.S.Shelf.contents c.args.shelf.now) c.args.folder.now c.args.cases.now moments connector all c.in_ok-tally.tally c.in_ok-finished_of.field-0 c.in_ok-tally.ensures.answer c.in_ok-finished_of.ensures
