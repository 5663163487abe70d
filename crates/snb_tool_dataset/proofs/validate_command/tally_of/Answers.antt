use Rattle.std.proofs.Common.{Option, subst}
use Rattle.snb_base.specs.Shelf.{Files}
use Rattle.snb_validation_model.specs.CasesFile.{IsCasesAnswer}
use Rattle.snb_tool_outcome.specs.DatasetEndings.{IsTallyAnswer}
use Rattle.snb_tool_dataset.proofs.DatasetLemmas.{tallied, tally_no_dataset}
use Rattle.snb_tool_outcome.proofs.Laws.{passed}
use Rattle.snb_input_files.proofs.Laws.{still_asked}
use Rattle.snb_tool_dataset.proofs.validate_command.tally_of.Goals as goal

pub check_cases_via-requires-clause-allowed : goal.check_cases_via-requires-clause-allowed
check_cases_via-requires-clause-allowed g c = still_asked c.in_ok-graph.ensures.read.names c.args.cases.now c.requires.cases

pub returns-in_err-graph-clause-answer : goal.returns-in_err-graph-clause-answer
returns-in_err-graph-clause-answer g c =
    passed (IsTallyAnswer (g.S.Shelf.contents c.args.shelf.now) c.args.folder.now c.args.cases.now) c.from_residual.result c.in_err-graph.field-0.0 c.from_residual.ensures.1
    (tally_no_dataset (g.S.Shelf.contents c.args.shelf.now) c.args.folder.now c.args.cases.now c.load_dataset.new.used c.in_err-graph.field-0.0 c.in_err-graph.ensures.answer)

pub returns-clause-answer : goal.returns-clause-answer
returns-clause-answer g c =
    tallied (g.S.Shelf.contents c.args.shelf.now) c.args.folder.now c.args.cases.now c.load_dataset.new.used c.one_dataset.ensures.one c.one_cases_refusal.ensures.or_not c.in_ok-graph.graph c.check_cases_via.result c.in_ok-graph.ensures.answer
    (subst (λ (o : Option Files). IsCasesAnswer o c.args.cases.now c.in_ok-graph.graph c.check_cases_via.result) c.in_ok-graph.ensures.read.same c.check_cases_via.ensures.answer)
