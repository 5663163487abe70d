use Rattle.std.proofs.Common.{[], Err, Ok, subst, sym}
use Rattle.snb_input_files.specs.declared.found.Found.{Found}
use Rattle.snb_input_files.specs.Loading.{IsAnswer}
use Rattle.snb_validation_model.specs.CasesFile.{IsCasesAnswer, case_format, cases_file}
use Rattle.snb_validation_check.specs.CaseTakers.{Counted, IsHeard}
use Rattle.snb_validation_model.specs.declared.tally.Tally.{Tally}
use Rattle.snb_validation_check.proofs.Answering.{absent_answer, err_answer, first_answer, none_used, whole_answer}
use Rattle.snb_validation_check.proofs.file.check_cases_via.Goals as goal

pub returns-in-Ok-Whole-clause-answer : goal.returns-in-Ok-Whole-clause-answer
returns-in-Ok-Whole-clause-answer g c =
    let contents = g.S.Shelf.contents c.args.shelf.now in
    let at = c.in-Ok-Whole in
    subst (λ (t : Tally). IsCasesAnswer contents c.args.path.now c.args.graph (Ok t)) (sym c.into_tally.ensures)
    (whole_answer c.args.graph contents c.args.path.now c.new-file_sink.result at.file_sink at.field-0-1
    (subst (λ (l : Found Counted). IsAnswer (case_format c.args.graph) (IsHeard c.args.graph) contents c.args.path.now cases_file none_used [] c.new-file_sink.result (Ok l)) at.field-0-is
    (first_answer c.args.graph contents c.args.path.now c.new-file_sink.result (Ok at.field-0) c.new-file_sink.ensures c.known.ensures c.requires.sound at.ensures.answer)))

pub returns-in-Ok-Absent-clause-answer : goal.returns-in-Ok-Absent-clause-answer
returns-in-Ok-Absent-clause-answer g c =
    let contents = g.S.Shelf.contents c.args.shelf.now in
    let at = c.in-Ok-Absent in
    absent_answer c.args.graph contents c.args.path.now c.new-file_sink.result at.field-0-0
    (subst (λ (l : Found Counted). IsAnswer (case_format c.args.graph) (IsHeard c.args.graph) contents c.args.path.now cases_file none_used [] c.new-file_sink.result (Ok l)) at.field-0-is
    (first_answer c.args.graph contents c.args.path.now c.new-file_sink.result (Ok at.field-0) c.new-file_sink.ensures c.known.ensures c.requires.sound at.ensures.answer))

pub returns-clause-answer : goal.returns-clause-answer
returns-clause-answer g c =
    let contents = g.S.Shelf.contents c.args.shelf.now in
    let at = c.in-Err in
    err_answer c.args.graph contents c.args.path.now c.new-file_sink.result at.load
    (first_answer c.args.graph contents c.args.path.now c.new-file_sink.result (Err at.load) c.new-file_sink.ensures c.known.ensures c.requires.sound at.ensures.answer)
