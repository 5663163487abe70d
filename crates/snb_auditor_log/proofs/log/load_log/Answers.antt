use Rattle.std.proofs.Common.{List, [], Ok, refl, subst, sym}
use Rattle.snb_history.specs.declared.logged.Logged.{Logged}
use Rattle.snb_input_files.specs.declared.found.Found.{Found}
use Rattle.snb_input_files.specs.Loading.{IsKnownAnswer}
use Rattle.snb_runlog.specs.Lines.{log_file}
use Rattle.snb_audit_model.specs.LogFiles.{HasHeard, log_format}
use Rattle.snb_auditor_log.proofs.LogFacts.{answer_auditable, log_absent, log_err, log_ok, nothing, some_known}
use Rattle.snb_auditor_log.proofs.log.load_log.Goals as goal

pub returns-in-Err-clause-answer : goal.returns-in-Err-clause-answer
returns-in-Err-clause-answer g c = log_err (g.S.Shelf.contents c.args.shelf.now) c.args.path.now c.new-file_sink.result c.load_known.new.reader.known c.in-Err.load (c.in-Err.ensures.answer c.new-file_sink.result [] [] tt c.new-file_sink.ensures)

pub returns-in-Ok-Absent-clause-answer : goal.returns-in-Ok-Absent-clause-answer
returns-in-Ok-Absent-clause-answer g c =
    log_absent (g.S.Shelf.contents c.args.shelf.now) c.args.path.now c.new-file_sink.result c.load_known.new.reader.known c.in-Ok-Absent.field-0-0
    (subst (λ (z : Found (List Logged)). IsKnownAnswer log_format HasHeard (g.S.Shelf.contents c.args.shelf.now) c.args.path.now log_file nothing [] c.new-file_sink.result c.load_known.new.reader.known (Ok z)) c.in-Ok-Absent.field-0-is (c.in-Ok-Absent.ensures.answer c.new-file_sink.result [] [] tt c.new-file_sink.ensures))

pub returns-in-Some-clause-answer : goal.returns-in-Some-clause-answer
returns-in-Some-clause-answer g c =
    log_ok (g.S.Shelf.contents c.args.shelf.now) c.args.path.now c.new-file_sink.result c.load_known.new.reader.known c.in-Some.head.now c.in-Ok-Whole.file_sink c.in-Ok-Whole.field-0-1 (record { header = c.in-Some.head.now; logged = c.into_logged.result })
    (subst (λ (z : Found (List Logged)). IsKnownAnswer log_format HasHeard (g.S.Shelf.contents c.args.shelf.now) c.args.path.now log_file nothing [] c.new-file_sink.result c.load_known.new.reader.known (Ok z)) c.in-Ok-Whole.field-0-is (c.in-Ok-Whole.ensures.answer c.new-file_sink.result [] [] tt c.new-file_sink.ensures))
    (sym c.in-Some.ensures) refl c.into_logged.ensures

pub returns-in-Some-clause-auditable : goal.returns-in-Some-clause-auditable
returns-in-Some-clause-auditable g c =
    answer_auditable c.counts_are_in_version_2.ensures (g.S.Shelf.contents c.args.shelf.now) c.args.path.now (record { header = c.in-Some.head.now; logged = c.into_logged.result })
    (log_ok (g.S.Shelf.contents c.args.shelf.now) c.args.path.now c.new-file_sink.result c.load_known.new.reader.known c.in-Some.head.now c.in-Ok-Whole.file_sink c.in-Ok-Whole.field-0-1 (record { header = c.in-Some.head.now; logged = c.into_logged.result })
    (subst (λ (z : Found (List Logged)). IsKnownAnswer log_format HasHeard (g.S.Shelf.contents c.args.shelf.now) c.args.path.now log_file nothing [] c.new-file_sink.result c.load_known.new.reader.known (Ok z)) c.in-Ok-Whole.field-0-is (c.in-Ok-Whole.ensures.answer c.new-file_sink.result [] [] tt c.new-file_sink.ensures))
    (sym c.in-Some.ensures) refl c.into_logged.ensures)

pub unreachable-requires : goal.unreachable-requires
unreachable-requires g c =
    some_known (g.S.Shelf.contents c.args.shelf.now) c.args.path.now c.new-file_sink.result c.load_known.new.reader.known c.in-Ok-Whole.file_sink c.in-Ok-Whole.field-0-1
    (subst (λ (z : Found (List Logged)). IsKnownAnswer log_format HasHeard (g.S.Shelf.contents c.args.shelf.now) c.args.path.now log_file nothing [] c.new-file_sink.result c.load_known.new.reader.known (Ok z)) c.in-Ok-Whole.field-0-is (c.in-Ok-Whole.ensures.answer c.new-file_sink.result [] [] tt c.new-file_sink.ensures))
    (sym c.in-None.ensures)
