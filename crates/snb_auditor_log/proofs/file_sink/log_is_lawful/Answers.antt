use Rattle.std.proofs.Common.{refl}
use Rattle.snb_auditor_log.proofs.LogFacts.{log_hears, log_lawful}
use Rattle.snb_auditor_log.proofs.file_sink.log_is_lawful.Goals as goal

pub returns-clause-lawful : goal.returns-clause-lawful
returns-clause-lawful c = log_lawful c.log_is_exact.ensures c.event_or_column.ensures.header c.event_or_column.ensures.event

pub returns-clause-right : goal.returns-clause-right
returns-clause-right c = record {
  lawful = log_lawful c.log_is_exact.ensures c.event_or_column.ensures.header c.event_or_column.ensures.event;
  fits = λ file known number line x text ends s. tt;
  hears = log_hears;
  turned = λ old new done mine h e. e;
  ended = λ s file done mine h. refl;
}
