use Rattle.std.proofs.Common.{refl}
use Rattle.snb_loader.proofs.StreamFacts.{stream_lawful, streams_fit}
use Rattle.snb_loader.proofs.FileSinkFacts.{stream_hears, stream_turned}
use Rattle.snb_loader.proofs.streams.streams_are_lawful.Goals as goal

pub returns-clause-lawful : goal.returns-clause-lawful
returns-clause-lawful c = stream_lawful c.one_insert_of_fields.ensures c.one_fault.ensures.none c.one_fault.ensures.one

pub returns-clause-right : goal.returns-clause-right
returns-clause-right c = record {
  lawful = stream_lawful c.one_insert_of_fields.ensures c.one_fault.ensures.none c.one_fault.ensures.one;
  fits = streams_fit c.inserts_of_fields_fit.ensures;
  hears = stream_hears;
  turned = stream_turned;
  ended = λ s file done mine h. refl;
}
