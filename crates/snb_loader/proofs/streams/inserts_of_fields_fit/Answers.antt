use Rattle.snb_loader.proofs.StreamFacts.{fields_fit}
use Rattle.snb_loader.proofs.streams.inserts_of_fields_fit.Goals as goal

pub returns : goal.returns
returns c = fields_fit c.own_line.ensures
