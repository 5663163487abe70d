use Rattle.snb_streams.proofs.KindFacts.{named_number, no_number}
use Rattle.snb_streams.proofs.line.kind_in.Goals as goal

pub returns-in-Some : goal.returns-in-Some
returns-in-Some c = named_number c.args.field.now c.in-Some.number c.args.kinds.now c.kind_of_number.result c.in-Some.ensures c.kind_of_number.ensures

pub returns-in-None : goal.returns-in-None
returns-in-None c = no_number c.args.field.now c.args.kinds.now c.in-None.ensures
