use Rattle.snb_schema.proofs.PlaceFacts.{frequency_written}
use Rattle.snb_schema.proofs.frequencies.Frequencies.with.Goals as goal

pub returns : goal.returns
returns c = rw (← c.table.view_is) (frequency_written c.table.inside.by_place c.place_of.result c.args.query c.args.frequency c.place_of.ensures c.requires.complex c.table.invariant.0)
