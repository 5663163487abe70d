use Rattle.std.proofs.Common.{refl, arith, rules}
use Rattle.snb_schema.specs.declared.column.Value.TheVariants.{NoId}
use Rattle.snb_schema.specs.declared.row.Row.TheVariants as row
use Rattle.snb_short_reads.proofs.persons.profile.Goals as goal

pub number-requires : goal.number-requires
number-requires c = c.sound_graphs.ensures.numbers c.args.graph.now c.known.ensures (row.Person c.args.person.now) c.requires.held 4 NoId (omega arith)

pub city-requires-clause-held : goal.city-requires-clause-held
city-requires-clause-held c = record { it = row.Person c.args.person.now; held = c.requires.held; keyed = refl }

pub number-requires-3 : goal.number-requires-3
number-requires-3 c = c.sound_graphs.ensures.numbers c.args.graph.now c.known.ensures (row.Person c.args.person.now) c.requires.held 5 NoId (omega arith)

pub returns : goal.returns
returns c = record { city = c.city.result; lives = c.city.ensures.only; is = search rules }
