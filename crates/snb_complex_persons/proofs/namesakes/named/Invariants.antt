use Rattle.std.proofs.Common.{take}
use Rattle.std.specs.List.{filter}
use Rattle.snb_read_model.specs.ComplexReads.{is_named}
use Rattle.snb_complex_persons.specs.Namesakes.{AreNamesakes}
use Rattle.snb_complex_persons.proofs.namesakes.named.Given as goal

abbrev pub invariant-loop-one : goal.invariant-loop-one
invariant-loop-one l = AreNamesakes l.graph (filter (is_named l.graph l.first_name) (take l.one-index l.near)) l.found.items
