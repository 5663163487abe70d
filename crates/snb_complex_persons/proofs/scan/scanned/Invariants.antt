use Rattle.std.proofs.Common.{nat_eq}
use Rattle.std.specs.HashMap.{get}
use Rattle.snb_complex_persons.proofs.ScanLemmas.{IsScanning}
use Rattle.snb_complex_persons.proofs.scan.scanned.Given as goal

abbrev pub invariant-loop-person : goal.invariant-loop-person
invariant-loop-person l = IsScanning l.graph (get nat_eq l.met) l.first_name l.found.items l.person-iterator
