-- The shelf of a case.
use Rattle.std.specs.Prelude.{ℕ}
use Rattle.snb_test_whole.specs.declared.case_shelf.Kept.{Kept}
use Rattle.snb_test_whole.specs.declared.case_shelf.Kept.TheVariants.{Memory, Steady}

-- how many faults there have been
abbrev pub faults_of : Kept → ℕ
faults_of (Memory shelf) = shelf.faults
faults_of (Steady shelf) = 0
