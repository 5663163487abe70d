-- What a reader or a test of an input answers.
use Rattle.std.specs.Prelude.{ℕ, Result, Ok, Err}
use Rattle.snb_schema.specs.declared.fault.Fault.{Fault}
use Rattle.snb_schema.specs.declared.fault.Fault.TheVariants.{Bad, Memory}
use Rattle.snb_schema.specs.declared.fault.LineFault.{LineFault}
use Rattle.snb_schema.specs.declared.fault.LineFault.TheVariants as line_fault
use Rattle.snb_schema.specs.declared.refusal.Refusal.{Refusal}

-- a fact of the refusal, where there is one
abbrev pub OnBad : {A : Type 0} → Result A Fault → (Refusal → Type 0) → Type 0
OnBad (Ok a) P = Unit {0}
OnBad (Err (Bad r)) P = P r
OnBad (Err Memory) P = Unit {0}

-- a fact of the bad column, where there is one
abbrev pub OnBadColumn : {A : Type 0} → Result A LineFault → (ℕ → Type 0) → Type 0
OnBadColumn (Ok a) P = Unit {0}
OnBadColumn (Err (line_fault.Bad column)) P = P column
OnBadColumn (Err line_fault.Memory) P = Unit {0}
