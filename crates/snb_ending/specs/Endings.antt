-- What standard error shows where the program ends.
use Rattle.std.specs.Prelude.{◌++◌, ◌∷◌, ℕ, ◌==◌, List, [], if◌then◌else◌, codes}
use Rattle.snb_ending.specs.declared.fault.Fault.{Fault}
use Rattle.snb_ending.specs.declared.fault.Fault.TheVariants.{Read, Write, Memory}

-- the exit status of a fault
abbrev pub status_of : Fault → ℕ
status_of Read = 4
status_of Write = 5
status_of Memory = 6

-- its line on standard error, without the end
abbrev pub line_of : Fault → List ℕ
line_of Read = codes "snb: read fault"
line_of Write = codes "snb: write fault"
line_of Memory = codes "snb: out of memory"

-- what standard error shows for a status: a line where it tells of a fault
abbrev pub shown_for : ℕ → List ℕ
shown_for status =
    if status == 4 then line_of Read ++ 10 ∷ []
    else (if status == 5 then line_of Write ++ 10 ∷ []
    else (if status == 6 then line_of Memory ++ 10 ∷ [] else []))
