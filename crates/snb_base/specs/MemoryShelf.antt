-- A shelf in memory, as contracts see it.
use Rattle.std.specs.Prelude.{ℕ, ◌+◌, ◌-◌, ◌^◌, ◌&&◌, min, nat_lt, Bool, List, [], ◌∷◌, length, Some, None, MatchOption, if◌then◌else◌, nat_eq, ◌≡◌}
use Rattle.std.specs.List.{list_any}
use Rattle.std.specs.Str.{bytes_eq}
use Rattle.snb_base.specs.Shelf.{Files}
use Rattle.snb_base.specs.declared.shelf.Got.{Got}
use Rattle.snb_base.specs.declared.shelf.Got.TheVariants.{Took, Absent}

-- the files by name, the calls of `read` that are to fail, how many calls there were, and how many
-- failed
pub record Held : Type 0 where
  pub files : List (List ℕ × List ℕ)
  pub failing : List ℕ
  pub calls : ℕ
  pub faults : ℕ

-- the bytes of the first file of this name
abbrev pub file_of : List (List ℕ × List ℕ) → Files
file_of [] name = None
file_of (file ∷ files) name = if bytes_eq file.0 name then Some file.1 else file_of files name

-- whether this call is on the list
abbrev pub is_listed : List ℕ → ℕ → Bool
is_listed calls call = list_any (nat_eq call) calls

-- whether the next call of `read` fails: its number is on the list, and the count of calls is not
-- at its end
abbrev pub is_failing : Held → Bool
is_failing s = nat_lt s.calls (2 ^ 64 - 1) && is_listed s.failing s.calls

-- after the next call of `read`: one call more, as far as 64 bits go, and one fault more where it
-- fails
abbrev pub after_read : Held → Held
after_read s = record {
  files = s.files;
  failing = s.failing;
  calls = min (s.calls + 1) (2 ^ 64 - 1);
  faults = if is_failing s then s.faults + 1 else s.faults;
}

-- a reading without a fault: as many bytes as the file has from `at` on and the buffer takes
abbrev pub IsFullReading : Files → List ℕ → ℕ → ℕ → Got → Type 0
IsFullReading files name at room got =
    MatchOption (files name) (got ≡ Absent) (λ file. got ≡ Took (min room (length file - at)))
