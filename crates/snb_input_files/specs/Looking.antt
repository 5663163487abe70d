-- How far the files of a stage are looked for. Cited by contracts of private functions alone.
use Rattle.std.specs.Prelude.{◌≡◌, ℕ, ◌+◌, ◌^◌, ◌≤◌, Bool, true, false, List, [], ◌∷◌, ◌++◌, Option, Some, None, Result, Ok, Err, IfSome}
use Rattle.snb_base.specs.Shelf.{Files}
use Rattle.snb_schema.specs.declared.file.FileId.{FileId}
use Rattle.snb_input_files.specs.declared.load.Load.{Load}
use Rattle.snb_input_files.specs.declared.load.Load.TheVariants.{Refused, ReadFault, Memory}
use Rattle.snb_input_files.specs.declared.load.Used.{Used}
use Rattle.snb_input_files.specs.declared.series.Series.{Series}
use Rattle.snb_input_files.specs.declared.found.Found.{Found}
use Rattle.snb_input_files.specs.declared.found.Found.TheVariants.{Absent, Whole}
use Rattle.snb_input_files.specs.declared.walk.Walk.{Walk}
use Rattle.snb_input_files.specs.Files.{held_in}
use Rattle.snb_base.specs.FirstOf.{FirstOf}
use Rattle.snb_input_lines.specs.Sinks.{Heard}
use Rattle.snb_input_files.specs.Format.{Format}
use Rattle.snb_input_files.specs.Ranks.{rank}
use Rattle.snb_input_files.specs.Stages.{Walked}
use Rattle.snb_input_files.specs.Walk.{Before, Held, Look, Role, file_at, first_role, series_looks, walk_checks}

-- the folder holds this under the file's name, where the shelf tells what it holds
abbrev pub IsFileTold : Option Files → List ℕ → FileId → Option (List ℕ) → Type 0
IsFileTold contents folder file held = IfSome contents (λ files. held_in folder files file ≡ held)

-- these files are what the looks found
abbrev pub Agrees : Held → List Look → Type 0
Agrees held [] = Unit {0}
Agrees held (l ∷ ls) = (held l.file ≡ l.held) × Agrees held ls

-- the looks found what the folder holds, where the shelf tells what it holds
abbrev pub AreTold : Option Files → List ℕ → List Look → Type 0
AreTold contents folder looked = IfSome contents (λ files. Agrees (held_in folder files) looked)

-- a look for a file in a role, of what is held
abbrev pub look_of : FileId → Role → Option (List ℕ) → Look
look_of file role held = record { file = file; role = role; held = held }

-- what a look for a file answers, after others, where so much was read before
abbrev pub IsLook : {P K T : Type 0} → Format K T → Heard P T → Option Files → List ℕ → FileId
    → Bool → Before → List Look → Used → Result (Found P) Load → Type 0
IsLook g heard contents folder file needed start looked used (Ok (Absent new)) =
    IsFileTold contents folder file None
    × Walked g heard start (looked ++ look_of file (first_role needed) None ∷ [])
    (record { used = used; file_sink = new })
IsLook g heard contents folder file needed start looked used (Ok (Whole new now)) =
    (b : List ℕ) × IsFileTold contents folder file (Some b)
    × Walked g heard start (looked ++ look_of file (first_role needed) (Some b) ∷ [])
    (record { used = now; file_sink = new })
IsLook g heard contents folder file needed start looked used (Err (Refused r)) =
    (held : Option (List ℕ)) × IsFileTold contents folder file held
    × FirstOf (walk_checks g start (looked ++ look_of file (first_role needed) held ∷ [])) r
IsLook g heard contents folder file needed start looked used (Err ReadFault) = Unit {0}
IsLook g heard contents folder file needed start looked used (Err Memory) = Unit {0}

-- whether a file is held
abbrev pub IsPeek : Option Files → List ℕ → FileId → Bool → Type 0
IsPeek contents folder file true = (b : List ℕ) × IsFileTold contents folder file (Some b)
IsPeek contents folder file false = IsFileTold contents folder file None

-- the answer is no refusal
abbrev pub IsNotRefused : {A : Type 0} → Result A Load → Type 0
IsNotRefused (Ok a) = Unit {0}
IsNotRefused (Err (Refused r)) = ⊥
IsNotRefused (Err ReadFault) = Unit {0}
IsNotRefused (Err Memory) = Unit {0}

-- the ranks of the files of these looks rise, from one number on and below another
abbrev pub Rises : ℕ → List Look → ℕ → Type 0
Rises low [] high = low ≤ high
Rises low (l ∷ ls) high = (low ≤ rank l.file) × Rises (rank l.file + 1) ls high

-- all looks that are to be made were made: over each folder that holds what was found, these are
-- they
pub record LooksAll (contents : Option Files) (folder : List ℕ) (full : Held → List Look)
    (low high : ℕ) (ls : List Look) : Type 0 where
  pub told : AreTold contents folder ls
  pub rises : Rises low ls high
  pub all : (held : Held) → Agrees held ls → full held ≡ ls

-- the first few of these looks were made
pub record LooksSome (contents : Option Files) (folder : List ℕ) (full : Held → List Look)
    (low high : ℕ) (ls : List Look) : Type 0 where
  pub told : AreTold contents folder ls
  pub rises : Rises low ls high
  pub some : (held : Held) → Agrees held ls → (rest : List Look) × (full held ≡ ls ++ rest)

-- what the walk over some files answers, after others
abbrev pub IsWalk : {P K T : Type 0} → Format K T → Heard P T → Option Files → List ℕ
    → (Held → List Look) → ℕ → ℕ → Before → List Look → Result (Walk P) Load → Type 0
IsWalk g heard contents folder full low high start looked (Ok w) =
    (ls : List Look) × LooksAll contents folder full low high ls
    × Walked g heard start (looked ++ ls) w
IsWalk g heard contents folder full low high start looked (Err (Refused r)) =
    (ls : List Look) × LooksSome contents folder full low high ls
    × FirstOf (walk_checks g start (looked ++ ls)) r
IsWalk g heard contents folder full low high start looked (Err ReadFault) = Unit {0}
IsWalk g heard contents folder full low high start looked (Err Memory) = Unit {0}

-- what the walk over the files of a series answers, after others
abbrev pub IsSeries : {P K T : Type 0} → Format K T → Heard P T → Option Files → List ℕ → Series
    → Before → List Look → Result (Walk P) Load → Type 0
IsSeries g heard contents folder s start looked result =
    IsWalk g heard contents folder (λ held. series_looks held s) (rank (file_at s 0))
    (rank (file_at s 0) + 2 ^ 32) start looked result
