-- How far a file is read, piece by piece. Cited by contracts of private functions alone.
use Rattle.std.specs.Prelude.{◌≡◌, ◌≢◌, ℕ, ◌+◌, List, [], ◌++◌, length, take, Option, Some, None, Result, Ok, Err, IfSome}
use Rattle.snb_base.specs.Shelf.{Files}
use Rattle.snb_schema.specs.declared.file.FileId.{FileId}
use Rattle.snb_schema.specs.declared.limits.TheConstants.{MAX_BYTES}
use Rattle.snb_schema.specs.declared.refusal.Refusal.{Refusal}
use Rattle.snb_input_lines.specs.Counts.{RowTakes}
use Rattle.snb_input_lines.specs.declared.counted.RowCount.{RowCount}
use Rattle.snb_input_lines.specs.Fed.{Fed}
use Rattle.snb_input_lines.specs.Feeding.{Reader}
use Rattle.snb_input_lines.specs.Sinks.{Heard, Takes}
use Rattle.snb_input_files.specs.declared.found.Found.{Found}
use Rattle.snb_input_files.specs.declared.found.Found.TheVariants.{Absent, Whole}
use Rattle.snb_input_files.specs.declared.load.Load.{Load}
use Rattle.snb_input_files.specs.declared.load.Load.TheVariants.{Refused, ReadFault, Memory}
use Rattle.snb_input_files.specs.declared.load.Used.{Used}
use Rattle.snb_input_files.specs.declared.pieces.Step.{Step}
use Rattle.snb_input_files.specs.declared.pieces.Step.TheVariants as step
use Rattle.snb_base.specs.FirstOf.{FirstOf}
use Rattle.snb_input_files.specs.Format.{Format}
use Rattle.snb_input_files.specs.Loading.{IsTakenKnown}
use Rattle.snb_input_files.specs.Places.{FilesSay, ReadFile, opening}
use Rattle.snb_input_files.specs.PlaceChecks.{LinesRefuse, file_checks}

-- a fact of the refusal, where there is one
abbrev pub OnRefused : {A : Type 0} → Result A Load → (Refusal → Type 0) → Type 0
OnRefused (Ok a) F = Unit {0}
OnRefused (Err (Refused r)) F = F r
OnRefused (Err ReadFault) F = Unit {0}
OnRefused (Err Memory) F = Unit {0}

-- these are the first bytes of the file, and it is held where there are some
pub record IsBegun (files : Files) (name bytes : List ℕ) : Type 0 where
  pub begins : (file : List ℕ) → files name ≡ Some file → bytes ≡ take (length bytes) file
  pub held : bytes ≢ [] → (file : List ℕ) × (files name ≡ Some file)

-- a sink is before the first line of a file, after so many data lines of files before, and was told
-- by these files of the stage what they say
pub record Opened {P K T : Type 0} (g : Format K T) (heard : Heard P T) (rows : ℕ)
    (past : List ReadFile) (s : RowCount P) : Type 0 where
  pub done : List (List T)
  pub said : FilesSay g past done
  pub fresh : heard s.sink done []
  pub rows_are : s.rows ≡ rows
  pub most_is : s.most ≡ g.rules.limit

-- a reader was fed these bytes of a file, no line is refused so far, and the sink, first in this
-- state, has the items
abbrev pub IsFed : {P G K T : Type 0} → Format K T → Takes P T → FileId → G → RowCount P → List ℕ
    → Reader G K → RowCount P → Type 0
IsFed g takes file grammar start text reader sink =
    Fed (g.language file) (RowTakes takes) file grammar start text reader sink

-- a reader is fed this piece, whatever it was fed before
abbrev pub IsFedMore : {P G K T : Type 0} → Format K T → Takes P T → FileId → G → Reader G K
    → RowCount P → List ℕ → Reader G K → RowCount P → Type 0
IsFedMore {P} g takes file grammar old had piece new has =
    (start : RowCount P) (text : List ℕ) → IsFed g takes file grammar start text old had
    → IsFed g takes file grammar start (text ++ piece) new has

-- a file that goes on with this piece, of which so many bytes may be read, is refused so, whatever
-- follows
abbrev pub IsBadPiece : {P G K T : Type 0} → Format K T → Heard P T → Takes P T → FileId → G → ℕ
    → Reader G K → RowCount P → List ℕ → Refusal → Type 0
IsBadPiece {P} g heard takes file grammar most old had piece r =
    (bytes rows : ℕ) (past : List ReadFile) (start : RowCount P) (text rest : List ℕ)
    → bytes + most ≡ MAX_BYTES
    → Opened g heard rows past start
    → IsFed g takes file grammar start text old had
    → LinesRefuse g (opening file bytes rows past ((text ++ piece) ++ rest))
    ((text ++ piece) ++ rest) r

-- a piece more was read of the file after these bytes
abbrev pub IsMore : Option Files → List ℕ → List ℕ → List ℕ → Type 0
IsMore contents name text piece =
    (piece ≢ [])
    × IfSome contents (λ files. IsBegun files name text → IsBegun files name (text ++ piece))

-- what one read of the file answers, of which so many bytes may be read, after those that the
-- reader was fed
abbrev pub IsStep : {P G K T : Type 0} → Format K T → Heard P T → Takes P T → Option Files → List ℕ
    → FileId → G → ℕ → Reader G K → RowCount P → Reader G K → RowCount P → Result Step Load → Type 0
IsStep g heard takes contents name file grammar most old had new has (Ok step.More) =
    (piece : List ℕ) × ((text : List ℕ) → length text ≡ old.fed → IsMore contents name text piece)
    × IsFedMore g takes file grammar old had piece new has
IsStep g heard takes contents name file grammar most old had new has (Ok step.End) =
    (new ≡ old) × (has ≡ had)
    × ((text : List ℕ) → length text ≡ old.fed
    → IfSome contents (λ files. IsBegun files name text → files name ≡ Some text))
IsStep g heard takes contents name file grammar most old had new has (Ok step.Absent) =
    (new ≡ old) × (has ≡ had) × (old.fed ≡ 0) × IfSome contents (λ files. files name ≡ None)
IsStep g heard takes contents name file grammar most old had new has (Err (Refused r)) =
    (piece : List ℕ) × ((text : List ℕ) → length text ≡ old.fed → IsMore contents name text piece)
    × IsBadPiece g heard takes file grammar most old had piece r
IsStep g heard takes contents name file grammar most old had new has (Err ReadFault) = Unit {0}
IsStep g heard takes contents name file grammar most old had new has (Err Memory) = Unit {0}

-- what the loading of a file answers that is read to its end, of which these are the bytes and this
-- is known
abbrev pub IsEnd : {P K T : Type 0} → Format K T → Heard P T → FileId → Used → List ReadFile
    → List ℕ → Option K → Result (Found P) Load → Type 0
IsEnd g heard file used past text known (Ok (Absent new)) = ⊥
IsEnd g heard file used past text known (Ok (Whole new now)) =
    (now.bytes ≡ used.bytes + length text)
    × IsTakenKnown g heard file used.bytes used.rows past text new now.rows known
IsEnd g heard file used past text known (Err (Refused r)) =
    FirstOf (file_checks g (opening file used.bytes used.rows past text) text) r
IsEnd g heard file used past text known (Err ReadFault) = ⊥
IsEnd g heard file used past text known (Err Memory) = Unit {0}
