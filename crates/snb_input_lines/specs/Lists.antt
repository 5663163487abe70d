-- What a `feed` and an `end` do where the items are appended to a list, which refuses none.
-- `old` and `new` are the reader before and after, `had` and `has` the list.
use Rattle.std.specs.Prelude.{◌≡◌, ◌≢◌, ◌⊎◌, ◌+◌, ◌++◌, ℕ, List, [], ◌∷◌, length, Option, None, Some}
use Rattle.snb_schema.specs.declared.fault.Fault.TheVariants.{Bad, Memory}
use Rattle.snb_schema.specs.LineFaults.{RefusesText}
use Rattle.snb_schema.specs.declared.file.FileId.{FileId}
use Rattle.snb_schema.specs.declared.refusal.Refusal.{Refusal}
use Rattle.snb_schema.specs.declared.refusal.Refusal.TheVariants.{BadLine, NoHeader}
use Rattle.snb_input_lines.specs.Feeding.{Reader}
use Rattle.snb_input_lines.specs.Language.{IsText, Language}
use Rattle.snb_input_lines.specs.Reading.{Says}

-- these are the bad columns of a line: of a header, where nothing is known yet, or of a data line
abbrev pub BadColumn : {K T : Type 0} → Language K T → Option K → List ℕ → ℕ → Type 0
BadColumn g None line column = g.bad_header line column
BadColumn g (Some k) line column = g.bad_line k line column

-- the line of this number is refused, for its bytes or for its bad column
abbrev pub RefusesLine : {K T : Type 0} → Language K T → FileId → Option K → ℕ → List ℕ → Refusal
    → Type 0
RefusesLine g file known number line r =
    (line ≢ [])
    × (RefusesText file number line r
    ⊎ (IsText line × (column : ℕ) × BadColumn g known line column
    × (r ≡ BadLine file number column)))

-- the lines say these items up to a first one that is refused
pub record Stops {K T : Type 0} (g : Language K T) (file : FileId) (known : Option K) (ended : ℕ)
    (lines : List (List ℕ)) (items : List T) (r : Refusal) : Type 0 where
  pub before : List (List ℕ)
  pub line : List ℕ
  pub after : List (List ℕ)
  pub now : Option K
  pub split : lines ≡ before ++ line ∷ after
  pub says : Says g known ended before items now
  pub refused : RefusesLine g file now (ended + length before + 1) line r

-- the lines say these items, and at the end of the file a header is due
pub record LacksHeader {K T : Type 0} (g : Language K T) (file : FileId) (known : Option K)
    (ended : ℕ) (lines : List (List ℕ)) (items : List T) (r : Refusal) : Type 0 where
  pub says : Says g known ended lines items None
  pub refused : r ≡ NoHeader file

-- a first few of the lines say these items
pub record SaysSome {K T : Type 0} (g : Language K T) (known : Option K) (ended : ℕ)
    (lines : List (List ℕ)) (items : List T) : Type 0 where
  pub before : List (List ℕ)
  pub after : List (List ℕ)
  pub now : Option K
  pub split : lines ≡ before ++ after
  pub says : Says g known ended before items now

-- the lines are read, and what they say is appended
pub record HasAppended {G K T : Type 0} (g : Language K T) (lines : List (List ℕ))
    (old : Reader G K) (had : List T) (new : Reader G K) (has : List T) : Type 0 where
  pub items : List T
  pub says : Says g old.known old.ended lines items new.known
  pub appended : has ≡ had ++ items

-- the reader has stopped at the first of the lines that is refused, and keeps that refusal; what
-- the lines before it say is appended
pub record HasStoppedAfter {G K T : Type 0} (g : Language K T) (lines : List (List ℕ))
    (old : Reader G K) (had : List T) (new : Reader G K) (has : List T) (r : Refusal) : Type 0 where
  pub items : List T
  pub stops : Stops g old.file old.known old.ended lines items r
  pub appended : has ≡ had ++ items
  pub kept : new.fault ≡ Some (Bad r)

-- the reader has stopped at the last line or at the end of the file, and keeps that refusal
pub record HasStoppedAfterAll {G K T : Type 0} (g : Language K T) (lines : List (List ℕ))
    (old : Reader G K) (had : List T) (new : Reader G K) (has : List T) (r : Refusal) : Type 0 where
  pub items : List T
  pub stops : Stops g old.file old.known old.ended lines items r
      ⊎ LacksHeader g old.file old.known old.ended lines items r
  pub appended : has ≡ had ++ items
  pub kept : new.fault ≡ Some (Bad r)

-- memory ran out, and the reader keeps that; what a first few of the lines say is appended
pub record HasAppendedSome {G K T : Type 0} (g : Language K T) (lines : List (List ℕ))
    (old : Reader G K) (had : List T) (new : Reader G K) (has : List T) : Type 0 where
  pub items : List T
  pub says : SaysSome g old.known old.ended lines items
  pub appended : has ≡ had ++ items
  pub kept : new.fault ≡ Some Memory
