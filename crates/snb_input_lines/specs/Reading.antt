-- What the lines of a file say, one after the other, and what the first that isn't right is refused
-- for.
use Rattle.std.specs.Prelude.{◌≡◌, ◌≢◌, ◌⊎◌, ◌+◌, ℕ, List, [], ◌∷◌, ◌++◌, length, Option, Some, None}
use Rattle.snb_schema.specs.LineFaults.{RefusesText}
use Rattle.snb_schema.specs.declared.file.FileId.{FileId}
use Rattle.snb_schema.specs.declared.refusal.Refusal.{Refusal}
use Rattle.snb_schema.specs.declared.refusal.Refusal.TheVariants.{BadLine, NoHeader}
use Rattle.snb_input_lines.specs.Language.{IsText, Language}
use Rattle.snb_input_lines.specs.Sinks.{Refuses, Runs, Takes}

-- what a line with a byte says: it is the header, where nothing is known yet, or a data line
abbrev pub LineSays : {K T : Type 0} → Language K T → Option K → ℕ → List ℕ → List T → Option K
    → Type 0
LineSays {K} g None number line items new = (k : K) × g.heads line k × (items ≡ []) × (new ≡ Some k)
LineSays {T = T} g (Some k) number line items new =
    (x : T) × g.spells k number line x × (items ≡ x ∷ []) × (new ≡ Some k)

-- what a line says; one without a byte says nothing
abbrev pub ReadsLine : {K T : Type 0} → Language K T → Option K → ℕ → List ℕ → List T → Option K
    → Type 0
ReadsLine g known number [] items new = (items ≡ []) × (new ≡ known)
ReadsLine g known number (b ∷ bs) items new =
    IsText (b ∷ bs) × LineSays g known number (b ∷ bs) items new

-- what the lines after the first so many of a file say
abbrev pub Says : {K T : Type 0} → Language K T → Option K → ℕ → List (List ℕ) → List T → Option K
    → Type 0
Says g known ended [] items new = (items ≡ []) × (new ≡ known)
Says {K} {T} g known ended (line ∷ lines) items new =
    (first later : List T)
    × (between : Option K)
    × ReadsLine g known (ended + 1) line first between
    × Says g between (ended + 1) lines later new
    × (items ≡ first ++ later)

-- a line with a byte is refused for what it says: for its bad column, or by the sink
abbrev pub RefusesAs : {S K T : Type 0} → Language K T → Refuses S T → FileId → Option K → S → ℕ
    → List ℕ → Refusal → Type 0
RefusesAs g refuses file None s number line r =
    (column : ℕ) × g.bad_header line column × (r ≡ BadLine file number column)
RefusesAs {T = T} g refuses file (Some k) s number line r =
    ((column : ℕ) × g.bad_line k line column × (r ≡ BadLine file number column))
    ⊎ ((x : T) × g.spells k number line x × refuses s file x r)

-- the line of this number is refused, for its bytes or for what it says
abbrev pub RefusesLine : {S K T : Type 0} → Language K T → Refuses S T → FileId → Option K → S → ℕ
    → List ℕ → Refusal → Type 0
RefusesLine g refuses file known s number line r =
    (line ≢ [])
    × (RefusesText file number line r
    ⊎ (IsText line × RefusesAs g refuses file known s number line r))

-- a first few of the lines say these items, which the sink takes
pub record ReadsSome {S K T : Type 0} (g : Language K T) (takes : Takes S T)
    (file : FileId) (known : Option K) (ended : ℕ) (lines : List (List ℕ)) (old : S)
    (items : List T) (mid : S) : Type 0 where
  pub before : List (List ℕ)
  pub after : List (List ℕ)
  pub now : Option K
  pub split : lines ≡ before ++ after
  pub says : Says g known ended before items now
  pub runs : Runs takes file old items mid

-- the lines say these items, which the sink takes, up to a first line that is refused
pub record Stops {S K T : Type 0} (g : Language K T) (takes : Takes S T) (refuses : Refuses S T)
    (file : FileId) (known : Option K) (ended : ℕ) (lines : List (List ℕ)) (old : S)
    (items : List T) (mid : S) (r : Refusal) : Type 0 where
  pub before : List (List ℕ)
  pub line : List ℕ
  pub after : List (List ℕ)
  pub now : Option K
  pub split : lines ≡ before ++ line ∷ after
  pub says : Says g known ended before items now
  pub runs : Runs takes file old items mid
  pub refused : RefusesLine g refuses file now mid (ended + length before + 1) line r

-- what is refused at the end of a file: that a header is due, or else what the sink has against the
-- file
abbrev pub end_fault : {K : Type 0} → FileId → Option K → Option Refusal → Option Refusal
end_fault file None own = Some (NoHeader file)
end_fault file (Some k) own = own

-- the lines say these items, which the sink takes, and at the end of the file it is refused
pub record EndsBad {S K T : Type 0} (g : Language K T) (takes : Takes S T)
    (ends : S → FileId → Option Refusal)
    (file : FileId) (known : Option K) (ended : ℕ) (lines : List (List ℕ)) (old : S)
    (items : List T) (mid : S) (r : Refusal) : Type 0 where
  pub now : Option K
  pub says : Says g known ended lines items now
  pub runs : Runs takes file old items mid
  pub refused : end_fault file now (ends mid file) ≡ Some r
