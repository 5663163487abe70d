-- Laws of the definitions.
use Rattle.std.specs.Prelude.{◌≡◌, ◌<◌, ◌≤◌, ℕ, List, [], ◌∷◌, Option}
use Rattle.snb_base.specs.Shelf.{Files}
use Rattle.snb_schema.specs.declared.refusal.Refusal.{Refusal}
use Rattle.snb_input_files.specs.declared.series.Series.{Series}
use Rattle.snb_base.specs.FirstOf.{FirstOf, NoneOf}
use Rattle.snb_input_files.specs.Format.{Format}
use Rattle.snb_input_files.specs.Places.{FilesSay, ReadFile}
use Rattle.snb_input_files.specs.Ranks.{ordinal}
use Rattle.snb_input_files.specs.Walk.{Before, Held, IsHeldTold, stage_checks, stage_looks}

-- a stage of an input has one refusal at most
abbrev pub OneRefusal : {K T : Type 0} → Format K T → Type 0
OneRefusal g =
    (at : Before) (held : Held) (stage : List Series) (r q : Refusal)
    → FirstOf (stage_checks g at held stage) r → FirstOf (stage_checks g at held stage) q → r ≡ q

-- where it has one, something is wrong with it
abbrev pub RefusedOrNot : {K T : Type 0} → Format K T → Type 0
RefusedOrNot g =
    (at : Before) (held : Held) (stage : List Series) (r : Refusal)
    → FirstOf (stage_checks g at held stage) r → ¬ NoneOf (stage_checks g at held stage)

-- files say one list of items each
abbrev pub OneSaying : {K T : Type 0} → Format K T → Type 0
OneSaying {T} g =
    (sources : List ReadFile) (xss yss : List (List T)) → FilesSay g sources xss
    → FilesSay g sources yss → xss ≡ yss

-- the kind of each series comes before those from this number on
abbrev pub AreBelow : ℕ → List Series → Type 0
AreBelow n [] = Unit {0}
AreBelow n (s ∷ ss) = (ordinal s.kind < n) × AreBelow n ss

-- the kind of each series is one from this number on
abbrev pub AreFrom : ℕ → List Series → Type 0
AreFrom n [] = Unit {0}
AreFrom n (s ∷ ss) = (n ≤ ordinal s.kind) × AreFrom n ss

-- these files of a folder are the first ones as far as kinds below a number are looked for, and the
-- second ones from it on
pub record Joined (contents : Option Files) (folder : List ℕ) (first second : Held) (n : ℕ)
    (held : Held) : Type 0 where
  pub told : IsHeldTold contents folder held
  pub below : (stage : List Series) → AreBelow n stage
      → stage_looks held stage ≡ stage_looks first stage
  pub from : (stage : List Series) → AreFrom n stage
      → stage_looks held stage ≡ stage_looks second stage

-- the files that two stages found, of which one comes after the other, are files of one folder
abbrev pub StagesJoin : Type 0
StagesJoin =
    (contents : Option Files) (folder : List ℕ) (first second : Held) (n : ℕ)
    → IsHeldTold contents folder first → IsHeldTold contents folder second
    → (held : Held) × Joined contents folder first second n held
