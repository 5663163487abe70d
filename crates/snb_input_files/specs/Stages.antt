-- What the reading of a stage of an input answers.
use Rattle.std.specs.Prelude.{◌≡◌, ℕ, ◌+◌, ◌^◌, ◌≤◌, ◌<◌, List, [], ◌∷◌, Option, Result, Ok, Err}
use Rattle.snb_base.specs.Shelf.{Files}
use Rattle.snb_schema.specs.declared.limits.TheConstants.{MAX_BYTES}
use Rattle.snb_input_files.specs.declared.load.Load.{Load}
use Rattle.snb_input_files.specs.declared.load.Load.TheVariants.{Refused, ReadFault, Memory}
use Rattle.snb_input_files.specs.declared.load.Used.{Used}
use Rattle.snb_input_files.specs.declared.series.Series.{Series}
use Rattle.snb_input_files.specs.declared.walk.Walk.{Walk}
use Rattle.snb_base.specs.FirstOf.{FirstOf, NoneOf}
use Rattle.snb_input_lines.specs.Counts.{IsUnder}
use Rattle.snb_input_lines.specs.Sinks.{Heard}
use Rattle.snb_input_files.specs.Format.{Format}
use Rattle.snb_input_files.specs.Places.{FilesSay}
use Rattle.snb_input_files.specs.Ranks.{ordinal}
use Rattle.snb_input_files.specs.Walk.{Before, Held, IsHeldTold, Look, after_walk, stage_checks, stage_looks, walk_checks}

-- nothing is wrong with the files that were looked for, what they hold is counted, and the
-- file_sink was told by each file what it says
pub record Walked {P K T : Type 0} (g : Format K T) (heard : Heard P T) (start : Before)
    (looked : List Look) (w : Walk P) : Type 0 where
  pub clean : NoneOf (walk_checks g start looked)
  pub bytes_are : w.used.bytes ≡ (after_walk g start looked).bytes
  pub rows_are : w.used.rows ≡ (after_walk g start looked).rows
  pub done : List (List T)
  pub said : FilesSay g (after_walk g start looked).past done
  pub fresh : heard w.file_sink done []

-- what was read keeps within the limits
abbrev pub IsWalkWithin : {P : Type 0} → Option ℕ → Walk P → Type 0
IsWalkWithin limit w = (w.used.bytes ≤ MAX_BYTES) × IsUnder limit w.used.rows

-- the series come in the order of files, from this number of a kind on, and none may have 2 ^ 32
-- files
abbrev pub AreRising : ℕ → List Series → Type 0
AreRising low [] = Unit {0}
AreRising low (s ∷ ss) =
    (low ≤ ordinal s.kind) × (s.most < 2 ^ 32) × AreRising (ordinal s.kind + 1) ss

-- before the first file of a stage, where so much was read
abbrev pub before : Used → Before
before used = record { bytes = used.bytes; rows = used.rows; past = [] }

-- what a stage answers: there are files in the folder, which are those that the shelf tells where
-- it tells any, of which nothing is wrong and all is taken, or which are refused so
abbrev pub IsStage : {P K T : Type 0} → Format K T → Heard P T → Option Files → List ℕ → List Series
    → Before → Result (Walk P) Load → Type 0
IsStage g heard contents folder stage start (Ok w) =
    (held : Held) × IsHeldTold contents folder held
    × Walked g heard start (stage_looks held stage) w
IsStage g heard contents folder stage start (Err (Refused r)) =
    (held : Held) × IsHeldTold contents folder held × FirstOf (stage_checks g start held stage) r
IsStage g heard contents folder stage start (Err ReadFault) = Unit {0}
IsStage g heard contents folder stage start (Err Memory) = Unit {0}
