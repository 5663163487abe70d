-- When an insert is applied to a graph, and why it isn't.
use Rattle.std.specs.Prelude.{◌≡◌, ◌++◌, ◌∷◌, ℕ, List, Option, Some, None, All, Contains}
use Rattle.snb_schema.specs.declared.key.Key.{Key}
use Rattle.snb_schema.specs.declared.op.Op.{Op}
use Rattle.snb_schema.specs.declared.refusal.Missing.{Missing}
use Rattle.snb_schema.specs.declared.row.Row.{Row}
use Rattle.snb_schema.specs.Inserts.{keys_of}
use Rattle.snb_schema.specs.References.{refs_of}
use Rattle.snb_schema.specs.RowKeys.{node_key}
use Rattle.snb_schema.specs.UpdateLines.{IsLine}
use Rattle.snb_graph_model.specs.Graphs.{HasKey, HoldsKey}

-- some line is the insert's
abbrev pub HasLine : Op → Type 0
HasLine op = (line : List ℕ) × (t : ℕ) × (t_d : ℕ) × IsLine line t t_d op

-- the node that is referred to is held
abbrev pub IsThere : List Row → Missing → Type 0
IsThere g ref = HasKey g (node_key ref.kind ref.id)

-- of these references this is the first whose node isn't held
pub record IsFirstMissing (g : List Row) (refs : List Missing) (ref : Missing) : Type 0 where
  pub before : List Missing
  pub after : List Missing
  pub splits : before ++ ref ∷ after ≡ refs
  pub there : All (IsThere g) before
  pub lacking : ¬ IsThere g ref

-- the first of the references whose node isn't held; none where all are
abbrev pub FindsMissing : List Row → List Missing → Option Missing → Type 0
FindsMissing g refs None = All (IsThere g) refs
FindsMissing g refs (Some ref) = IsFirstMissing g refs ref

-- one of the keys is held
abbrev pub IsAnyHeld : List Row → List Key → Type 0
IsAnyHeld g keys = (key : Key) × Contains keys key × HoldsKey g key

-- all that the insert refers to is held, and so is a key that it takes
abbrev pub IsDuplicate : List Row → Op → Type 0
IsDuplicate g op = All (IsThere g) (refs_of op) × IsAnyHeld g (keys_of op)

-- all that the insert refers to is held, and no key that it takes is
abbrev pub IsWelcome : List Row → Op → Type 0
IsWelcome g op = All (IsThere g) (refs_of op) × (¬ IsAnyHeld g (keys_of op))
