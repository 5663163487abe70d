-- Fields that are read one after another by the columns of a read's parameters.
use Rattle.std.specs.Prelude.{◌≡◌, ◌⊎◌, ℕ, List, [], ◌∷◌}
use Rattle.snb_schema.specs.declared.column.Column.{Column}
use Rattle.snb_schema.specs.declared.column.Value.{Value}

-- what the next field is, as far as a state of the reading tells
pub record FieldsMeaning (S : Type 0) : Type 1 where
  -- it may be read by this column
  pub expects : S → Column → Type 0
  -- in this column it spells this value, and its reading leads from a state to another
  pub reads : S → Column → Value → S → Type 0
  -- it spells no value of this column, which has this number, counted from 1
  pub stops : S → Column → ℕ → Type 0

-- the next fields may be read by these columns, one after the other
abbrev pub Expects : {S : Type 0} → FieldsMeaning S → S → List Column → Type 0
Expects meaning s [] = Unit {0}
Expects {S} meaning s (c ∷ cs) =
    meaning.expects s c × ((v : Value) (t : S) → meaning.reads s c v t → Expects meaning t cs)

-- in these columns they spell these values, and their reading leads from a state to another
abbrev pub ReadsAll : {S : Type 0} → FieldsMeaning S → S → List Column → List Value → S → Type 0
ReadsAll meaning s [] [] t = t ≡ s
ReadsAll {S} meaning s (c ∷ cs) (v ∷ vs) t =
    (next : S) × meaning.reads s c v next × ReadsAll meaning next cs vs t
ReadsAll meaning s _ _ t = ⊥

-- one of them is the first that spells no value of its column, which has this number
abbrev pub StopsIn : {S : Type 0} → FieldsMeaning S → S → List Column → ℕ → Type 0
StopsIn meaning s [] column = ⊥
StopsIn {S} meaning s (c ∷ cs) column =
    meaning.stops s c column
    ⊎ ((v : Value) × (next : S) × meaning.reads s c v next × StopsIn meaning next cs column)
