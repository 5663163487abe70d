-- The fields of an insert of some kinds.
use Rattle.std.specs.Prelude.{ℕ, Contains, List}
use Rattle.snb_schema.specs.declared.op.Op.{Op}
use Rattle.snb_schema.specs.declared.op.InsertKind.{InsertKind}
use Rattle.snb_schema.specs.Columns.{SpellsAll}
use Rattle.snb_schema.specs.UpdateLines.{IsOfTwo}
use Rattle.snb_schema.specs.InsertLines.{kind_of, line_columns, line_values}

-- the fields are an insert of one of these kinds and its two times, and a friendship isn't with
-- oneself
abbrev pub SpellsInsert : List InsertKind → List (List ℕ) → ℕ → ℕ → Op → Type 0
SpellsInsert allowed fs t t_d op =
    Contains allowed (kind_of op) × SpellsAll (line_columns (kind_of op)) fs (line_values t t_d op)
    × IsOfTwo op
