-- What a line of a stream says of its moments.
use Rattle.std.proofs.Common.{ℕ, ◌≤◌, List, [], ◌∷◌}
use Rattle.snb_schema.specs.declared.column.Column.{Column}
use Rattle.snb_schema.specs.declared.column.Column.TheVariants.{Number}
use Rattle.snb_schema.specs.declared.column.Value.{Value}
use Rattle.snb_schema.specs.declared.column.Value.TheVariants.{Digits}
use Rattle.snb_schema.specs.declared.limits.TheConstants.{MAX_TIME}
use Rattle.snb_schema.specs.declared.op.Line.{Line}
use Rattle.snb_schema.specs.Columns.{SpellsAll}
use Rattle.snb_schema.specs.Lines.{fields}
use Rattle.snb_schema.specs.StreamLines.{IsOfLine}
use Rattle.snb_schema.specs.InsertLines.{insert_columns, kind_of, op_number}

times : (t t_d : ℕ) (cs : List Column) (vs : List Value) (fs : List (List ℕ)) → SpellsAll (Number MAX_TIME ∷ Number MAX_TIME ∷ cs) fs (Digits t ∷ Digits t_d ∷ vs)
    → (t ≤ MAX_TIME) × (t_d ≤ MAX_TIME)
times t t_d cs vs [] s = absurd s
times t t_d cs vs (x ∷ []) s = absurd s.1
times t t_d cs vs (x ∷ y ∷ fs) s = (s.0.small, s.1.0.small)

-- the moments of a line aren't too great
pub line_times : (x : Line) → IsOfLine x → (x.t ≤ MAX_TIME) × (x.t_d ≤ MAX_TIME)
line_times x of = times x.t x.t_d (Number (op_number x.op) ∷ insert_columns (kind_of x.op)) _ (fields of.0) of.1.spelled
