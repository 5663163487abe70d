-- How many data lines are read, where they may be so many at most, and what a sink does that counts
-- them.
use Rattle.std.specs.Prelude.{◌≡◌, ◌+◌, ◌<◌, ◌≤◌, ℕ, [], ◌∷◌, Option, Some, None}
use Rattle.snb_base.specs.FirstOf.{FirstOf}
use Rattle.snb_schema.specs.declared.refusal.Counted.TheVariants.{Rows}
use Rattle.snb_schema.specs.declared.refusal.Refusal.TheVariants.{TooMany}
use Rattle.snb_input_lines.specs.declared.counted.RowCount.{RowCount}
use Rattle.snb_input_lines.specs.Sinks.{Refuses, SinkMeaning, Takes}

-- one more is counted, where there is a limit
abbrev pub CountsOne : Option ℕ → ℕ → ℕ → Type 0
CountsOne None old new = new ≡ old
CountsOne (Some most) old new = (old < most) × (new ≡ old + 1)

-- no more may be read
abbrev pub IsFull : Option ℕ → ℕ → Type 0
IsFull None count = ⊥
IsFull (Some most) count = most ≤ count

-- so many are within the limit
abbrev pub IsUnder : Option ℕ → ℕ → Type 0
IsUnder None count = Unit {0}
IsUnder (Some most) count = count ≤ most

-- how many are counted of so many
abbrev pub counted : Option ℕ → ℕ → ℕ
counted None n = 0
counted (Some most) n = n

-- an item is counted, and the sink takes it
abbrev pub RowTakes : {S T : Type 0} → Takes S T → Takes (RowCount S) T
RowTakes takes old file item new =
    CountsOne old.most old.rows new.rows × takes old.sink file item new.sink × (new.most ≡ old.most)

-- an item is one too many, or else the sink refuses it
abbrev pub RowRefuses : {S T : Type 0} → Refuses S T → Refuses (RowCount S) T
RowRefuses refuses old file item r =
    FirstOf ((λ q. IsFull old.most old.rows × (q ≡ TooMany Rows)) ∷ refuses old.sink file item ∷ [])
    r

-- as many are counted, and the sinks were told the same
abbrev pub RowSame : {S : Type 0} → (S → S → Type 0) → RowCount S → RowCount S → Type 0
RowSame same old new = same old.sink new.sink × (new.rows ≡ old.rows) × (new.most ≡ old.most)

-- what a sink does that counts the items which this one takes
abbrev pub counting : {S T : Type 0} → SinkMeaning S T → SinkMeaning (RowCount S) T
counting sink = record {
  fits = sink.fits;
  takes = RowTakes sink.takes;
  refuses = RowRefuses sink.refuses;
  same = RowSame sink.same;
  ends = λ old file. sink.ends old.sink file;
  turns = λ old new. sink.turns old.sink new.sink × (new.rows ≡ old.rows) × (new.most ≡ old.most);
}
