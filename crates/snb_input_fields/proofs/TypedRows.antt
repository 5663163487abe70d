-- Values by the columns that they stand in.
use Rattle.std.proofs.Common.{◌≡◌, ℕ, List, [], ◌∷◌, ◌++◌, Option, Some, None, refl}
use Rattle.std.specs.Bool.{⊤}
use Rattle.snb_schema.specs.declared.column.Column.{Column}
use Rattle.snb_schema.specs.declared.column.Column.TheVariants.{Number, Small, OptionalId, Date, Day, Words, Word, TextList, IdList, PairList}
use Rattle.snb_schema.specs.declared.column.Value.{Value}
use Rattle.snb_schema.specs.declared.column.Value.TheVariants.{Digits, SmallDigits, NoId, Letters, Texts, Ids, Pairs}
use Rattle.snb_schema.specs.Columns.{Spells, SpellsAll}
use Rattle.snb_input_fields.specs.Reading.{optional_value}

-- what a column holds
abbrev pub Typed : Column → Type 0
Typed (Number most) = ℕ
Typed (Small most) = ℕ
Typed OptionalId = Option ℕ
Typed Date = ℕ
Typed Day = ℕ
Typed Words = List ℕ
Typed Word = List ℕ
Typed TextList = List (List ℕ)
Typed IdList = List ℕ
Typed PairList = List (ℕ × ℕ)

-- as a value
abbrev pub value_in : (c : Column) → Typed c → Value
value_in (Number most) n = Digits n
value_in (Small most) n = SmallDigits n
value_in OptionalId id = optional_value id
value_in Date n = Digits n
value_in Day n = Digits n
value_in Words text = Letters text
value_in Word text = Letters text
value_in TextList texts = Texts texts
value_in IdList ids = Ids ids
value_in PairList pairs = Pairs pairs

-- what a field spells in a column is what the column holds
pub typed_of : (c : Column) (x : List ℕ) (v : Value) → Spells c x v → (t : Typed c) × (v ≡ value_in c t)
typed_of (Number most) x (Digits n) s = (n, refl)
typed_of (Small most) x (SmallDigits n) s = (n, refl)
typed_of OptionalId x (Digits n) s = (Some n, refl)
typed_of OptionalId x NoId s = (None, refl)
typed_of Date x (Digits n) s = (n, refl)
typed_of Day x (Digits n) s = (n, refl)
typed_of Words x (Letters text) s = (text, refl)
typed_of Word x (Letters text) s = (text, refl)
typed_of TextList x (Texts texts) s = (texts, refl)
typed_of IdList x (Ids ids) s = (ids, refl)
typed_of PairList x (Pairs pairs) s = (pairs, refl)
typed_of column x v s = absurd s

-- what columns hold
abbrev pub TypedRow : List Column → Type 0
TypedRow [] = ⊤
TypedRow (c ∷ cs) = Typed c × TypedRow cs

-- what columns in two parts hold
abbrev pub row_parts : (cs ds : List Column) → TypedRow (cs ++ ds) → TypedRow cs × TypedRow ds
row_parts [] ds row = (tt, row)
row_parts (c ∷ cs) ds row = ((row.0, (row_parts cs ds row.1).0), (row_parts cs ds row.1).1)

-- as values
abbrev pub row_values : (cs : List Column) → TypedRow cs → List Value
row_values [] row = []
row_values (c ∷ cs) row = value_in c row.0 ∷ row_values cs row.1

-- what fields spell in columns is what the columns hold
pub row_of : (cs : List Column) (xs : List (List ℕ)) (vs : List Value) → SpellsAll cs xs vs → (row : TypedRow cs) × (vs ≡ row_values cs row)
row_of [] [] [] s = (tt, refl)
row_of (c ∷ cs) (x ∷ xs) (v ∷ vs) s =
    let (t, one) = typed_of c x v s.0 in
    let (row, more) = row_of cs xs vs s.1 in
    ((t, row), λ i. one i ∷ more i)
row_of cs xs vs s = absurd s
