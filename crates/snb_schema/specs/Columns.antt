-- The columns of tables and streams, and how each spells its value.
use Rattle.std.specs.Prelude.{◌≡◌, ℕ, zero, suc, List, [], ◌∷◌, ◌++◌, map, codes}
use Rattle.std.specs.Fmt.{decimal}
use Rattle.std.specs.List.{join_with_byte}
use Rattle.snb_base.specs.Spellings.{Num, SpellsId, SpellsWord}
use Rattle.snb_base.specs.Spellings as spellings
use Rattle.snb_schema.specs.declared.column.Column.{Column}
use Rattle.snb_schema.specs.declared.column.Column.TheVariants.{Number, Small, OptionalId, Date, Day, Words, Word, TextList, IdList, PairList}
use Rattle.snb_schema.specs.declared.column.Value.{Value}
use Rattle.snb_schema.specs.declared.column.Value.TheVariants.{Digits, SmallDigits, NoId, Letters, Texts, Ids, Pairs}

-- the text `-1`, which stands for no id
abbrev pub no_id : List ℕ
no_id = codes "-1"

-- the text is a spelling of the value; dates and days are in words or digits, and a list has each
-- element once
abbrev pub Spells : Column → List ℕ → Value → Type 0
Spells (Number most) x (Digits n) = Num x n most
Spells (Number most) x _ = ⊥
Spells (Small most) x (SmallDigits n) = Num x n most
Spells (Small most) x _ = ⊥
Spells OptionalId x (Digits n) = SpellsId x n
Spells OptionalId x NoId = x ≡ no_id
Spells OptionalId x _ = ⊥
Spells Date x (Digits n) = spellings.Date x n
Spells Date x _ = ⊥
Spells Day x (Digits n) = spellings.Day x n
Spells Day x _ = ⊥
Spells Words x (Letters text) = x ≡ text
Spells Words x _ = ⊥
Spells Word x (Letters text) = SpellsWord x text
Spells Word x _ = ⊥
Spells TextList x (Texts texts) = spellings.WordList x texts
Spells TextList x _ = ⊥
Spells IdList x (Ids ids) = spellings.IdList x ids
Spells IdList x _ = ⊥
Spells PairList x (Pairs pairs) = spellings.PairList x pairs
Spells PairList x _ = ⊥

-- there is a field for each column, and it spells the value beside it
abbrev pub SpellsAll : List Column → List (List ℕ) → List Value → Type 0
SpellsAll [] [] [] = Unit {0}
SpellsAll (c ∷ cs) (x ∷ xs) (v ∷ vs) = Spells c x v × SpellsAll cs xs vs
SpellsAll _ _ _ = ⊥

-- after so many fields that spell values of their columns comes one that spells none
abbrev pub StopsAfter : List Column → List (List ℕ) → ℕ → Type 0
StopsAfter (c ∷ cs) (x ∷ xs) zero = (v : Value) → ¬ Spells c x v
StopsAfter (c ∷ cs) (x ∷ xs) (suc n) = ((v : Value) × Spells c x v) × StopsAfter cs xs n
StopsAfter _ _ _ = ⊥

-- an id and a year, as a list of pairs has them
abbrev pub pair_text : ℕ × ℕ → List ℕ
pair_text pair = decimal pair.0 ++ 44 ∷ decimal pair.1

-- the one canonical spelling of a value
abbrev pub canonical_field : Value → List ℕ
canonical_field (Digits n) = decimal n
canonical_field (SmallDigits n) = decimal n
canonical_field (Letters text) = text
canonical_field NoId = no_id
canonical_field (Texts texts) = join_with_byte 59 texts
canonical_field (Ids ids) = join_with_byte 59 (map decimal ids)
canonical_field (Pairs pairs) = join_with_byte 59 (map pair_text pairs)
