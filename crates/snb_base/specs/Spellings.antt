-- How numbers, dates, days and lists are spelled, as the benchmark's files have them: relations on
-- whole texts.
use Rattle.std.specs.Prelude.{◌≡◌, ◌≢◌, ℕ, ◌+◌, ◌-◌, ◌*◌, ◌<◌, ◌≤◌, ◌⊎◌, ◌==◌, ◌&&◌, Bool, List, [], ◌∷◌, ◌++◌, length, slice_index, if◌then◌else◌, nat_eq, Contains}
use Rattle.std.specs.List.{slice_split, list_any, AllByRecursion}
use Rattle.std.specs.Str.{bytes_eq}
use Rattle.snb_base.specs.declared.bounds.TheConstants.{LAST_ID, LAST_TIME, LAST_YEAR}
use Rattle.snb_base.specs.Calendar.{IsDigit, SpellsDay, SpellsMoment}

-- the greatest date and time, in milliseconds since 1970-01-01 UTC
abbrev pub last_time : ℕ
last_time = LAST_TIME

-- the greatest id
abbrev pub last_id : ℕ
last_id = LAST_ID

-- the value of decimal digits that follow those of `before`
abbrev pub value_after : ℕ → List ℕ → ℕ
value_after before [] = before
value_after before (b ∷ bs) = value_after (10 * before + (b - 48)) bs

-- x is 1 to 19 decimal digits, without a leading zero unless x is `0`, of the value n, which is at
-- most `most`
pub record Num (x : List ℕ) (n most : ℕ) : Type 0 where
  pub digits : AllByRecursion IsDigit x
  pub some : 0 < length x
  pub few : length x ≤ 19
  pub no_lead : slice_index x 0 ≡ 48 → length x ≡ 1
  pub value : n ≡ value_after 0 x
  pub small : n ≤ most

-- x spells a moment in words, or is its milliseconds as a number
abbrev pub Date : List ℕ → ℕ → Type 0
Date x n = (n ≤ last_time) × (SpellsMoment x n ⊎ Num x n last_time)

-- x spells a day in words, or is the milliseconds of some moment as a number
abbrev pub Day : List ℕ → ℕ → Type 0
Day x n = (n ≤ last_time) × (SpellsDay x n ⊎ Num x n last_time)

-- what stands between the semicolons; an empty text has no elements
abbrev pub elements : List ℕ → List (List ℕ)
elements [] = []
elements (b ∷ bs) = slice_split (λ c. c == 59) (b ∷ bs)

-- the items that don't stand in `seen` or before, in order
abbrev pub once_after : {A : Type 0} → (A → A → Bool) → List A → List A → List A
once_after eq seen [] = []
once_after eq seen (a ∷ more) =
    if list_any (eq a) seen then once_after eq seen more else a ∷ once_after eq (a ∷ seen) more

-- each text is an element that spells the item beside it
abbrev pub EachSpells : {A : Type 0} → (List ℕ → A → Type 0) → List (List ℕ) → List A → Type 0
EachSpells Spells [] [] = Unit {0}
EachSpells Spells [] (a ∷ more) = ⊥
EachSpells Spells (x ∷ xs) [] = ⊥
EachSpells Spells (x ∷ xs) (a ∷ more) = Spells x a × EachSpells Spells xs more

-- x is elements in their grammar, and the items are theirs, a later repeat left out
abbrev pub Listed : {A : Type 0} → (List ℕ → A → Type 0) → (A → A → Bool) → List ℕ → List A → Type 0
Listed {A} Spells eq x items =
    (all : List A) × EachSpells Spells (elements x) all × (items ≡ once_after eq [] all)

-- a text that isn't empty spells itself
abbrev pub SpellsWord : List ℕ → List ℕ → Type 0
SpellsWord x word = (x ≢ []) × (x ≡ word)

-- an id
abbrev pub SpellsId : List ℕ → ℕ → Type 0
SpellsId x id = Num x id last_id

-- `id,year`
abbrev pub SpellsPair : List ℕ → ℕ × ℕ → Type 0
SpellsPair x pair =
    (id : List ℕ) × (year : List ℕ) × (x ≡ id ++ 44 ∷ year) × Num id pair.0 last_id
    × Num year pair.1 LAST_YEAR

-- whether two pairs are equal
abbrev pub pair_eq : ℕ × ℕ → ℕ × ℕ → Bool
pair_eq p q = nat_eq p.0 q.0 && nat_eq p.1 q.1

-- a list of texts
abbrev pub WordList : List ℕ → List (List ℕ) → Type 0
WordList x items = Listed SpellsWord bytes_eq x items

-- a list of ids
abbrev pub IdList : List ℕ → List ℕ → Type 0
IdList x items = Listed SpellsId nat_eq x items

-- two pairs of one id are equal
abbrev pub HasOneYear : List (ℕ × ℕ) → Type 0
HasOneYear items = (p q : ℕ × ℕ) → Contains items p → Contains items q → p.0 ≡ q.0 → p.1 ≡ q.1

-- a list of ids with years, in which no id has two years
abbrev pub PairList : List ℕ → List (ℕ × ℕ) → Type 0
PairList x items = Listed SpellsPair pair_eq x items × HasOneYear items
