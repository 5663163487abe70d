-- The lines of the update streams: a relation between one line and its insert, and what is wrong
-- with a line that has none.
use Rattle.std.specs.Prelude.{◌≡◌, ◌≢◌, ◌+◌, ◌<◌, ◌≤◌, ◌⊎◌, ℕ, true, false, Contains, List, [], ◌∷◌, map, length, slice_index_or, IsUtf8}
use Rattle.std.specs.List.{join_with_byte}
use Rattle.snb_base.specs.FirstOf.{FirstOf}
use Rattle.snb_base.specs.Spellings.{Num, SpellsId}
use Rattle.snb_schema.specs.declared.column.Column.TheVariants.{Number}
use Rattle.snb_schema.specs.declared.limits.TheConstants.{MAX_TIME}
use Rattle.snb_schema.specs.declared.op.Op.{Op}
use Rattle.snb_schema.specs.declared.op.InsertKind.{InsertKind}
use Rattle.snb_schema.specs.declared.op.InsertKind.TheVariants as kinds
use Rattle.snb_schema.specs.Columns.{SpellsAll, StopsAfter, canonical_field, no_id}
use Rattle.snb_schema.specs.Lines.{HasNoEnd, fields, begins_with_mark}
use Rattle.snb_schema.specs.InsertLines.{kind_number, kind_of, line_columns, line_values}
use Rattle.snb_schema.specs.Nodes.{Addition, NewFriends, addition}

-- the two persons of a friendship differ
abbrev pub AreTwo : Addition → Type 0
AreTwo (NewFriends one other date) = one ≢ other
AreTwo _ = Unit {0}

abbrev pub IsOfTwo : Op → Type 0
IsOfTwo op = AreTwo (addition op)

-- the line is `t|t_d|opId|` and the fields of the insert, and a friendship isn't with oneself
pub record IsLine (line : List ℕ) (t t_d : ℕ) (op : Op) : Type 0 where
  pub text : IsUtf8 line
  pub unmarked : begins_with_mark line ≡ false
  pub one_line : HasNoEnd line
  pub spelled : SpellsAll (line_columns (kind_of op)) (fields line) (line_values t t_d op)
  pub of_two : IsOfTwo op

-- the insert's line with numbers and dates as digits and lists in order, without a line end
abbrev pub canonical_line : ℕ → ℕ → Op → List ℕ
canonical_line t t_d op = join_with_byte 124 (map canonical_field (line_values t t_d op))

-- the third field is the number of one of these inserts
abbrev pub NamesInsert : List InsertKind → List (List ℕ) → InsertKind → Type 0
NamesInsert allowed (t ∷ t_d ∷ x ∷ rest) kind =
    Contains allowed kind × Num x (kind_number kind) (kind_number kind)
NamesInsert allowed _ kind = ⊥

-- the field at a place, counted from 0
abbrev pub field : ℕ → List (List ℕ) → List ℕ
field k fs = slice_index_or fs k []

-- two fields of an insert of this kind don't go together, and the second is in this column: a
-- friendship with oneself, or a comment with no parent or two
abbrev pub Clashes : InsertKind → List (List ℕ) → ℕ → Type 0
Clashes kinds.AddFriend fs column =
    (column ≡ 5) × ((id : ℕ) × SpellsId (field 3 fs) id × SpellsId (field 4 fs) id)
Clashes kinds.AddComment fs column =
    (column ≡ 13)
    × (((field 11 fs ≡ no_id) × (field 12 fs ≡ no_id))
    ⊎ ((post : ℕ) × (comment : ℕ) × SpellsId (field 11 fs) post × SpellsId (field 12 fs) comment))
Clashes _ fs column = ⊥

-- the column of the first of a line's two times that isn't in its grammar, else the third
abbrev pub IsFirstOfThree : List (List ℕ) → ℕ → Type 0
IsFirstOfThree fs column =
    FirstOf ((λ c. (n : ℕ) × StopsAfter (Number MAX_TIME ∷ Number MAX_TIME ∷ []) fs n × (c ≡ n + 1))
    ∷ (λ c. c ≡ 3) ∷ []) column

-- a column of a line with an insert of this kind is the first that isn't in its grammar, or doesn't
-- go with one before it
abbrev pub IsBadField : InsertKind → List (List ℕ) → ℕ → Type 0
IsBadField kind fs column =
    ((n : ℕ) × StopsAfter (line_columns kind) fs n × (column ≡ n + 1)) ⊎ Clashes kind fs column

-- the least of these columns
abbrev pub IsFirstBad : InsertKind → List (List ℕ) → ℕ → Type 0
IsFirstBad kind fs column =
    IsBadField kind fs column × ((other : ℕ) → IsBadField kind fs other → column ≤ other)

-- these fields are no insert of one of these kinds, in this column first: 0 where there are fewer
-- than three, then the first bad one of three where the third names none of these inserts, then 0
-- where the insert has another number of fields, else the first bad one
abbrev pub IsBadInsert : List InsertKind → List (List ℕ) → ℕ → Type 0
IsBadInsert allowed fs column =
    FirstOf
    ((λ c. (length fs < 3) × (c ≡ 0))
    ∷ (λ c. ((kind : InsertKind) → ¬ NamesInsert allowed fs kind) × IsFirstOfThree fs c)
    ∷ (λ c. (kind : InsertKind) × NamesInsert allowed fs kind
    × (length fs ≢ length (line_columns kind)) × (c ≡ 0))
    ∷ (λ c. (kind : InsertKind) × NamesInsert allowed fs kind × IsFirstBad kind fs c)
    ∷ [])
    column

-- the inserts of each kind of stream, and all of them
abbrev pub person_inserts : List InsertKind
person_inserts = kinds.AddPerson ∷ kinds.AddFriend ∷ []

abbrev pub forum_inserts : List InsertKind
forum_inserts =
    kinds.LikePost ∷ kinds.LikeComment ∷ kinds.AddForum ∷ kinds.AddMember ∷ kinds.AddPost
    ∷ kinds.AddComment ∷ []

abbrev pub all_inserts : List InsertKind
all_inserts =
    kinds.AddPerson ∷ kinds.LikePost ∷ kinds.LikeComment ∷ kinds.AddForum ∷ kinds.AddMember
    ∷ kinds.AddPost ∷ kinds.AddComment ∷ kinds.AddFriend ∷ []

-- a text is no line of an insert, in this column first: 1 where it begins with a byte order mark, 0
-- where it isn't UTF-8 or isn't one line, else that of its fields
abbrev pub IsBadLine : List ℕ → ℕ → Type 0
IsBadLine text column =
    FirstOf
    ((λ c. (begins_with_mark text ≡ true) × (c ≡ 1))
    ∷ (λ c. ¬ (IsUtf8 text × HasNoEnd text) × (c ≡ 0))
    ∷ IsBadInsert all_inserts (fields text)
    ∷ [])
    column
