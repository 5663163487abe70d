-- Laws of the lines of the update streams.
use Rattle.std.specs.Prelude.{◌≡◌, ◌⊎◌, ℕ, List}
use Rattle.snb_schema.specs.declared.op.Op.{Op}
use Rattle.snb_schema.specs.declared.op.InsertKind.{InsertKind}
use Rattle.snb_schema.specs.declared.query.Query.{Query}
use Rattle.snb_schema.specs.ParameterLines.{IsBadQuery, SpellsQuery}
use Rattle.snb_schema.specs.Queries.{IsComplex}
use Rattle.snb_schema.specs.UpdateLines.{IsBadInsert, IsBadLine, IsLine, canonical_line}
use Rattle.snb_streams.specs.Spelled.{SpellsInsert}

-- a text is the line of one insert at most
abbrev pub OneInsert : Type 0
OneInsert =
    (line : List ℕ) (t t_d : ℕ) (op : Op) (u u_d : ℕ) (oq : Op) → IsLine line t t_d op
    → IsLine line u u_d oq → (t ≡ u) × (t_d ≡ u_d) × (op ≡ oq)

-- fields spell one insert of some kinds at most
abbrev pub OneInsertOfFields : Type 0
OneInsertOfFields =
    (allowed : List InsertKind) (fs : List (List ℕ)) (t t_d : ℕ) (op : Op) (u u_d : ℕ) (oq : Op)
    → SpellsInsert allowed fs t t_d op → SpellsInsert allowed fs u u_d oq
    → (t ≡ u) × (t_d ≡ u_d) × (op ≡ oq)

-- the canonical line of an insert that has a line is one of its lines
abbrev pub OwnInsertLine : Type 0
OwnInsertLine =
    (line : List ℕ) (t t_d : ℕ) (op : Op) → IsLine line t t_d op
    → IsLine (canonical_line t t_d op) t t_d op

-- fields are bad in one column at most
abbrev pub OneFault : Type 0
OneFault =
    (allowed : List InsertKind) (fs : List (List ℕ)) (a b : ℕ) → IsBadInsert allowed fs a
    → IsBadInsert allowed fs b → a ≡ b

-- and in none where they spell an insert
abbrev pub InsertsAreRight : Type 0
InsertsAreRight =
    (allowed : List InsertKind) (fs : List (List ℕ)) (t t_d : ℕ) (op : Op) (c : ℕ)
    → SpellsInsert allowed fs t t_d op → ¬ IsBadInsert allowed fs c

-- fields spell an insert of one of these kinds, or they have a bad column
abbrev pub InsertOrColumn : Type 0
InsertOrColumn =
    (allowed : List InsertKind) (fs : List (List ℕ))
    → ((t : ℕ) × (t_d : ℕ) × (op : Op) × SpellsInsert allowed fs t t_d op)
    ⊎ ((column : ℕ) × IsBadInsert allowed fs column)

-- each text is the line of an insert, or it has a bad column
abbrev pub LineOrColumn : Type 0
LineOrColumn =
    (text : List ℕ) → ((t : ℕ) × (t_d : ℕ) × (op : Op) × IsLine text t t_d op)
    ⊎ ((column : ℕ) × IsBadLine text column)

-- a text is bad in one column at most
abbrev pub OneBadLine : Type 0
OneBadLine = (text : List ℕ) (a b : ℕ) → IsBadLine text a → IsBadLine text b → a ≡ b

-- and in none where it is the line of an insert
abbrev pub LinesAreRight : Type 0
LinesAreRight =
    (text : List ℕ) (t t_d : ℕ) (op : Op) (column : ℕ) → IsLine text t t_d op
    → ¬ IsBadLine text column

-- fields are those of one complex query at most
abbrev pub OneQuery : Type 0
OneQuery =
    (q : ℕ) (fs : List (List ℕ)) (a b : Query) → IsComplex q → SpellsQuery q fs a
    → SpellsQuery q fs b → a ≡ b

-- and have no bad column where they are one's
abbrev pub NoBadQuery : Type 0
NoBadQuery =
    (q : ℕ) (fs : List (List ℕ)) (one : Query) (c : ℕ) → SpellsQuery q fs one → ¬ IsBadQuery q fs c

-- as parameters, fields are bad in one column at most
abbrev pub OneBadQuery : Type 0
OneBadQuery = (q : ℕ) (fs : List (List ℕ)) (a b : ℕ) → IsBadQuery q fs a → IsBadQuery q fs b → a ≡ b

-- fields are the parameters of a complex query, or they have a bad column
abbrev pub QueryOrColumn : Type 0
QueryOrColumn =
    (q : ℕ) (fs : List (List ℕ)) → IsComplex q
    → ((one : Query) × SpellsQuery q fs one) ⊎ ((column : ℕ) × IsBadQuery q fs column)
