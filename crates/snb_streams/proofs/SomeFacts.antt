-- Fields spell an insert or a query, or they have a bad column.
use Rattle.std.proofs.Common.{◌≡◌, ◌+◌, ◌⊎◌, ◌∙◌, ℕ, zero, suc, List, [], ◌∷◌, ◌≤◌, length, take, refl, sym, subst, inl, inr, arith}
use Rattle.std.specs.List.{Contains}
use Rattle.std.proofs.lemmas.List.{take_all}
use Rattle.std.proofs.lemmas.Bool.{cases_eq, cases_lt}
use Rattle.snb_base.specs.Spellings.{Num}
use Rattle.snb_schema.specs.declared.column.Value.{Value}
use Rattle.snb_schema.specs.declared.op.Op.{Op}
use Rattle.snb_schema.specs.declared.op.InsertKind.{InsertKind}
use Rattle.snb_schema.specs.Columns.{SpellsAll}
use Rattle.snb_schema.specs.ParameterLines.{query_columns}
use Rattle.snb_schema.specs.UpdateLines.{IsBadInsert, NamesInsert}
use Rattle.snb_schema.specs.InsertLines.{kind_number, line_columns}
use Rattle.snb_input_fields.specs.Laws.{EachLineIsRead}
use Rattle.snb_input_fields.proofs.Laws.{no_stop, number_or_not}
use Rattle.snb_streams.proofs.KindFacts.{third_of}
use Rattle.snb_streams.specs.Laws.{InsertOrColumn, QueryOrColumn}
use Rattle.snb_streams.specs.Spelled.{SpellsInsert}
use Rattle.snb_streams.proofs.CaseFacts.{insert_from_case}
use Rattle.snb_streams.proofs.ClashFacts.{clash_decided}
use Rattle.snb_streams.proofs.FaultFacts.{clash_first, first_bad, stop_some, third_bad, time_bad, times}
use Rattle.snb_streams.proofs.InsertFacts.{op_spelled, spells_insert}
use Rattle.snb_streams.proofs.ParameterFacts.{query_spelled, told_stop}

-- the text is the number of this kind
abbrev IsNumberOf : List ℕ → InsertKind → Type 0
IsNumberOf x kind = Num x (kind_number kind) (kind_number kind)

-- it is, or it isn't
number_of_kind : (x : List ℕ) (kind : InsertKind) → IsNumberOf x kind ⊎ ¬ IsNumberOf x kind
number_of_kind x kind = elim (number_or_not x (kind_number kind)) [
  | inr never ↦ inr (never (kind_number kind))
  | inl f ↦ elim (cases_eq f.0 (kind_number kind)) [
    | inl same ↦ inl (subst (λ n. Num x n (kind_number kind)) same f.1)
    | inr other ↦ inr (λ own. other (f.1.value ∙ sym own.value))
  ]
]

-- one of these kinds is first, or among the others
first_or_later : (k kind : InsertKind) (ks : List InsertKind) → Contains (k ∷ ks) kind → (k ≡ kind) ⊎ Contains ks kind
first_or_later k kind ks (zero, l, at) = inl at
first_or_later k kind ks (suc n, l, at) = inr (n, omega arith, at)

-- the text is the number of one of these kinds, or of none
one_of_kinds : (x : List ℕ) (allowed : List InsertKind) → ((kind : InsertKind) × Contains allowed kind × IsNumberOf x kind) ⊎ ((kind : InsertKind) → Contains allowed kind → ¬ IsNumberOf x kind)
one_of_kinds x [] = inr (λ kind h. (let l = h.1 in absurd (omega arith)))
one_of_kinds x (k ∷ ks) = elim (number_of_kind x k) [
  | inl here ↦ inl (k, (zero, omega arith, refl), here)
  | inr other ↦ elim (one_of_kinds x ks) [
    | inl f ↦ inl (f.0, (let l = f.1.1 in (suc f.1.0, omega arith, f.1.2)), f.2)
    | inr none ↦ inr (λ kind h own. elim (first_or_later k kind ks h) [
      | inl same ↦ other (subst (IsNumberOf x) (sym same) own)
      | inr later ↦ none kind later own
    ])
  ]
]

-- fields name one of these kinds, or none
named_or_not : (allowed : List InsertKind) (fs : List (List ℕ)) → ((kind : InsertKind) × NamesInsert allowed fs kind) ⊎ ((kind : InsertKind) → ¬ NamesInsert allowed fs kind)
named_or_not allowed [] = inr (λ kind s. s)
named_or_not allowed (t₁ ∷ []) = inr (λ kind s. s)
named_or_not allowed (t₁ ∷ t₂ ∷ []) = inr (λ kind s. s)
named_or_not allowed (t₁ ∷ t₂ ∷ x ∷ fs) = elim (one_of_kinds x allowed) [
  | inl f ↦ inl (f.0, (f.1, f.2))
  | inr none ↦ inr (λ kind s. none kind s.0 s.1)
]

-- fields that spell values of all columns are an insert, or two of them don't go together
whole : (allowed : List InsertKind) (kind : InsertKind) (fs : List (List ℕ)) (vs : List Value) → NamesInsert allowed fs kind → length fs ≡ length (line_columns kind)
    → SpellsAll (line_columns kind) (take (length (line_columns kind)) fs) vs → ((t : ℕ) × (t_d : ℕ) × (op : Op) × SpellsInsert allowed fs t t_d op) ⊎ ((column : ℕ) × IsBadInsert allowed fs column)
whole allowed kind fs vs names long s = elim (clash_decided kind fs) [
  | inl clash ↦ inr (clash.0, first_bad allowed kind fs clash.0 names long (clash_first kind fs clash.0 clash.1 (λ n stop. absurd (no_stop (line_columns kind) fs vs s n stop))))
  | inr never ↦
      let few : length fs ≤ length (line_columns kind) = omega (arith, long) in
      let all : SpellsAll (line_columns kind) fs vs = subst (λ (xs : List (List ℕ)). SpellsAll (line_columns kind) xs vs) (take_all (length (line_columns kind)) fs few) s in
      let (t, t_d, op, of, is, two) = op_spelled kind fs vs (third_of allowed fs kind names) all never in
      inl (t, t_d, op, spells_insert allowed kind fs t t_d op names of (subst (SpellsAll (line_columns kind) fs) is all) two)
]

-- fields spell an insert, or they have a bad column
pub insert_or_column : EachLineIsRead → InsertOrColumn
insert_or_column read allowed fs = elim (cases_lt (length fs) 3) [
  | inl few ↦ inr (0, inl (few, refl))
  | inr many ↦ elim (named_or_not allowed fs) [
    | inr none ↦ elim (read times fs (omega arith)) [
      | inl s ↦ inr (3, third_bad allowed fs s.0 many none s.1)
      | inr stop ↦ inr (stop.0 + 1, time_bad allowed fs stop.0 (stop.0 + 1) many none stop.2 refl)
    ]
    | inl named ↦ elim (cases_eq (length fs) (length (line_columns named.0))) [
      | inr other ↦ inr (0, insert_from_case allowed fs 0 (inr (inr (inl (named.0, named.1, other, refl)))))
      | inl long ↦ elim (read (line_columns named.0) fs (omega (arith, long))) [
        | inl s ↦ whole allowed named.0 fs s.0 named.1 long s.1
        | inr stop ↦ (let first = stop_some named.0 fs stop.0 stop.2 in inr (first.0, first_bad allowed named.0 fs first.0 named.1 long first.1))
      ]
    ]
  ]
]

-- fields are the parameters of a query, or they have a bad column
pub query_or_column : EachLineIsRead → QueryOrColumn
query_or_column read q fs complex = elim (cases_eq (length fs) (length (query_columns q))) [
  | inr other ↦ inr (0, inl (other, refl))
  | inl long ↦ elim (read (query_columns q) fs (omega (arith, long))) [
    | inl s ↦
        let few : length fs ≤ length (query_columns q) = omega (arith, long) in
        inl (query_spelled fs s.0 q complex (subst (λ (xs : List (List ℕ)). SpellsAll (query_columns q) xs s.0) (take_all (length (query_columns q)) fs few) s.1))
    | inr stop ↦ inr (stop.0 + 1, told_stop q (query_columns q) fs stop.0 (stop.0 + 1) refl long stop.2 refl)
  ]
]
