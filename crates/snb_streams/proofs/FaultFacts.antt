-- Fields that spell no insert.
use Rattle.std.proofs.Common.{◌≡◌, ◌+◌, ◌≤◌, ◌∙◌, ℕ, List, [], ◌∷◌, length, take, refl, sym, ap, subst, inl, inr, arith}
use Rattle.std.proofs.lemmas.Bool.{cases_lt}
use Rattle.std.proofs.lemmas.List.{take_all}
use Rattle.snb_schema.specs.declared.column.Column.{Column}
use Rattle.snb_schema.specs.declared.column.Column.TheVariants.{Number}
use Rattle.snb_schema.specs.declared.column.Value.{Value}
use Rattle.snb_schema.specs.declared.limits.TheConstants.{MAX_TIME}
use Rattle.snb_schema.specs.declared.op.Op.{Op}
use Rattle.snb_schema.specs.declared.op.InsertKind.{InsertKind}
use Rattle.snb_schema.specs.Columns.{SpellsAll, StopsAfter}
use Rattle.snb_schema.specs.UpdateLines.{Clashes, IsBadInsert, IsFirstBad, NamesInsert}
use Rattle.snb_schema.specs.InsertLines.{kind_of, line_columns, line_values}
use Rattle.snb_streams.specs.Spelled.{SpellsInsert}
use Rattle.snb_streams.proofs.CaseFacts.{IsFieldCase, IsInsertCase, IsThreeCase, field_from_case, field_to_case, insert_from_case, insert_to_case}
use Rattle.snb_streams.proofs.ClashFacts.{clash_decided, clash_spelled, one_clash}
use Rattle.snb_streams.proofs.InsertFacts.{own_apart}
use Rattle.snb_streams.proofs.KindFacts.{named_long, one_named, spelled_names}
use Rattle.snb_input_fields.proofs.Laws.{no_stop, one_stop, spelled_long}

-- the columns before the number of an insert
abbrev pub times : List Column
times = Number MAX_TIME ∷ Number MAX_TIME ∷ []

-- the two times are read
pub third_bad : (allowed : List InsertKind) (fs : List (List ℕ)) (vs : List Value) → 3 ≤ length fs → ((kind : InsertKind) → ¬ NamesInsert allowed fs kind) → SpellsAll times (take 2 fs) vs → IsBadInsert allowed fs 3
third_bad allowed fs vs long none s = insert_from_case allowed fs 3 (inr (inl (long, none, inr (no_stop times fs vs s, refl))))

-- or one of them isn't
pub time_bad : (allowed : List InsertKind) (fs : List (List ℕ)) (n column : ℕ) → 3 ≤ length fs → ((kind : InsertKind) → ¬ NamesInsert allowed fs kind) → StopsAfter times fs n → column ≡ n + 1 → IsBadInsert allowed fs column
time_bad allowed fs n column long none s at = insert_from_case allowed fs column (inr (inl (long, none, inl (n, s, at))))

-- a field that stops before those that clash
pub stop_first : (kind : InsertKind) (fs : List (List ℕ)) (n column : ℕ) → StopsAfter (line_columns kind) fs n → column ≡ n + 1 → ((c : ℕ) → Clashes kind fs c → n + 1 ≤ c) → IsFirstBad kind fs column
stop_first kind fs n column stop at low =
    field_from_case kind fs column (inl (n, stop, at, λ other h. (let l = low other h in let ne = clash_spelled kind fs n other stop h in omega arith)))

-- fields that clash before any that stops
pub clash_first : (kind : InsertKind) (fs : List (List ℕ)) (column : ℕ) → Clashes kind fs column → ((n : ℕ) → StopsAfter (line_columns kind) fs n → column ≤ n) → IsFirstBad kind fs column
clash_first kind fs column clash low = field_from_case kind fs column (inr (clash, low))

-- fields that stop have a first bad column
pub stop_some : (kind : InsertKind) (fs : List (List ℕ)) (n : ℕ) → StopsAfter (line_columns kind) fs n → (column : ℕ) × IsFirstBad kind fs column
stop_some kind fs n stop = elim (clash_decided kind fs) [
  | inr never ↦ (n + 1, stop_first kind fs n (n + 1) stop refl (λ c h. absurd (never c h)))
  | inl clash ↦ elim (cases_lt n clash.0) [
    | inl low ↦ (n + 1, stop_first kind fs n (n + 1) stop refl (λ c h. (let same = one_clash kind fs clash.0 c clash.1 h in omega arith)))
    | inr high ↦ (clash.0, clash_first kind fs clash.0 clash.1 (λ m other. (let same = one_stop (line_columns kind) fs n m stop other in omega arith)))
  ]
]

-- the first bad column of the insert that the fields name is theirs
pub first_bad : (allowed : List InsertKind) (kind : InsertKind) (fs : List (List ℕ)) (column : ℕ) → NamesInsert allowed fs kind → length fs ≡ length (line_columns kind) → IsFirstBad kind fs column → IsBadInsert allowed fs column
first_bad allowed kind fs column names long first = insert_from_case allowed fs column (inr (inr (inr (kind, names, long, field_to_case kind fs column first))))

-- the first bad one of three fields is one
one_of_three : (fs : List (List ℕ)) (a b : ℕ) → IsThreeCase fs a → IsThreeCase fs b → a ≡ b
one_of_three fs a b (inl p) (inl q) = (let same = one_stop times fs p.0 q.0 p.1 q.1 in p.2 ∙ ap (λ n. n + 1) same ∙ sym q.2)
one_of_three fs a b (inl p) (inr q) = absurd (q.0 p.0 p.1)
one_of_three fs a b (inr p) (inl q) = absurd (p.0 q.0 q.1)
one_of_three fs a b (inr p) (inr q) = p.1 ∙ sym q.1

-- and so is the first bad field of an insert
one_bad : (kind : InsertKind) (fs : List (List ℕ)) (a b : ℕ) → IsFieldCase kind fs a → IsFieldCase kind fs b → a ≡ b
one_bad kind fs a b (inl p) (inl q) = (let same = one_stop (line_columns kind) fs p.0 q.0 p.1 q.1 in p.2 ∙ ap (λ n. n + 1) same ∙ sym q.2)
one_bad kind fs a b (inl p) (inr q) = (let low = p.3 b q.0 in let high = q.1 p.0 p.1 in let at = p.2 in absurd (omega arith))
one_bad kind fs a b (inr p) (inl q) = (let low = q.3 a p.0 in let high = p.1 q.0 q.1 in let at = q.2 in absurd (omega arith))
one_bad kind fs a b (inr p) (inr q) = one_clash kind fs a b p.0 q.0

-- fields are bad in one column
one_case : (allowed : List InsertKind) (fs : List (List ℕ)) (a b : ℕ) → IsInsertCase allowed fs a → IsInsertCase allowed fs b → a ≡ b
one_case allowed fs a b (inl p) (inl q) = p.1 ∙ sym q.1
one_case allowed fs a b (inl p) (inr (inl q)) = (let low = p.0 in let high = q.0 in absurd (omega arith))
one_case allowed fs a b (inl p) (inr (inr (inl q))) = p.1 ∙ sym q.3
one_case allowed fs a b (inl p) (inr (inr (inr q))) = (let low = p.0 in let high = named_long allowed fs q.0 q.1 in absurd (omega arith))
one_case allowed fs a b (inr (inl p)) (inl q) = (let high = p.0 in let low = q.0 in absurd (omega arith))
one_case allowed fs a b (inr (inl p)) (inr (inl q)) = one_of_three fs a b p.2 q.2
one_case allowed fs a b (inr (inl p)) (inr (inr (inl q))) = absurd (p.1 q.0 q.1)
one_case allowed fs a b (inr (inl p)) (inr (inr (inr q))) = absurd (p.1 q.0 q.1)
one_case allowed fs a b (inr (inr (inl p))) (inl q) = p.3 ∙ sym q.1
one_case allowed fs a b (inr (inr (inl p))) (inr (inl q)) = absurd (q.1 p.0 p.1)
one_case allowed fs a b (inr (inr (inl p))) (inr (inr (inl q))) = p.3 ∙ sym q.3
one_case allowed fs a b (inr (inr (inl p))) (inr (inr (inr q))) = absurd (p.2 (q.2 ∙ ap (λ (k : InsertKind). length (line_columns k)) (one_named allowed fs q.0 p.0 q.1 p.1)))
one_case allowed fs a b (inr (inr (inr p))) (inl q) = (let low = q.0 in let high = named_long allowed fs p.0 p.1 in absurd (omega arith))
one_case allowed fs a b (inr (inr (inr p))) (inr (inl q)) = absurd (q.1 p.0 p.1)
one_case allowed fs a b (inr (inr (inr p))) (inr (inr (inl q))) = absurd (q.2 (p.2 ∙ ap (λ (k : InsertKind). length (line_columns k)) (one_named allowed fs p.0 q.0 p.1 q.1)))
one_case allowed fs a b (inr (inr (inr p))) (inr (inr (inr q))) = one_bad p.0 fs a b p.3 (subst (λ (k : InsertKind). IsFieldCase k fs b) (one_named allowed fs q.0 p.0 q.1 p.1) q.3)

pub one_fault : (allowed : List InsertKind) (fs : List (List ℕ)) (a b : ℕ) → IsBadInsert allowed fs a → IsBadInsert allowed fs b → a ≡ b
one_fault allowed fs a b p q = one_case allowed fs a b (insert_to_case allowed fs a p) (insert_to_case allowed fs b q)

-- fields that spell values of all columns and don't clash have no bad one
none_bad : (kind : InsertKind) (fs : List (List ℕ)) (vs : List Value) (column : ℕ) → SpellsAll (line_columns kind) fs vs → ((c : ℕ) → ¬ Clashes kind fs c) → ¬ IsFieldCase kind fs column
none_bad kind fs vs column s never bad =
    let long = spelled_long (line_columns kind) fs vs s in
    let few : length fs ≤ length (line_columns kind) = omega (arith, long) in
    let all : SpellsAll (line_columns kind) (take (length (line_columns kind)) fs) vs = subst (λ (xs : List (List ℕ)). SpellsAll (line_columns kind) xs vs) (sym (take_all (length (line_columns kind)) fs few)) s in
    elim bad [
      | inl stop ↦ no_stop (line_columns kind) fs vs all stop.0 stop.1
      | inr two ↦ never column two.0
    ]

-- fields that spell an insert have no bad one
pub no_fault : (allowed : List InsertKind) (fs : List (List ℕ)) (t t_d : ℕ) (op : Op) (column : ℕ) → SpellsInsert allowed fs t t_d op → ¬ IsBadInsert allowed fs column
no_fault allowed fs t t_d op column s bad = elim (insert_to_case allowed fs column bad) [
  | inl few ↦ (let low = few.0 in let high = named_long allowed fs (kind_of op) names in absurd (omega arith))
  | inr (inl none) ↦ none.1 (kind_of op) names
  | inr (inr (inl wrong)) ↦ wrong.2 (long ∙ ap (λ (k : InsertKind). length (line_columns k)) (one_named allowed fs (kind_of op) wrong.0 names wrong.1))
  | inr (inr (inr first)) ↦
      none_bad (kind_of op) fs (line_values t t_d op) column s.1 (own_apart fs t t_d op s.2 s.1) (subst (λ (k : InsertKind). IsFieldCase k fs column) (one_named allowed fs first.0 (kind_of op) first.1 names) first.3)
]
  where
    names : NamesInsert allowed fs (kind_of op)
    names = spelled_names allowed fs t t_d op s.0 s.1

    long : length fs ≡ length (line_columns (kind_of op))
    long = spelled_long (line_columns (kind_of op)) fs (line_values t t_d op) s.1
