-- What is wrong with a line, by cases that exclude one another.
use Rattle.std.proofs.Common.{◌≡◌, ◌≢◌, ◌+◌, ◌<◌, ◌≤◌, ◌∙◌, ◌⊎◌, ℕ, true, false, List, [], ◌∷◌, length, refl, ap, inl, inr, arith}
use Rattle.std.specs.Prelude.{IsUtf8}
use Rattle.std.proofs.lemmas.Bool.{cases_Bool, cases_eq, cases_lt}
use Rattle.snb_schema.specs.declared.column.Column.TheVariants.{Number}
use Rattle.snb_schema.specs.declared.limits.TheConstants.{MAX_TIME}
use Rattle.snb_schema.specs.declared.op.InsertKind.{InsertKind}
use Rattle.snb_schema.specs.Columns.{StopsAfter}
use Rattle.snb_schema.specs.Lines.{HasNoEnd, begins_with_mark, fields}
use Rattle.snb_schema.specs.ParameterLines.{IsBadQuery, query_columns}
use Rattle.snb_schema.specs.Queries.{IsComplex, IsOneOf, complex_queries}
use Rattle.snb_schema.specs.UpdateLines.{Clashes, IsBadField, IsBadInsert, IsBadLine, IsFirstBad, IsFirstOfThree, NamesInsert, all_inserts}
use Rattle.snb_schema.specs.InsertLines.{line_columns}
use Rattle.snb_input_fields.proofs.Laws.{one_stop}
use Rattle.snb_streams.specs.Parameters.{IsBadParams}
use Rattle.snb_streams.proofs.ClashFacts.{clash_spelled, one_clash}
use Rattle.snb_streams.proofs.KindFacts.{named_long, one_named}
use Rattle.snb_streams.proofs.PlainFacts.{one_line_or_not}

-- each case here is said with what isn't so before it: of three fields,
abbrev pub IsThreeCase : List (List ℕ) → ℕ → Type 0
IsThreeCase fs column =
    ((n : ℕ) × StopsAfter (Number MAX_TIME ∷ Number MAX_TIME ∷ []) fs n × (column ≡ n + 1))
    ⊎ (((n : ℕ) → ¬ StopsAfter (Number MAX_TIME ∷ Number MAX_TIME ∷ []) fs n) × (column ≡ 3))

pub three_from_case : (fs : List (List ℕ)) (column : ℕ) → IsThreeCase fs column → IsFirstOfThree fs column
three_from_case fs column (inl p) = inl p
three_from_case fs column (inr p) = inr (λ c q. p.0 q.0 q.1, inl p.1)

pub three_to_case : (fs : List (List ℕ)) (column : ℕ) → IsFirstOfThree fs column → IsThreeCase fs column
three_to_case fs column (inl p) = inl p
three_to_case fs column (inr (stops, inl p)) = inr (λ n s. stops (n + 1) (n, s, refl), p)
three_to_case fs column (inr (stops, inr p)) = absurd p.1

-- of the fields of an insert,
abbrev pub IsFieldCase : InsertKind → List (List ℕ) → ℕ → Type 0
IsFieldCase kind fs column =
    ((n : ℕ) × StopsAfter (line_columns kind) fs n × (column ≡ n + 1) × ((other : ℕ) → Clashes kind fs other → column < other))
    ⊎ (Clashes kind fs column × ((n : ℕ) → StopsAfter (line_columns kind) fs n → column ≤ n))

stop_least : (kind : InsertKind) (fs : List (List ℕ)) (column n : ℕ) → StopsAfter (line_columns kind) fs n → column ≡ n + 1 → ((other : ℕ) → Clashes kind fs other → column < other) → (c : ℕ) → IsBadField kind fs c → column ≤ c
stop_least kind fs column n stop at less c (inl q) = (let same = one_stop (line_columns kind) fs n q.0 stop q.1 in let a = q.2 in omega arith)
stop_least kind fs column n stop at less c (inr q) = (let l = less c q in omega arith)

clash_least : (kind : InsertKind) (fs : List (List ℕ)) (column : ℕ) → Clashes kind fs column → ((n : ℕ) → StopsAfter (line_columns kind) fs n → column ≤ n) → (c : ℕ) → IsBadField kind fs c → column ≤ c
clash_least kind fs column clash less c (inl q) = (let l = less q.0 q.1 in let a = q.2 in omega arith)
clash_least kind fs column clash less c (inr q) = (let same = one_clash kind fs column c clash q in omega arith)

pub field_from_case : (kind : InsertKind) (fs : List (List ℕ)) (column : ℕ) → IsFieldCase kind fs column → IsFirstBad kind fs column
field_from_case kind fs column (inl p) = (inl (p.0, p.1, p.2), stop_least kind fs column p.0 p.1 p.2 p.3)
field_from_case kind fs column (inr p) = (inr p.0, clash_least kind fs column p.0 p.1)

pub field_to_case : (kind : InsertKind) (fs : List (List ℕ)) (column : ℕ) → IsFirstBad kind fs column → IsFieldCase kind fs column
field_to_case kind fs column (inl p, least) =
    inl (p.0, p.1, p.2, λ other h. (let l = least other (inr h) in let ne = clash_spelled kind fs p.0 other p.1 h in let at = p.2 in omega arith))
field_to_case kind fs column (inr p, least) =
    inr (p, λ n s. (let l = least (n + 1) (inl (n, s, refl)) in let ne = clash_spelled kind fs n column s p in omega arith))

-- of the fields of any insert,
abbrev pub IsInsertCase : List InsertKind → List (List ℕ) → ℕ → Type 0
IsInsertCase allowed fs column =
    ((length fs < 3) × (column ≡ 0))
    ⊎ ((3 ≤ length fs) × ((kind : InsertKind) → ¬ NamesInsert allowed fs kind) × IsThreeCase fs column)
    ⊎ ((kind : InsertKind) × NamesInsert allowed fs kind × (length fs ≢ length (line_columns kind)) × (column ≡ 0))
    ⊎ ((kind : InsertKind) × NamesInsert allowed fs kind × (length fs ≡ length (line_columns kind)) × IsFieldCase kind fs column)

not_few : (fs : List (List ℕ)) (c : ℕ) → 3 ≤ length fs → ¬ ((length fs < 3) × (c ≡ 0))
not_few fs c many few = (let l = few.0 in omega arith)

pub insert_from_case : (allowed : List InsertKind) (fs : List (List ℕ)) (column : ℕ) → IsInsertCase allowed fs column → IsBadInsert allowed fs column
insert_from_case allowed fs column (inl p) = inl p
insert_from_case allowed fs column (inr (inl p)) = inr (λ c q. not_few fs c p.0 q, inl (p.1, three_from_case fs column p.2))
insert_from_case allowed fs column (inr (inr (inl p))) = inr (λ c q. not_few fs c (named_long allowed fs p.0 p.1) q, inr (λ c q. q.0 p.0 p.1, inl p))
insert_from_case allowed fs column (inr (inr (inr p))) =
    inr (
      λ c q. not_few fs c (named_long allowed fs p.0 p.1) q,
      inr (
        λ c q. q.0 p.0 p.1,
        inr (λ c q. q.2 (p.2 ∙ ap (λ (k : InsertKind). length (line_columns k)) (one_named allowed fs p.0 q.0 p.1 q.1)), inl (p.0, p.1, field_from_case p.0 fs column p.3)),
      ),
    )

many : (fs : List (List ℕ)) → ((c : ℕ) → ¬ ((length fs < 3) × (c ≡ 0))) → 3 ≤ length fs
many fs few = elim (cases_lt (length fs) 3) [ inl l ↦ absurd (few 0 (l, refl)) | inr is ↦ is ]

pub insert_to_case : (allowed : List InsertKind) (fs : List (List ℕ)) (column : ℕ) → IsBadInsert allowed fs column → IsInsertCase allowed fs column
insert_to_case allowed fs column (inl p) = inl p
insert_to_case allowed fs column (inr (few, inl p)) = inr (inl (many fs few, p.0, three_to_case fs column p.1))
insert_to_case allowed fs column (inr (few, inr (none, inl p))) = inr (inr (inl p))
insert_to_case allowed fs column (inr (few, inr (none, inr (size, inl p)))) =
    let long : length fs ≡ length (line_columns p.0) = elim (cases_eq (length fs) (length (line_columns p.0))) [
      | inl same ↦ same
      | inr other ↦ absurd (size 0 (p.0, p.1, other, refl))
    ] in
    inr (inr (inr (p.0, p.1, long, field_to_case p.0 fs column p.2)))
insert_to_case allowed fs column (inr (few, inr (none, inr (size, inr p)))) = absurd p.1

-- of a text,
abbrev pub IsTextCase : List ℕ → ℕ → Type 0
IsTextCase text column =
    ((begins_with_mark text ≡ true) × (column ≡ 1))
    ⊎ ((begins_with_mark text ≡ false) × (IsUtf8 text → ¬ HasNoEnd text) × (column ≡ 0))
    ⊎ ((begins_with_mark text ≡ false) × IsUtf8 text × HasNoEnd text × IsBadInsert all_inserts (fields text) column)

not_marked : (text : List ℕ) (c : ℕ) → begins_with_mark text ≡ false → ¬ ((begins_with_mark text ≡ true) × (c ≡ 1))
not_marked text c unmarked marked = (let yes = marked.0 in cc)

pub text_from_case : (text : List ℕ) (column : ℕ) → IsTextCase text column → IsBadLine text column
text_from_case text column (inl p) = inl p
text_from_case text column (inr (inl p)) = inr (λ c q. not_marked text c p.0 q, inl (λ one. p.1 one.0 one.1, p.2))
text_from_case text column (inr (inr p)) = inr (λ c q. not_marked text c p.0 q, inr (λ c q. q.0 (p.1, p.2), inl p.3))

unmarked : (text : List ℕ) → ((c : ℕ) → ¬ ((begins_with_mark text ≡ true) × (c ≡ 1))) → begins_with_mark text ≡ false
unmarked text mark = elim (cases_Bool (begins_with_mark text)) [ inl marked ↦ absurd (mark 1 (marked, refl)) | inr plain ↦ plain ]

pub text_to_case : (text : List ℕ) (column : ℕ) → IsBadLine text column → IsTextCase text column
text_to_case text column (inl p) = inl p
text_to_case text column (inr (mark, inl p)) = inr (inl (unmarked text mark, λ u h. p.0 (u, h), p.1))
text_to_case text column (inr (mark, inr (broken, inl p))) =
    let one : IsUtf8 text × HasNoEnd text = elim (one_line_or_not text) [
      | inl is ↦ is
      | inr other ↦ absurd (broken 0 (λ is. other is.0 is.1, refl))
    ] in
    inr (inr (unmarked text mark, one.0, one.1, p))
text_to_case text column (inr (mark, inr (broken, inr p))) = absurd p.1

-- of the fields of a query,
abbrev pub IsQueryCase : ℕ → List (List ℕ) → ℕ → Type 0
IsQueryCase q fs column =
    ((length fs ≢ length (query_columns q)) × (column ≡ 0))
    ⊎ ((length fs ≡ length (query_columns q)) × ((n : ℕ) × StopsAfter (query_columns q) fs n × (column ≡ n + 1)))

pub query_from_case : (q : ℕ) (fs : List (List ℕ)) (column : ℕ) → IsQueryCase q fs column → IsBadQuery q fs column
query_from_case q fs column (inl p) = inl p
query_from_case q fs column (inr p) = inr (λ c r. r.0 p.0, inl p.1)

pub query_to_case : (q : ℕ) (fs : List (List ℕ)) (column : ℕ) → IsBadQuery q fs column → IsQueryCase q fs column
query_to_case q fs column (inl p) = inl p
query_to_case q fs column (inr (size, inl p)) =
    inr (elim (cases_eq (length fs) (length (query_columns q))) [ inl same ↦ same | inr other ↦ absurd (size 0 (other, refl)) ], p)
query_to_case q fs column (inr (size, inr p)) = absurd p.1

-- and of the fields of a file of parameters
abbrev pub IsParamsCase : ℕ → List (List ℕ) → ℕ → Type 0
IsParamsCase q fs column = (IsComplex q × IsBadQuery q fs column) ⊎ (¬ IsComplex q × (column ≡ 0))

pub params_from_case : (q : ℕ) (fs : List (List ℕ)) (column : ℕ) → IsParamsCase q fs column → IsBadParams q fs column
params_from_case q fs column (inl p) = inr (λ c r. r.0 p.0, inl p.1)
params_from_case q fs column (inr p) = inl p

one_or_not : (xs : List ℕ) (q : ℕ) → IsOneOf q xs ⊎ ¬ IsOneOf q xs
one_or_not [] q = inr (λ h. h)
one_or_not (x ∷ xs) q = or_else (one_or_not xs q)
  where
    or_else : IsOneOf q xs ⊎ ¬ IsOneOf q xs → IsOneOf q (x ∷ xs) ⊎ ¬ IsOneOf q (x ∷ xs)
    or_else (inl there) = inl (inr there)
    or_else (inr none) = elim (cases_eq q x) [
      | inl same ↦ inl (inl same)
      | inr other ↦ inr (λ h. elim h [ inl same ↦ other same | inr there ↦ none there ])
    ]

pub params_to_case : (q : ℕ) (fs : List (List ℕ)) (column : ℕ) → IsBadParams q fs column → IsParamsCase q fs column
params_to_case q fs column (inl p) = inr p
params_to_case q fs column (inr (short, inl p)) = inl (elim (one_or_not complex_queries q) [ inl is ↦ is | inr other ↦ absurd (short 0 (other, refl)) ], p)
params_to_case q fs column (inr (short, inr p)) = absurd p.1
