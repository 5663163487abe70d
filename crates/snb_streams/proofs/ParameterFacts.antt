-- The query that is made of the values of a line, and what a line is refused for.
use Rattle.std.proofs.Common.{◌≡◌, ◌≢◌, ◌∙◌, ◌+◌, ◌≤◌, ℕ, List, length, sym, ap, subst, inl, inr, arith, rules}
use Rattle.std.specs.Prelude.{Err, IfOk, Ok, Option, Result, Some, []}
use Rattle.std.specs.Option.{option_map_or}
use Rattle.std.proofs.lemmas.List.{take_all}
use Rattle.snb_schema.specs.declared.fault.LineFault.{LineFault}
use Rattle.snb_schema.specs.declared.column.Column.{Column}
use Rattle.snb_schema.specs.declared.column.Value.{Value}
use Rattle.snb_schema.specs.declared.query.Query.{Query}
use Rattle.snb_schema.specs.declared.query.ReadKind.{ReadKind}
use Rattle.snb_schema.specs.Columns.{SpellsAll, StopsAfter}
use Rattle.snb_schema.specs.ParameterLines.{IsBadQuery, SpellsQuery, query_columns}
use Rattle.snb_schema.specs.ReadKinds.{number_of_kind, parameter_columns, parameter_values, read_kind_of}
use Rattle.snb_schema.specs.Queries.{IsComplex, complex_kind, complex_queries, number_of_query}
use Rattle.snb_schema.proofs.Laws.{numbered_is, numbered_some, of_one, one_number}
use Rattle.snb_columns.specs.Laws.{OneList}
use Rattle.snb_input_fields.specs.Fields.{ReadsAll, StopsIn}
use Rattle.snb_input_fields.specs.Reading.{IsBadIn, Reading, SpellsFrom, at_first, line_meaning}
use Rattle.snb_input_fields.proofs.Laws.{no_stop, one_query, one_stop, reads_spell, row_of, spelled_long, spells_from, stops_bad, typed_query}
use Rattle.snb_streams.specs.Laws.{NoBadQuery, OneBadQuery, OneQuery}
use Rattle.snb_streams.proofs.CaseFacts.{IsQueryCase, query_from_case, query_to_case}

-- the columns of a kind are those of its number
pub kind_columns : (q : ℕ) (kind : ReadKind) → complex_kind q ≡ Some kind → parameter_columns kind ≡ query_columns q
kind_columns q kind is = sym (ap (λ (o : Option ReadKind). option_map_or parameter_columns o []) is)

-- no complex query has the number 0
no_zero : (q : ℕ) → IsComplex q → 0 ≢ q
no_zero q complex = of_one (λ n. 0 ≢ n) complex_queries q complex (search rules)

-- the query whose parameters were read off the fields
pub told_query : (q : ℕ) (kind : ReadKind) (fs : List (List ℕ)) (one : Query) (r s : Reading) → complex_kind q ≡ Some kind → length fs ≡ length (query_columns q) → r ≡ at_first (query_columns q) fs → read_kind_of one ≡ kind
    → ReadsAll line_meaning r (parameter_columns kind) (parameter_values one) s → SpellsQuery q fs one
told_query q kind fs one r s is long begins of reads =
    let number : number_of_query one ≡ q = ap number_of_kind of ∙ numbered_is q kind is in
    let spelled : SpellsFrom 0 (query_columns q) fs (parameter_values one) =
    subst (λ (t : Reading). SpellsFrom t.read (query_columns q) t.fields (parameter_values one)) begins
    (subst (λ (cs : List Column). SpellsFrom r.read cs r.fields (parameter_values one)) (kind_columns q kind is) (reads_spell (parameter_columns kind) (parameter_values one) r s reads)) in
    let few : length fs ≤ length (query_columns q) = omega (arith, long) in
    let enough : 0 + length (query_columns q) ≤ length fs = omega (arith, long) in
    (number, subst (λ (xs : List (List ℕ)). SpellsAll (query_columns q) xs (parameter_values one)) (take_all (length (query_columns q)) fs few) (spells_from 0 (query_columns q) fs (parameter_values one) enough spelled))

-- as the reading tells it
pub told_read : (found : Result Query LineFault) (q : ℕ) (kind : ReadKind) (fs : List (List ℕ)) (r s : Reading) → complex_kind q ≡ Some kind → length fs ≡ length (query_columns q) → r ≡ at_first (query_columns q) fs
    → IfOk found (λ one. read_kind_of one ≡ kind) → IfOk found (λ one. ReadsAll line_meaning r (parameter_columns kind) (parameter_values one) s) → IfOk found (SpellsQuery q fs)
told_read (Ok one) q kind fs r s is long begins of reads = told_query q kind fs one r s is long begins of reads
told_read (Err fault) q kind fs r s is long begins of reads = tt

-- and why there is none
pub told_none : (q : ℕ) (kind : ReadKind) (fs : List (List ℕ)) (r : Reading) (column : ℕ) → complex_kind q ≡ Some kind → length fs ≡ length (query_columns q) → r ≡ at_first (query_columns q) fs
    → StopsIn line_meaning r (parameter_columns kind) column → IsBadQuery q fs column
told_none q kind fs r column is long begins stops =
    let bad : IsBadIn (query_columns q) fs column = subst (λ (t : Reading). IsBadIn t.columns t.fields column) begins (stops_bad (parameter_columns kind) r column stops) in
    query_from_case q fs column (inr (long, bad))

-- fields that spell values of a query's columns are a query's
pub query_spelled : (fs : List (List ℕ)) (vs : List Value) (q : ℕ) → IsComplex q → SpellsAll (query_columns q) fs vs → (one : Query) × SpellsQuery q fs one
query_spelled fs vs q complex spelled =
    let (kind, is) = numbered_some q complex in
    let columns = kind_columns q kind is in
    let (row, values) = row_of (parameter_columns kind) fs vs (subst (λ (cs : List Column). SpellsAll cs fs vs) (sym columns) spelled) in
    let (one, of, has) = typed_query kind row in
    (one, (ap number_of_kind of ∙ numbered_is q kind is, subst (SpellsAll (query_columns q) fs) (values ∙ sym has) spelled))

-- a stop, as the reading of the values tells it
pub told_stop : (q : ℕ) (cs : List Column) (fs : List (List ℕ)) (n column : ℕ) → cs ≡ query_columns q → length fs ≡ length cs → StopsAfter cs fs n → column ≡ n + 1 → IsBadQuery q fs column
told_stop q cs fs n column e long stop at =
    query_from_case q fs column (inr (long ∙ ap (λ (ds : List Column). length ds) e, (n, subst (λ (ds : List Column). StopsAfter ds fs n) e stop, at)))

-- fields are those of one query
pub one_params : OneList → OneQuery
one_params one q fs a b complex s t =
    let alike = one_number (read_kind_of a) (read_kind_of b) (λ e. no_zero q complex (e ∙ s.0)) (s.0 ∙ sym t.0) in
    one_query a b alike (one (query_columns q) fs (parameter_values a) (parameter_values b) s.1 t.1)

-- and have no bad column
right_case : (q : ℕ) (fs : List (List ℕ)) (one : Query) (c : ℕ) → SpellsQuery q fs one → ¬ IsQueryCase q fs c
right_case q fs one c s (inl bad) = bad.0 (spelled_long (query_columns q) fs (parameter_values one) s.1)
right_case q fs one c s (inr bad) =
    let long = bad.0 in
    let few : length fs ≤ length (query_columns q) = omega (arith, long) in
    no_stop (query_columns q) fs (parameter_values one) (subst (λ (xs : List (List ℕ)). SpellsAll (query_columns q) xs (parameter_values one)) (sym (take_all (length (query_columns q)) fs few)) s.1) bad.1.0 bad.1.1

pub no_bad_query : NoBadQuery
no_bad_query q fs one c s bad = right_case q fs one c s (query_to_case q fs c bad)

-- and others have one at most
one_case : (q : ℕ) (fs : List (List ℕ)) (a b : ℕ) → IsQueryCase q fs a → IsQueryCase q fs b → a ≡ b
one_case q fs a b (inl p) (inl r) = p.1 ∙ sym r.1
one_case q fs a b (inl p) (inr r) = absurd (p.0 r.0)
one_case q fs a b (inr p) (inl r) = absurd (r.0 p.0)
one_case q fs a b (inr p) (inr r) = p.1.2 ∙ ap (λ n. n + 1) (one_stop (query_columns q) fs p.1.0 r.1.0 p.1.1 r.1.1) ∙ sym r.1.2

pub one_bad_query : OneBadQuery
one_bad_query q fs a b p r = one_case q fs a b (query_to_case q fs a p) (query_to_case q fs b r)
