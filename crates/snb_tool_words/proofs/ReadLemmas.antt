-- Facts on the words of reads.
use Rattle.std.proofs.Common.{◌≡◌, ◌↔◌, ◌<◌, ◌≤◌, Bool, false, IsTrue, Option, Some, None, List, [], ◌∷◌, length, refl, sym, subst, ap, ◌∙◌, inl, inr, arith, rules, ℕ}
use Rattle.std.specs.Option.{MatchOption, is_some}
use Rattle.snb_base.specs.Spellings.{Date, Num}
use Rattle.snb_input_fields.proofs.Laws.{one_query, row_of, spelled_long, typed_query}
use Rattle.snb_input_fields.specs.Fields.{Expects, ReadsAll, StopsIn}
use Rattle.snb_columns.specs.Laws.{OneList, OneValue}
use Rattle.snb_schema.specs.declared.column.Column.{Column}
use Rattle.snb_schema.specs.declared.column.Column.TheVariants as columns
use Rattle.snb_schema.specs.declared.column.Column.TheVariants.{Number, Small}
use Rattle.snb_schema.specs.declared.column.Value.{Value}
use Rattle.snb_schema.specs.declared.column.Value.TheVariants.{Digits, SmallDigits}
use Rattle.snb_schema.specs.declared.query.Query.{Query}
use Rattle.snb_schema.specs.declared.query.ReadKind.{ReadKind}
use Rattle.snb_schema.specs.Columns.{Spells, SpellsAll}
use Rattle.snb_schema.specs.ReadKinds.{read_kind_of, parameter_columns, parameter_values, read_word}
use Rattle.snb_tool_words.specs.Commands.{IsReadOf}
use Rattle.snb_tool_words.specs.Taken.{AreValuesFound, words_meaning}
use Rattle.snb_tool_words.proofs.OptionLemmas.{must_one}
use Rattle.snb_schema.proofs.Laws.{one_kind}

-- a read has one to three parameters
pub few_columns : (kind : ReadKind) → (1 ≤ length (parameter_columns kind)) × (length (parameter_columns kind) < 4)
few_columns kind = search rules

pub few_parameters : (kind : List ℕ) (parameters : List (List ℕ)) (query : Query) → IsReadOf kind parameters query → (1 ≤ length parameters) × (length parameters < 4)
few_parameters kind parameters query r =
    let long = spelled_long (parameter_columns (read_kind_of query)) parameters (parameter_values query) r.1 in
    let few = few_columns (read_kind_of query) in
    omega arith

-- ---- words by their columns

-- some values are spelled
abbrev pub AnySpelled : List Column → List (List ℕ) → Type 0
AnySpelled columns words = (vs : List Value) × SpellsAll columns words vs

abbrev pub IsSpelled : Column → List ℕ → Type 0
IsSpelled column word = (v : Value) × Spells column word v

-- a number that was found, or none, tells whether the word spells a value
pub found_spells : (column : Column) (word : List ℕ) (value : ℕ → Value) (r : Option ℕ) → MatchOption r ((n : ℕ) → ¬ Spells column word (value n)) (λ n. Spells column word (value n))
    → (((n : ℕ) → ¬ Spells column word (value n)) → (v : Value) → ¬ Spells column word v) → IsTrue (is_some r) ↔ IsSpelled column word
found_spells column word value None none only = (λ t. absurd cc, λ s. absurd (only none s.0 s.1))
found_spells column word value (Some n) is only = (λ _. (value n, is), λ _. refl)

pub only_number : (most : ℕ) (word : List ℕ) → ((n : ℕ) → ¬ Num word n most) → (v : Value) → ¬ Spells (Number most) word v
only_number most word none (Digits n) s = none n s
only_number most word none v s = s

pub only_small : (most : ℕ) (word : List ℕ) → ((n : ℕ) → ¬ Num word n most) → (v : Value) → ¬ Spells (Small most) word v
only_small most word none (SmallDigits n) s = none n s
only_small most word none v s = s

pub only_date : (word : List ℕ) → ((n : ℕ) → ¬ Date word n) → (v : Value) → ¬ Spells columns.Date word v
only_date word none (Digits n) s = none n s
only_date word none v s = s

-- values are spelled where a first one and the others are
spelled_parts : (c : Column) (cs : List Column) (x : List ℕ) (xs : List (List ℕ)) → AnySpelled (c ∷ cs) (x ∷ xs) → IsSpelled c x × AnySpelled cs xs
spelled_parts c cs x xs ([], s) = absurd s
spelled_parts c cs x xs (v ∷ vs, s) = ((v, s.0), (vs, s.1))

module _ (c : Column) (cs all : List Column) (x : List ℕ) (xs words : List (List ℕ)) (r : Bool) (columns : all ≡ c ∷ cs) (are : words ≡ x ∷ xs) where
  pub more_spells : IsSpelled c x → (IsTrue r ↔ AnySpelled cs xs) → IsTrue r ↔ AnySpelled all words
  more_spells first iff = rw (columns, are) (λ t. let more = iff.0 t in (first.0 ∷ more.0, (first.1, more.1)), λ s. iff.1 (spelled_parts c cs x xs s).1)

  pub first_spells : r ≡ false → (IsTrue r ↔ IsSpelled c x) → IsTrue r ↔ AnySpelled all words
  first_spells e iff = rw (columns, are) (λ t. absurd cc, λ s. iff.1 (spelled_parts c cs x xs s).0)

-- ---- a read by its kind and its values

-- words name one read
pub one_read : OneList → (kind : List ℕ) (parameters : List (List ℕ)) (a b : Query) → IsReadOf kind parameters a → IsReadOf kind parameters b → a ≡ b
one_read list kind parameters a b x y =
    let alike = one_kind (read_kind_of a) (read_kind_of b) (sym x.0 ∙ y.0) in
    one_query a b alike (list (parameter_columns (read_kind_of a)) parameters (parameter_values a) (parameter_values b) x.1
    (subst (λ (k : ReadKind). SpellsAll (parameter_columns k) parameters (parameter_values b)) (sym alike) y.1))

-- words that spell values of the columns of a kind name a read of this kind, and no other words do
pub read_is : (kind : ReadKind) (word : List ℕ) (words : List (List ℕ)) (columns : List Column) (r : Bool) → word ≡ read_word kind → columns ≡ parameter_columns kind
    → (IsTrue r ↔ AnySpelled columns words) → IsTrue r ↔ ((query : Query) × IsReadOf word words query)
read_is kind word words columns r named same iff = (
  λ t.
      let (vs, all) = rw same at iff.0 t in
      let (row, values) = row_of (parameter_columns kind) words vs all in
      let (query, is, has) = typed_query kind row in
      (query, (named ∙ ap read_word (sym is), rw (is, has, sym values) all)),
  λ q.
      let alike = one_kind kind (read_kind_of q.0) (sym named ∙ q.1.0) in
      iff.1 (parameter_values q.0, rw (same, alike) q.1.1),
)

-- ---- the words of a read that were found, read one after another

-- words that were found to spell values may be read
pub may_read : (cs : List Column) (words : List (Option (List ℕ))) (vs : List Value) → AreValuesFound cs words vs → Expects words_meaning words cs
may_read [] words [] s = tt
may_read (c ∷ cs) (word ∷ words) (v ∷ vs) s = ((v, s.0), λ w more r. subst (λ (t : List (Option (List ℕ))). Expects words_meaning t cs) (sym r.1) (may_read cs words vs s.1))
may_read cs words vs s = absurd s

-- reading stops at none of them
pub never_stops : (cs : List Column) (words : List (Option (List ℕ))) (n : ℕ) → ¬ StopsIn words_meaning words cs n
never_stops [] words n s = s
never_stops (c ∷ cs) words n (inl s) = s
never_stops (c ∷ cs) words n (inr s) = never_stops cs s.1 n s.3

-- what is read is what was found
read_one : OneValue → (cs : List Column) (words more : List (Option (List ℕ))) (vs ws : List Value) → ReadsAll words_meaning words cs vs more → AreValuesFound cs words ws → vs ≡ ws
read_one one [] words more [] [] r s = refl
read_one one [] words more (v ∷ vs) [] r s = absurd r
read_one one (c ∷ cs) (word ∷ words) more [] (w ∷ ws) r s = absurd r
read_one one (c ∷ cs) (word ∷ words) more (v ∷ vs) (w ∷ ws) r s =
    let same = must_one (Spells c) (one c) word v w r.1.0 s.0 in
    let others = read_one one cs words more vs ws (subst (λ (t : List (Option (List ℕ))). ReadsAll words_meaning t cs vs more) r.1.1 r.2) s.1 in
    λ i. same i ∷ others i
read_one one cs words more vs ws r s = absurd s

-- the read that is made of the words that were found is the one that was found
pub same_read : OneValue → (words more : List (Option (List ℕ))) (made query : Query) (kind : ReadKind) → read_kind_of made ≡ kind → kind ≡ read_kind_of query
    → ReadsAll words_meaning words (parameter_columns kind) (parameter_values made) more → AreValuesFound (parameter_columns (read_kind_of query)) words (parameter_values query) → made ≡ query
same_read one words more made query kind is alike read found =
    one_query made query (is ∙ alike) (read_one one (parameter_columns kind) words more (parameter_values made) (parameter_values query) read (rw alike found))
