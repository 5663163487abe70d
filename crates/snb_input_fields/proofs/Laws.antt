-- What another crate may cite of this one: fields read by columns.
use Rattle.std.proofs.Common.{◌≡◌, ◌∷◌, ◌+◌, ◌⊎◌, [], ℕ, zero, suc, List, Option, Some, None, length, take, refl, ap, inl, inr}
use Rattle.std.proofs.lemmas.Bool.{cases_eq}
use Rattle.snb_base.specs.Spellings.{Num}
use Rattle.snb_schema.specs.declared.column.Column.{Column}
use Rattle.snb_schema.specs.declared.column.Value.{Value}
use Rattle.snb_schema.specs.Columns.{SpellsAll, StopsAfter}
use Rattle.snb_schema.specs.RowValues.{IsWide}
use Rattle.snb_input_lines.specs.Records.{field_at}
use Rattle.snb_input_fields.proofs.WideFacts.{wide_none, wide_some}
use Rattle.snb_base.proofs.Laws.{number_found}
pub use Rattle.snb_input_fields.proofs.Queries.{one_query, typed_query}
pub use Rattle.snb_input_fields.proofs.Readings.{at, expects_after, expects_all, expects_first, expects_second, moved, on_bad, reads_both, reads_spell, reads_to, spelled, spells_from, stops_bad, stops_first, stops_second, stops_within}
pub use Rattle.snb_input_fields.proofs.TypedRows.{TypedRow, row_of, row_parts, row_values}

-- fields that spell values are as many as their columns
pub spelled_long : (cs : List Column) (fs : List (List ℕ)) (vs : List Value) → SpellsAll cs fs vs → length fs ≡ length cs
spelled_long [] [] [] s = refl
spelled_long (c ∷ cs) (x ∷ fs) (v ∷ vs) s = ap suc (spelled_long cs fs vs s.1)
spelled_long cs fs vs s = absurd s

-- fields stop at one place at most
pub one_stop : (cs : List Column) (fs : List (List ℕ)) (m n : ℕ) → StopsAfter cs fs m → StopsAfter cs fs n → m ≡ n
one_stop (c ∷ cs) (x ∷ fs) zero zero s t = refl
one_stop (c ∷ cs) (x ∷ fs) zero (suc n) s t = absurd (s t.0.0 t.0.1)
one_stop (c ∷ cs) (x ∷ fs) (suc m) zero s t = absurd (t s.0.0 s.0.1)
one_stop (c ∷ cs) (x ∷ fs) (suc m) (suc n) s t = ap suc (one_stop cs fs m n s.1 t.1)
one_stop cs fs m n s t = absurd s

-- fields that begin with values of all columns stop nowhere
pub no_stop : (cs : List Column) (fs : List (List ℕ)) (vs : List Value) → SpellsAll cs (take (length cs) fs) vs → (n : ℕ) → ¬ StopsAfter cs fs n
no_stop [] fs vs s n t = t
no_stop (c ∷ cs) [] vs s n t = t
no_stop (c ∷ cs) (x ∷ fs) [] s n t = s
no_stop (c ∷ cs) (x ∷ fs) (v ∷ vs) s zero t = t v s.0
no_stop (c ∷ cs) (x ∷ fs) (v ∷ vs) s (suc n) t = no_stop cs fs vs s.1 n t.1

-- there are so many fields, or one more that is empty; or there aren't
pub wide_or_not : (count : ℕ) (fs : List (List ℕ)) → IsWide count fs ⊎ ¬ IsWide count fs
wide_or_not count fs = go (field_at fs count) refl
  where
    go : (o : Option (List ℕ)) → field_at fs count ≡ o → IsWide count fs ⊎ ¬ IsWide count fs
    go None e =
        let (there, back) = wide_none count fs e in
        elim (cases_eq (length fs) count) [ inl same ↦ inl (there same) | inr other ↦ inr (λ w. other (back w)) ]
    go (Some []) e =
        let (there, back) = wide_some count fs [] e in
        elim (cases_eq (length fs) (count + 1)) [ inl same ↦ inl (there same refl) | inr other ↦ inr (λ w. other (back w).0) ]
    go (Some (b ∷ bs)) e = inr (λ w. (let empty : b ∷ bs ≡ [] = ((wide_some count fs (b ∷ bs) e).1 w).1 in cc))

-- a text is a number of at most so much, or it isn't
pub number_or_not : (x : List ℕ) (most : ℕ) → ((n : ℕ) × Num x n most) ⊎ ((n : ℕ) → ¬ Num x n most)
number_or_not = number_found
