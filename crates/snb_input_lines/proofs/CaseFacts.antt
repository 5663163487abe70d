-- What a line or an item is refused for, by cases that exclude one another.
use Rattle.std.proofs.Common.{◌≡◌, ◌⊎◌, ℕ, true, false, List, refl, inl, inr}
use Rattle.std.specs.Prelude.{IsUtf8}
use Rattle.std.proofs.lemmas.Bool.{cases_Bool}
use Rattle.snb_schema.specs.declared.file.FileId.{FileId}
use Rattle.snb_schema.specs.declared.refusal.Counted.TheVariants.{Rows}
use Rattle.snb_schema.specs.declared.refusal.Refusal.{Refusal}
use Rattle.snb_schema.specs.declared.refusal.Refusal.TheVariants.{BadLine, NotUtf8, TooMany}
use Rattle.snb_schema.specs.LineFaults.{RefusesText}
use Rattle.snb_schema.specs.Lines.{begins_with_mark}
use Rattle.snb_input_lines.specs.declared.counted.RowCount.{RowCount}
use Rattle.snb_input_lines.specs.Counts.{IsFull, RowRefuses}
use Rattle.snb_input_lines.specs.Sinks.{Refuses}

-- each case here is said with what isn't so before it: of the bytes of a line,
abbrev pub IsTextCase : FileId → ℕ → List ℕ → Refusal → Type 0
IsTextCase file number line r =
    ((begins_with_mark line ≡ true) × (r ≡ BadLine file number 1))
    ⊎ ((begins_with_mark line ≡ false) × (¬ IsUtf8 line) × (r ≡ NotUtf8 file number))

pub text_from_case : (file : FileId) (number : ℕ) (line : List ℕ) (r : Refusal) → IsTextCase file number line r → RefusesText file number line r
text_from_case file number line r (inl p) = inl p
text_from_case file number line r (inr p) = inr (λ q w. (let yes = w.0 in let no = p.0 in cc), inl (p.1, p.2))

pub text_to_case : (file : FileId) (number : ℕ) (line : List ℕ) (r : Refusal) → RefusesText file number line r → IsTextCase file number line r
text_to_case file number line r (inl p) = inl p
text_to_case file number line r (inr (mark, inl p)) =
    let unmarked : begins_with_mark line ≡ false = elim (cases_Bool (begins_with_mark line)) [
      | inl marked ↦ absurd (mark (BadLine file number 1) (marked, refl))
      | inr plain ↦ plain
    ] in
    inr (unmarked, p.0, p.1)
text_to_case file number line r (inr (mark, inr p)) = absurd p.1

-- and of a counted item
abbrev pub IsRowCase : {S T : Type 0} → Refuses S T → Refuses (RowCount S) T
IsRowCase refuses old file item r = (IsFull old.most old.rows × (r ≡ TooMany Rows)) ⊎ ((¬ IsFull old.most old.rows) × refuses old.sink file item r)

pub row_from_case : {S T : Type 0} (refuses : Refuses S T) (old : RowCount S) (file : FileId) (item : T) (r : Refusal) → IsRowCase refuses old file item r → RowRefuses refuses old file item r
row_from_case refuses old file item r (inl p) = inl p
row_from_case refuses old file item r (inr p) = inr (λ q w. p.0 w.0, inl p.1)

pub row_to_case : {S T : Type 0} (refuses : Refuses S T) (old : RowCount S) (file : FileId) (item : T) (r : Refusal) → RowRefuses refuses old file item r → IsRowCase refuses old file item r
row_to_case refuses old file item r (inl p) = inl p
row_to_case refuses old file item r (inr (room, inl p)) = inr (λ full. room (TooMany Rows) (full, refl), p)
row_to_case refuses old file item r (inr (room, inr p)) = absurd p.1
