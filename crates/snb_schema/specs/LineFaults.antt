-- What is wrong with the bytes of a line of a file.
use Rattle.std.specs.Prelude.{◌≡◌, ℕ, true, List, [], ◌∷◌, IsUtf8}
use Rattle.snb_base.specs.FirstOf.{FirstOf}
use Rattle.snb_schema.specs.declared.file.FileId.{FileId}
use Rattle.snb_schema.specs.declared.refusal.Refusal.{Refusal}
use Rattle.snb_schema.specs.declared.refusal.Refusal.TheVariants.{BadLine, NotUtf8}
use Rattle.snb_schema.specs.Lines.{begins_with_mark}

-- the line of this number is refused for its bytes: it begins with a byte order mark, or it isn't
-- UTF-8
abbrev pub RefusesText : FileId → ℕ → List ℕ → Refusal → Type 0
RefusesText file number line r =
    FirstOf
    ((λ q. (begins_with_mark line ≡ true) × (q ≡ BadLine file number 1))
    ∷ (λ q. ¬ IsUtf8 line × (q ≡ NotUtf8 file number))
    ∷ [])
    r
