-- Whether a text is one line of UTF-8.
use Rattle.std.proofs.Common.{◌≢◌, ◌⊎◌, ◌∷◌, [], ℕ, List, inl, inr}
use Rattle.std.specs.Str.{IsUtf8, is_utf8}
use Rattle.std.proofs.lemmas.Bool.{cases_Bool, cases_eq}
use Rattle.std.proofs.lemmas.List.Elements.{All-cons, All-head, All-nil, All-tail}
use Rattle.std.proofs.lemmas.Str.{IsUtf8-from_is_utf8, is_utf8-from_IsUtf8}
use Rattle.snb_schema.specs.Lines.{HasNoEnd}

-- a text has a line end, or it has none
no_end_or_one : (text : List ℕ) → HasNoEnd text ⊎ ¬ HasNoEnd text
no_end_or_one [] = inl (All-nil (λ b. b ≢ 10))
no_end_or_one (b ∷ text) = elim (cases_eq b 10) [
  | inl end ↦ inr (λ h. All-head (λ c. c ≢ 10) b text h end)
  | inr other ↦ elim (no_end_or_one text) [
    | inl none ↦ inl (All-cons (λ c. c ≢ 10) b text other none)
    | inr one ↦ inr (λ h. one (All-tail (λ c. c ≢ 10) b text h))
  ]
]

-- a text is one line of UTF-8, or it isn't
pub one_line_or_not : (text : List ℕ) → (IsUtf8 text × HasNoEnd text) ⊎ (IsUtf8 text → ¬ HasNoEnd text)
one_line_or_not text = elim (cases_Bool (is_utf8 text)) [
  | inr other ↦ inr (λ u. (let yes = is_utf8-from_IsUtf8 text u in absurd cc))
  | inl utf8 ↦ elim (no_end_or_one text) [
    | inl none ↦ inl (IsUtf8-from_is_utf8 text utf8, none)
    | inr one ↦ inr (λ u. one)
  ]
]
