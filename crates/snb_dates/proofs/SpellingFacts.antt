-- A number and a date in words have no spelling in common.
use Rattle.std.proofs.Common.{◌≡◌, ◌<◌, ◌≤◌, ◌⊎◌, ℕ, List, Option, Some, None, get_or, length, inl, inr, arith}
use Rattle.std.proofs.lemmas.List.Elements.{All-from_recursion, All-get_or}
use Rattle.std.specs.Option.{IfSome, MatchOption}
use Rattle.snb_base.specs.Calendar.{IsDigit}
use Rattle.snb_base.specs.Spellings.{Num, last_time}

-- no number has a dash as its fifth byte
pub no_number : (x : List ℕ) (n most : ℕ) → 4 < length x → get_or x 4 0 ≡ 45 → ¬ Num x n most
no_number x n most long dash num = let digit = All-get_or IsDigit x 4 0 long (All-from_recursion IsDigit x num.digits) in absurd (omega (arith, digit.0))

-- so a text that has one is read as words alone
pub in_words : (Spells : ℕ → Type 0) (x : List ℕ) (most : ℕ) (r : Option ℕ) → 4 < length x → get_or x 4 0 ≡ 45 → most ≤ last_time
    → IfSome r (λ n. n ≤ most) → MatchOption r ((n : ℕ) → ¬ Spells n) Spells
    → MatchOption r ((n : ℕ) → ¬ ((n ≤ last_time) × (Spells n ⊎ Num x n last_time))) (λ n. (n ≤ last_time) × (Spells n ⊎ Num x n last_time))
in_words Spells x most None long dash small last none = λ n s. elim s.1 [ inl words ↦ none n words | inr num ↦ no_number x n last_time long dash num ]
in_words Spells x most (Some n) long dash small last words = (omega arith, inl words)
