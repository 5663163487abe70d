-- Whether a text spells a number of a column is decided.
use Rattle.std.proofs.Common.{◌≡◌, ◌∙◌, ◌<◌, ℕ, List, Option, Some, None, sym, subst, inl, inr, arith}
use Rattle.std.proofs.lemmas.Bool.{cases_lt}
use Rattle.std.specs.Option.{MatchOption}
use Rattle.snb_base.specs.Spellings.{Num}
use Rattle.snb_runlog.specs.Lines.{IsNumber}
use Rattle.snb_base.proofs.Laws.{Found, number_found}

-- a text is one number at most
pub one_number : (column : ℕ × ℕ) (x : List ℕ) (m n : ℕ) → IsNumber column x m → IsNumber column x n → m ≡ n
one_number column x m n s t = s.0.value ∙ sym t.0.value

-- where the number that a text spells is too low for a column, it spells none of the column
pub too_low : (column : ℕ × ℕ) (x : List ℕ) (m most : ℕ) → Num x m most → m < column.0 → (n : ℕ) → ¬ IsNumber column x n
too_low column x m most s low n t = (let same : m ≡ n = s.value ∙ sym t.0.value in let high = t.1 in omega arith)

-- a text spells a number of a column, or it spells none
pub column_found : (column : ℕ × ℕ) (x : List ℕ) → Found (IsNumber column x)
column_found column x = elim (number_found x column.1) [
  | inl s ↦ elim (cases_lt s.0 column.0) [ inl low ↦ inr (too_low column x s.0 column.1 s.1 low) | inr high ↦ inl (s.0, (s.1, high)) ]
  | inr never ↦ inr (λ n t. never n t.0)
]

-- what the reading of a field says
pub none_spelled : (P : ℕ → Type 0) (o : Option ℕ) → MatchOption o ((n : ℕ) → ¬ P n) P → o ≡ None → (n : ℕ) → ¬ P n
none_spelled P None m is = m
none_spelled P (Some n) m is = absurd cc

-- and where it gives a number
pub some_spelled : (P : ℕ → Type 0) (o : Option ℕ) (n : ℕ) → MatchOption o ((m : ℕ) → ¬ P m) P → o ≡ Some n → P n
some_spelled P None n m is = absurd cc
some_spelled P (Some k) n m is = (let same : k ≡ n = cc in subst P same m)
