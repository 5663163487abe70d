-- How cells compare, and lists of one element.
use Rattle.std.proofs.Common.{◌≡◌, ℕ, ◌<◌, ◌≤◌, nat_le, nat_lt, Bool, true, false, List, [], ◌∷◌, refl, ap, ◌∙◌, arith}
use Rattle.std.proofs.lemmas.Bool.Decides.{nat_tests}
use Rattle.std.specs.Cmp.Lexicographic.{slice_cmp}
use Rattle.std.specs.List.{list_any}
use Rattle.std.specs.Ordering.{nat_cmp}
use Rattle.snb_read_model.specs.declared.cell.Cell.TheVariants as cell
use Rattle.snb_read_model.specs.Cells.{cell_cmp}
use Rattle.std.proofs.Math.Bool.{or-false}

pub words_cmp : (a b : List ℕ) → cell_cmp (cell.Words a) (cell.Words b) ≡ slice_cmp nat_cmp a b
words_cmp a b = refl

-- a test of a list's only element
pub any_one : {X : Type 0} (test : X → Bool) (xs : List X) (x : X) → xs ≡ x ∷ [] → list_any test xs ≡ test x
any_one test xs x is = ap (list_any test) is ∙ or-false (test x)

-- ---- tests of numbers

pub lt_yes : (a b : ℕ) → a < b → nat_lt a b ≡ true
lt_yes a b h = grind (arith, nat_tests)

pub lt_no : (a b : ℕ) → b ≤ a → nat_lt a b ≡ false
lt_no a b h = grind (arith, nat_tests)

pub le_yes : (a b : ℕ) → a ≤ b → nat_le a b ≡ true
le_yes a b h = grind (arith, nat_tests)

pub le_no : (a b : ℕ) → b < a → nat_le a b ≡ false
le_no a b h = grind (arith, nat_tests)
