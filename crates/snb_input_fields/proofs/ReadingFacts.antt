-- Fields read by columns, one after another.
use Rattle.std.proofs.Common.{◌≡◌, ℕ, zero, suc, List, [], ◌∷◌, Some, All, subst}
use Rattle.std.proofs.lemmas.List.Elements.{All-head, All-tail}
use Rattle.snb_input_lines.specs.Records.{field_at}
use Rattle.snb_base.specs.Spellings.{Date, Day, IdList, PairList, WordList}
use Rattle.snb_schema.specs.declared.column.Column.TheVariants as column
use Rattle.snb_schema.specs.declared.column.Value.{Value}
use Rattle.snb_schema.specs.declared.column.Value.TheVariants.{Digits, Texts, Ids, Pairs}
use Rattle.snb_schema.specs.Columns.{Spells}

-- what holds of each field holds of the one at a place
pub holds_at : (P : List ℕ → Type 0) (xs : List (List ℕ)) (i : ℕ) (x : List ℕ) → All P xs → field_at xs i ≡ Some x → P x
unfolding field_at
holds_at P [] i x h e = absurd cc
holds_at P (y ∷ xs) zero x h e = (let same : y ≡ x = cc in subst P same (All-head P y xs h))
holds_at P (y ∷ xs) (suc i) x h e = holds_at P xs i x (All-tail P y xs h) e

-- what a date spells
pub date_of : (x : List ℕ) (v : Value) → Spells column.Date x v → (n : ℕ) × Date x n
date_of x (Digits n) s = (n, s)
date_of x v s = absurd s

-- what a day spells
pub day_of : (x : List ℕ) (v : Value) → Spells column.Day x v → (n : ℕ) × Day x n
day_of x (Digits n) s = (n, s)
day_of x v s = absurd s

-- what a list of texts spells
pub texts_of : (x : List ℕ) (v : Value) → Spells column.TextList x v → (texts : List (List ℕ)) × WordList x texts
texts_of x (Texts texts) s = (texts, s)
texts_of x v s = absurd s

-- what a list of ids spells
pub ids_of : (x : List ℕ) (v : Value) → Spells column.IdList x v → (ids : List ℕ) × IdList x ids
ids_of x (Ids ids) s = (ids, s)
ids_of x v s = absurd s

-- what a list of ids with years spells
pub pairs_of : (x : List ℕ) (v : Value) → Spells column.PairList x v → (pairs : List (ℕ × ℕ)) × PairList x pairs
pairs_of x (Pairs pairs) s = (pairs, s)
pairs_of x v s = absurd s
