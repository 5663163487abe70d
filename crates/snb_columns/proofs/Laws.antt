-- What another crate may cite of this one: of numbers, of lists and their items, of pairs, and of what fields spell.
use Rattle.std.proofs.Common.{◌≢◌, ◌++◌, ◌∷◌, ℕ, List, Bool, arith}
use Rattle.std.specs.List.{All}
use Rattle.snb_base.specs.Spellings.{Listed}
use Rattle.snb_schema.specs.TableRows.{IsFieldText}
use Rattle.snb_columns.proofs.CutFacts.{around_all, around_ascii}
use Rattle.snb_columns.proofs.ListFacts.{items_all}
pub use Rattle.snb_columns.proofs.ListFacts.{IsRead, element_text, elements_some, no_word, read_all, read_fails, read_new, read_repeat, same_parts, tested_some}
pub use Rattle.snb_columns.proofs.NumberFacts.{number_some}
pub use Rattle.snb_columns.proofs.PairFacts.{differs, no_comma, not_listed, one_year, pair_parts, two_years}
pub use Rattle.snb_columns.proofs.SpellingFacts.{OneEach, each_itself, one_list, one_value}
pub use Rattle.snb_columns.proofs.CutFacts.{all_digits}

-- where a field can hold a text, it can hold what stands before and behind a semicolon
around_plain : (a b : List ℕ) → IsFieldText (a ++ 59 ∷ b) → IsFieldText a × IsFieldText b
around_plain a b f =
    let texts = around_ascii 59 (omega arith) a b f.utf8 in
    let bars = around_all (λ c. c ≢ 124) 59 a b f.no_bar in
    let ends = around_all (λ c. c ≢ 10) 59 a b f.one_line in
    (record { utf8 = texts.0; no_bar = bars.0; one_line = ends.0 }, record { utf8 = texts.1; no_bar = bars.1; one_line = ends.1 })

-- what each item has that a text of a field spells, the items of a list have that such a text spells
pub listed_all : {A : Type 0} (S : List ℕ → A → Type 0) (eq : A → A → Bool) (Q : A → Type 0) → ((x : List ℕ) (a : A) → IsFieldText x → S x a → Q a) → (x : List ℕ) (items : List A) → IsFieldText x → Listed S eq x items → All Q items
listed_all S eq Q each x items f listed = items_all S eq IsFieldText Q around_plain each x items listed f
