-- Facts on words.
use Rattle.std.proofs.Common.{◌≡◌, ℕ, ◌-◌, ◌≤◌, List, [], ◌∷◌, length, get_or, take, drop, sym, arith, Bor}
use Rattle.std.proofs.lemmas.List.{take_rest}
use Rattle.snb_tool_words.specs.Words.{texts_of}

-- what is first, by its place, and what follows it
pub headed : {A : Type 0} (xs : List A) (d : A) → 1 ≤ length xs → xs ≡ get_or xs 0 d ∷ take (length xs - 1) (drop 1 xs)
headed [] d l = absurd (omega arith)
headed (x ∷ xs) d l = λ i. x ∷ sym (take_rest (x ∷ xs) 1) i

-- two words, by their places, and those that follow them
pub two_words : (ws : List (Bor (List ℕ))) (d : Bor (List ℕ)) → 2 ≤ length ws → texts_of ws ≡ (get_or ws 0 d).now ∷ (get_or ws 1 d).now ∷ texts_of (take (length ws - 2) (drop 2 ws))
two_words [] d l = absurd (omega arith)
two_words (p ∷ []) d l = absurd (omega arith)
two_words (p ∷ q ∷ ws) d l = λ i. p.now ∷ q.now ∷ texts_of (sym (take_rest (p ∷ q ∷ ws) 2) i)
