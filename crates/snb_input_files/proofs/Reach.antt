-- How far lines reach into a file.
use Rattle.std.proofs.Common.{◌≡◌, ◌∙◌, ◌+◌, ◌≤◌, ℕ, List, ◌∷◌, ◌++◌, length, sym, ap, arith, append_assoc, length-append, sum_by}
use Rattle.std.proofs.lemmas.List.Sums.{sum_by-append, sum_by-cons}
use Rattle.snb_schema.specs.declared.limits.TheConstants.{MAX_BYTES}
use Rattle.snb_schema.specs.Lines.{lines}
use Rattle.snb_input_lines.specs.Cut.{last_lines, rest_of, whole_lines}
use Rattle.snb_input_lines.proofs.Laws.{by_lines, cut_any, first_whole, lines_whole, none_whole}
use Rattle.snb_input_files.specs.Files.{IsBeyond}

-- how many bytes lines take with their ends
abbrev pub walked : List (List ℕ) → ℕ
walked ls = sum_by (λ l. length l + 1) ls

walked_cons : (line : List ℕ) (ls : List (List ℕ)) → walked (line ∷ ls) ≡ (length line + 1) + walked ls
walked_cons = sum_by-cons (λ (l : List ℕ). length l + 1)

-- the lines of a text and of what follows it
pub lines_split : (a b : List ℕ) → lines (a ++ b) ≡ whole_lines a ++ lines (rest_of a ++ b)
lines_split a b =
    let cut = cut_any a b in
    lines_whole (a ++ b) ∙ ap (λ (ls : List (List ℕ)). ls ++ last_lines (rest_of (a ++ b))) cut.0 ∙ ap (λ (r : List ℕ). (whole_lines a ++ whole_lines (rest_of a ++ b)) ++ last_lines r) cut.1
    ∙ append_assoc (whole_lines a) (whole_lines (rest_of a ++ b)) (last_lines (rest_of (rest_of a ++ b))) ∙ ap (λ (ls : List (List ℕ)). whole_lines a ++ ls) (sym (lines_whole (rest_of a ++ b)))

-- the lines that are ended and what follows them are all bytes
pub walked_whole : (a : List ℕ) → walked (whole_lines a) + length (rest_of a) ≡ length a
walked_whole a = by_lines (λ t. walked (whole_lines t) + length (rest_of t) ≡ length t)
    (λ line h. let e = none_whole line h in let w = ap walked e.0 in let r = ap length e.1 in omega (arith, w, r))
    (λ line rest h k. let e = first_whole line rest h in let w : walked (whole_lines (line ++ 10 ∷ rest)) ≡ (length line + 1) + walked (whole_lines rest) = ap walked e.0 ∙ walked_cons line (whole_lines rest) in let r = ap length e.1 in omega (arith, w, r, k, length-append line (10 ∷ rest)))
    a

-- a line among others, with those before it
walked_part : (before : List (List ℕ)) (line : List ℕ) (after ls : List (List ℕ)) → before ++ line ∷ after ≡ ls → walked before + (length line + 1) ≤ walked ls
walked_part before line after ls e =
    let s : walked (before ++ line ∷ after) ≡ walked before + ((length line + 1) + walked after) = sum_by-append (λ (l : List ℕ). length l + 1) before (line ∷ after) ∙ ap (λ n. walked before + n) (walked_cons line after) in
    let w = ap walked e in
    omega (arith, s, w)

-- no line that is ended within what is read reaches beyond it
pub within_whole : (used : ℕ) (a b : List ℕ) (before : List (List ℕ)) (line : List ℕ) (after : List (List ℕ)) → used + length a ≤ MAX_BYTES → before ++ line ∷ after ≡ whole_lines a → ¬ IsBeyond used (length (a ++ b)) before line
within_whole used a b before line after few e beyond = let part = walked_part before line after (whole_lines a) e in let all = walked_whole a in omega (arith, part, all, few, beyond)

-- no line of a file that is read whole does
pub within_file : (used : ℕ) (a : List ℕ) (before : List (List ℕ)) (line : List ℕ) → used + length a ≤ MAX_BYTES → ¬ IsBeyond used (length a) before line
within_file used a before line few beyond = omega (arith, few, beyond)

-- some lines, a line and others, among lines that others follow
pub longer_split : (before : List (List ℕ)) (line : List ℕ) (after rest all : List (List ℕ)) → all ≡ before ++ line ∷ after → all ++ rest ≡ before ++ line ∷ (after ++ rest)
longer_split before line after rest all e = ap (λ (ls : List (List ℕ)). ls ++ rest) e ∙ append_assoc before (line ∷ after) rest
