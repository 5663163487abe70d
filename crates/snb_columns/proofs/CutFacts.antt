-- A text cut at a byte, and parts joined by it.
use Rattle.std.proofs.Common.{◌≡◌, ◌≢◌, ◌==◌, ◌++◌, ◌∷◌, ◌∙◌, ◌+◌, ◌<◌, [], ℕ, List, refl, sym, ap, subst, inl, inr, length, arith, append-nil, append_assoc, length-append, All, get_or}
use Rattle.std.proofs.Math.Seq.{take-append_seam, drop-append-add, get_or-append_seam}
use Rattle.std.proofs.lemmas.Bool.{cases_Bool, eqb-true, eq-eqb}
use Rattle.std.proofs.lemmas.List.Elements.{All-nil, All-cons, All-from_recursion, All-head, All-tail, All-push, All-weaker}
use Rattle.std.proofs.lemmas.List.Splits.{slice_split_at, slice_split_none}
use Rattle.std.proofs.lemmas.Str.{IsCharBoundary-after_ascii, IsCharBoundary-before_ascii, IsUtf8-drop, IsUtf8-take}
use Rattle.std.specs.List.{AllByRecursion, join_with_byte, slice_split}
use Rattle.std.specs.Str.{IsUtf8}
use Rattle.snb_base.specs.Calendar.{IsDigit}
use Rattle.snb_schema.specs.Lines.{HasNo, HasNoEnd}
use Rattle.snb_columns.specs.Laws.{HasPlainFields}
use Rattle.snb_schema.proofs.Laws.{uncut}

-- what holds of each digit holds of each byte of digits
pub all_digits : (P : ℕ → Type 0) → ((b : ℕ) → IsDigit b → P b) → (t : List ℕ) → AllByRecursion IsDigit t → All P t
all_digits P of t h = All-weaker IsDigit P of t (All-from_recursion IsDigit t h)

-- the parts of a text between the bytes c
abbrev pub parts : ℕ → List ℕ → List (List ℕ)
parts c text = slice_split (λ b. b == c) text

-- a text without c is its one part
one_part : (c : ℕ) (part : List ℕ) → HasNo c part → parts c part ≡ part ∷ []
one_part c part h = slice_split_none (λ b. b == c) part (uncut c part h)

-- what stands before the first c is the first part
first_part : (c : ℕ) (part rest : List ℕ) → HasNo c part → parts c (part ++ c ∷ rest) ≡ part ∷ parts c rest
first_part c part rest h = slice_split_at (λ b. b == c) part c rest (uncut c part h) (eq-eqb c c refl)

-- what holds of a text without c, and of a part, a c and what follows if of what follows, holds of each text
by_cuts : (c : ℕ) (P : List ℕ → Type 0) → ((part : List ℕ) → HasNo c part → P part) → ((part rest : List ℕ) → HasNo c part → P rest → P (part ++ c ∷ rest)) →
    (part text : List ℕ) → HasNo c part → P (part ++ text)
by_cuts c P last next part [] h = subst P (sym (append-nil part)) (last part h)
by_cuts c P last next part (b ∷ bs) h = elim (cases_Bool (b == c)) [
  | inl e ↦ subst (λ (d : ℕ). P (part ++ d ∷ bs)) (sym (eqb-true b c e)) (next part bs h (by_cuts c P last next [] bs (All-nil (λ d. d ≢ c))))
  | inr e ↦
      let other : b ≢ c = λ q. cc (eq-eqb b c q, e) in
      subst P (append_assoc part (b ∷ []) bs) (by_cuts c P last next (part ++ b ∷ []) bs (All-push (λ d. d ≢ c) part b h other))
]

-- no part has the byte
pub parts_uncut : (c : ℕ) (text : List ℕ) → All (HasNo c) (parts c text)
parts_uncut c text = by_cuts c (λ t. All (HasNo c) (parts c t))
    (λ part h. subst (All (HasNo c)) (sym (one_part c part h)) (All-cons (HasNo c) part [] h (All-nil (HasNo c))))
    (λ part rest h k. subst (All (HasNo c)) (sym (first_part c part rest h)) (All-cons (HasNo c) part (parts c rest) h k))
    [] text (All-nil (λ b. b ≢ c))

-- what holds before and behind a c, where it holds of the whole, holds of each part
pub parts_all : (c : ℕ) (P : List ℕ → Type 0) → ((a b : List ℕ) → P (a ++ c ∷ b) → P a × P b) → (text : List ℕ) → P text → All P (parts c text)
parts_all c P around text = by_cuts c (λ t. P t → All P (parts c t))
    (λ part h p. subst (All P) (sym (one_part c part h)) (All-cons P part [] p (All-nil P)))
    (λ part rest h k p. let both = around part rest p in subst (All P) (sym (first_part c part rest h)) (All-cons P part (parts c rest) both.0 (k both.1)))
    [] text (All-nil (λ b. b ≢ c))

-- what an ASCII byte ends, and what follows it, is text where the whole is
pub around_ascii : (c : ℕ) → c < 128 → (part rest : List ℕ) → IsUtf8 (part ++ c ∷ rest) → IsUtf8 part × IsUtf8 rest
around_ascii c ascii part rest u =
    let text = part ++ c ∷ rest in
    let within : length part < length text = omega (arith, length-append part (c ∷ rest)) in
    let cut : get_or text (length part) 0 ≡ c = get_or-append_seam part c rest 0 in
    let low : get_or text (length part) 0 < 128 = omega arith in (
      subst IsUtf8 (take-append_seam part (c ∷ rest)) (IsUtf8-take text (length part) u (IsCharBoundary-before_ascii text (length part) within low)),
      subst IsUtf8 (drop-append-add part (c ∷ rest) 1) (IsUtf8-drop text (length part + 1) u (IsCharBoundary-after_ascii text (length part) u within low)),
    )

-- what holds of each byte holds of those before and behind one
pub around_all : (P : ℕ → Type 0) (c : ℕ) (part rest : List ℕ) → All P (part ++ c ∷ rest) → All P part × All P rest
around_all P c [] rest h = (All-nil P, All-tail P c rest h)
around_all P c (b ∷ bs) rest h =
    let both = around_all P c bs rest (All-tail P b (bs ++ c ∷ rest) h) in
    (All-cons P b bs (All-head P b (bs ++ c ∷ rest) h) both.0, both.1)

-- the fields of a line are plain
pub plain : (line : List ℕ) → HasPlainFields line
plain line = record {
  no_bars = parts_uncut 124 line;
  texts = parts_all 124 IsUtf8 (around_ascii 124 (omega arith)) line;
  no_ends = parts_all 124 HasNoEnd (around_all (λ b. b ≢ 10) 124) line;
}

-- parts without c that are joined by c are the parts of their text
pub joined_parts : (c : ℕ) (x : List ℕ) (xs : List (List ℕ)) → All (HasNo c) (x ∷ xs) → parts c (join_with_byte c (x ∷ xs)) ≡ x ∷ xs
joined_parts c x [] h = one_part c x (All-head (HasNo c) x [] h)
joined_parts c x (y ∷ ys) h =
    first_part c x (join_with_byte c (y ∷ ys)) (All-head (HasNo c) x (y ∷ ys) h)
    ∙ ap (λ (ts : List (List ℕ)). x ∷ ts) (joined_parts c y ys (All-tail (HasNo c) x (y ∷ ys) h))

-- what holds of each part, and of two texts with a c between them if of both, holds of their text
pub joined_all : (c : ℕ) (P : List ℕ → Type 0) → ((a b : List ℕ) → P a → P b → P (a ++ c ∷ b)) → (x : List ℕ) (xs : List (List ℕ)) → All P (x ∷ xs) → P (join_with_byte c (x ∷ xs))
joined_all c P join x [] h = All-head P x [] h
joined_all c P join x (y ∷ ys) h = join x (join_with_byte c (y ∷ ys)) (All-head P x (y ∷ ys) h) (joined_all c P join y ys (All-tail P x (y ∷ ys) h))
