-- The fields of a text are texts, and those of a line have no bars and line ends.
use Rattle.std.proofs.Common.{◌≡◌, ◌≢◌, ◌∙◌, ◌==◌, ◌++◌, ◌∷◌, [], ℕ, List, refl, sym, ap, subst, false, arith, All, append_assoc}
use Rattle.std.proofs.lemmas.Bool.{ne_eqb}
use Rattle.std.proofs.lemmas.List.Elements.{All-cons, All-head, All-nil, All-tail}
use Rattle.std.proofs.lemmas.List.Splits.{slice_split_at, slice_split_none}
use Rattle.std.specs.Str.{IsUtf8}
use Rattle.snb_schema.specs.Lines.{HasNoBar, HasNoEnd, fields}
use Rattle.snb_schema.specs.TableRows.{IsFieldText}
use Rattle.snb_input_lines.proofs.CutFacts.{around_byte, by_cuts}

unbarred : (part : List ℕ) → All (λ b. b ≢ 124) part → All (λ b. (b == 124) ≡ false) part
unbarred part h k d lt = ne_eqb _ 124 (h k d lt)

pub fields_text : (line : List ℕ) → IsUtf8 line → All IsUtf8 (fields line)
fields_text line = by_cuts 124 (λ t. IsUtf8 t → All IsUtf8 (fields t))
    (λ part h u. subst (All IsUtf8) (sym (slice_split_none (λ b. b == 124) part (unbarred part h))) (All-cons IsUtf8 part [] u (All-nil IsUtf8)))
    (λ part rest h k u.
    let both = around_byte 124 part rest (omega arith) u in
    subst (All IsUtf8) (sym (slice_split_at (λ b. b == 124) part 124 rest (unbarred part h) refl)) (All-cons IsUtf8 part (fields rest) both.0 (k both.1)))
    line

-- what stands before and behind a bar has no line end where the whole has none
around_line : (part rest : List ℕ) → HasNoEnd (part ++ 124 ∷ rest) → HasNoEnd part × HasNoEnd rest
around_line [] rest h = (All-nil (λ b. b ≢ 10), All-tail (λ b. b ≢ 10) 124 rest h)
around_line (b ∷ bs) rest h =
    let both = around_line bs rest (All-tail (λ d. d ≢ 10) b (bs ++ 124 ∷ rest) h) in
    (All-cons (λ d. d ≢ 10) b bs (All-head (λ d. d ≢ 10) b (bs ++ 124 ∷ rest) h) both.0, both.1)

-- the fields of a line that is a text are texts of fields
pub fields_plain : (line : List ℕ) → IsUtf8 line → HasNoEnd line → All IsFieldText (fields line)
fields_plain line = by_cuts 124 (λ t. IsUtf8 t → HasNoEnd t → All IsFieldText (fields t))
    (λ part h u e. subst (All IsFieldText) (sym (slice_split_none (λ b. b == 124) part (unbarred part h))) (All-cons IsFieldText part [] (record { utf8 = u; no_bar = h; one_line = e }) (All-nil IsFieldText)))
    (λ part rest h k u e.
    let texts = around_byte 124 part rest (omega arith) u in
    let ends = around_line part rest e in
    subst (All IsFieldText) (sym (slice_split_at (λ b. b == 124) part 124 rest (unbarred part h) refl)) (All-cons IsFieldText part (fields rest) (record { utf8 = texts.0; no_bar = h; one_line = ends.0 }) (k texts.1 ends.1)))
    line

-- the fields of a text with a bar are the part before it and those of the part behind it
fields_at_bar : (text part rest : List ℕ) → text ≡ part ++ 124 ∷ rest → HasNoBar part → fields text ≡ part ∷ fields rest
fields_at_bar text part rest is plain = ap fields is ∙ slice_split_at (λ b. b == 124) part 124 rest (unbarred part plain) refl

-- one more of the fields of a line
pub next_split : (line text part rest partial : List ℕ) (old new : List (List ℕ)) → fields line ≡ old ++ fields text → partial ≡ [] → text ≡ part ++ 124 ∷ rest → HasNoBar part → new ≡ old ++ ((partial ++ part) ∷ [])
    → fields line ≡ new ++ fields rest
next_split line text part rest partial old new split empty is plain added =
    split ∙ (ap (λ (x : List (List ℕ)). old ++ x) (fields_at_bar text part rest is plain) ∙ (sym (append_assoc old (part ∷ []) (fields rest))
    ∙ ap (λ (x : List (List ℕ)). x ++ fields rest) (ap (λ (p : List ℕ). old ++ ((p ++ part) ∷ [])) (sym empty) ∙ sym added)))

-- and the last one
pub last_split : (line text partial : List ℕ) (old new : List (List ℕ)) → fields line ≡ old ++ fields text → partial ≡ [] → HasNoBar text → new ≡ old ++ ((partial ++ text) ∷ []) → new ≡ fields line
last_split line text partial old new split empty plain added =
    added ∙ (ap (λ (p : List ℕ). old ++ ((p ++ text) ∷ [])) empty ∙ (ap (λ (x : List (List ℕ)). old ++ x) (sym (slice_split_none (λ b. b == 124) text (unbarred text plain))) ∙ sym split))
