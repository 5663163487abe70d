-- Facts of texts cut at their line ends.
use Rattle.std.proofs.Common.{◌≡◌, ◌≢◌, ◌==◌, ◌++◌, ◌∷◌, ◌∙◌, ◌⊎◌, ◌+◌, ◌<◌, ◌≤◌, [], ℕ, List, refl, sym, ap, subst, false, append_assoc, inl, inr, suc, length, arith, length-append, length-take, cond, All, zero, get_or, take, drop, true}
use Rattle.std.proofs.lemmas.Bool.{cases_Bool, eqb-true, ne_eqb, eq-eqb}
use Rattle.std.proofs.Math.Seq.{drop-append-add, drop-cons, get_or-append_seam, take-append_seam}
use Rattle.std.proofs.lemmas.Bool.Decides.{Decides-eqb}
use Rattle.std.proofs.lemmas.List.{get_or-drop, get_or-take, length-drop, take-append-drop}
use Rattle.std.proofs.lemmas.List.Elements.{All-from_get_or, All-nil, All-cons, All-head, All-tail}
use Rattle.std.proofs.lemmas.List.Splits.{slice_split_at, slice_split_none, length-slice_split}
use Rattle.std.proofs.lemmas.Str.{IsCharBoundary-after_ascii, IsCharBoundary-before_ascii, IsUtf8-append, IsUtf8-drop, IsUtf8-take}
use Rattle.std.specs.List.{slice_split, onto_first}
use Rattle.std.specs.Str.{IsUtf8}
use Rattle.snb_schema.specs.Lines.{lines}
use Rattle.snb_input_lines.specs.Cut.{IsCutAtEnd, all_but_last, last_lines, last_part, rest_of, whole_lines}
use Rattle.snb_schema.specs.Lines.{HasNoEnd}

-- the test of a byte that ends no line
unended : (line : List ℕ) → HasNoEnd line → All (λ b. (b == 10) ≡ false) line
unended line h k d lt = ne_eqb _ 10 (h k d lt)

first_part : (part : List ℕ) (parts : List (List ℕ)) → 0 < length parts → (all_but_last (part ∷ parts) ≡ part ∷ all_but_last parts) × (last_part (part ∷ parts) ≡ last_part parts)
first_part part [] l = absurd (omega arith)
first_part part (next ∷ parts) l = (refl, refl)

some_part : (text : List ℕ) → 0 < length (slice_split (λ b. b == 10) text)
some_part text = omega (arith, length-slice_split (λ b. b == 10) text)

-- a text without an end has no line that is ended
pub none_whole : (line : List ℕ) → HasNoEnd line → (whole_lines line ≡ []) × (rest_of line ≡ line)
none_whole line h =
    let e = slice_split_none (λ b. b == 10) line (unended line h) in
    (ap all_but_last e, ap last_part e)

-- a line that is ended, and what follows it
pub first_whole : (line rest : List ℕ) → HasNoEnd line → (whole_lines (line ++ 10 ∷ rest) ≡ line ∷ whole_lines rest) × (rest_of (line ++ 10 ∷ rest) ≡ rest_of rest)
first_whole line rest h =
    let e = slice_split_at (λ b. b == 10) line 10 rest (unended line h) refl in
    let f = first_part line (slice_split (λ b. b == 10) rest) (some_part rest) in
    (ap all_but_last e ∙ f.0, ap last_part e ∙ f.1)

-- a text begins with a part that a byte ends
pub record Begins (c : ℕ) (text : List ℕ) : Type 0 where
  pub part : List ℕ
  pub rest : List ℕ
  pub one_part : All (λ b. b ≢ c) part
  pub split : text ≡ part ++ c ∷ rest

first_cut : (c : ℕ) (text : List ℕ) → All (λ b. b ≢ c) text ⊎ Begins c text
first_cut c [] = inl (All-nil (λ b. b ≢ c))
first_cut c (b ∷ bs) = elim (cases_Bool (b == c)) [
  | inl e ↦ inr (record { part = []; rest = bs; one_part = All-nil (λ b. b ≢ c); split = ap (λ (d : ℕ). d ∷ bs) (eqb-true b c e) })
  | inr e ↦
      let other : b ≢ c = λ q. cc (eq-eqb b c q, e) in
      elim (first_cut c bs) [
        | inl none ↦ inl (All-cons (λ b. b ≢ c) b bs other none)
        | inr more ↦ inr (record { part = b ∷ more.part; rest = more.rest; one_part = All-cons (λ b. b ≢ c) b more.part other more.one_part; split = ap (λ (t : List ℕ). b ∷ t) more.split })
      ]
]

-- what holds of a text without the byte, and of a part that it ends and what follows if of what follows, holds of each text
pub by_cuts : (c : ℕ) (P : List ℕ → Type 0) → ((part : List ℕ) → All (λ b. b ≢ c) part → P part) → ((part rest : List ℕ) → All (λ b. b ≢ c) part → P rest → P (part ++ c ∷ rest)) → (text : List ℕ) → P text
by_cuts c P last next text = up_to (suc (length text)) text (omega arith)
  where
    up_to : (n : ℕ) (text : List ℕ) → length text < n → P text
    up_to zero text l = absurd (omega arith)
    up_to (suc n) text l = elim (first_cut c text) [
      | inl none ↦ last text none
      | inr more ↦
          let shorter : length more.rest < n = omega (arith, ap length more.split, length-append more.part (c ∷ more.rest)) in
          subst P (sym more.split) (next more.part more.rest more.one_part (up_to n more.rest shorter))
    ]

-- what follows the last end has no end
pub rest_no_end : (text : List ℕ) → HasNoEnd (rest_of text)
rest_no_end text = by_cuts 10 (λ t. HasNoEnd (rest_of t)) (λ line h. subst HasNoEnd (sym (none_whole line h).1) h) (λ line rest h k. subst HasNoEnd (sym (first_whole line rest h).1) k) text

-- the lines and what follows them are no more than the bytes
pub cut_counts : (text : List ℕ) → length (whole_lines text) + length (rest_of text) ≤ length text
cut_counts text = by_cuts 10 (λ t. length (whole_lines t) + length (rest_of t) ≤ length t)
    (λ line h. let e = none_whole line h in let a = ap length e.0 in let b = ap length e.1 in omega arith)
    (λ line rest h k. let e = first_whole line rest h in let a = ap length e.0 in let b = ap length e.1 in omega (arith, length-append line (10 ∷ rest)))
    text

pub ended : (line rest : List ℕ) → HasNoEnd line → lines (line ++ 10 ∷ rest) ≡ line ∷ lines rest
ended [] rest h = refl
ended (b ∷ bs) rest h =
    let other = ne_eqb b 10 (All-head (λ b. b ≢ 10) b bs h) in
    ap (λ t. cond t ([] ∷ lines (bs ++ 10 ∷ rest)) (onto_first b (lines (bs ++ 10 ∷ rest)))) other ∙ ap (onto_first b) (ended bs rest (All-tail (λ b. b ≢ 10) b bs h))

last_one : (line : List ℕ) → HasNoEnd line → lines line ≡ last_lines line
last_one [] h = refl
last_one (b ∷ []) h = let other = ne_eqb b 10 (All-head (λ b. b ≢ 10) b [] h) in ap (λ t. cond t ([] ∷ []) ((b ∷ []) ∷ [])) other
last_one (b ∷ d ∷ bs) h =
    let other = ne_eqb b 10 (All-head (λ b. b ≢ 10) b (d ∷ bs) h) in
    ap (λ t. cond t ([] ∷ lines (d ∷ bs)) (onto_first b (lines (d ∷ bs)))) other ∙ ap (onto_first b) (last_one (d ∷ bs) (All-tail (λ b. b ≢ 10) b (d ∷ bs) h))

-- no line has an end
pub lines_no_end : (text : List ℕ) → All HasNoEnd (lines text)
lines_no_end text = by_cuts 10 (λ t. All HasNoEnd (lines t))
    (λ line h. subst (All HasNoEnd) (sym (last_one line h)) (at_last line h))
    (λ line rest h k. subst (All HasNoEnd) (sym (ended line rest h)) (All-cons HasNoEnd line (lines rest) h k))
    text
  where
    at_last : (line : List ℕ) → HasNoEnd line → All HasNoEnd (last_lines line)
    at_last [] h = All-nil HasNoEnd
    at_last (b ∷ bs) h = All-cons HasNoEnd (b ∷ bs) [] h (All-nil HasNoEnd)

-- the lines of a file are those that are ended, and what follows the last end where it has a byte
pub lines_whole : (text : List ℕ) → lines text ≡ whole_lines text ++ last_lines (rest_of text)
lines_whole text = by_cuts 10 (λ t. lines t ≡ whole_lines t ++ last_lines (rest_of t))
    (λ line h. let e = none_whole line h in last_one line h ∙ sym (ap (λ (ls : List (List ℕ)). ls ++ last_lines (rest_of line)) e.0 ∙ ap last_lines e.1))
    (λ line rest h k. let e = first_whole line rest h in
    ended line rest h ∙ ap (λ (ls : List (List ℕ)). line ∷ ls) k ∙ sym (ap (λ (ls : List (List ℕ)). ls ++ last_lines (rest_of (line ++ 10 ∷ rest))) e.0 ∙ ap (λ (r : List ℕ). line ∷ (whole_lines rest ++ last_lines r)) e.1))
    text

-- a text may be cut anywhere
pub cut_any : (a b : List ℕ) → (whole_lines (a ++ b) ≡ whole_lines a ++ whole_lines (rest_of a ++ b)) × (rest_of (a ++ b) ≡ rest_of (rest_of a ++ b))
cut_any a b = by_cuts 10 (λ t. (whole_lines (t ++ b) ≡ whole_lines t ++ whole_lines (rest_of t ++ b)) × (rest_of (t ++ b) ≡ rest_of (rest_of t ++ b)))
    (λ line h. let e = none_whole line h in
    (sym (ap (λ (ls : List (List ℕ)). ls ++ whole_lines (rest_of line ++ b)) e.0 ∙ ap (λ (r : List ℕ). whole_lines (r ++ b)) e.1), sym (ap (λ (r : List ℕ). rest_of (r ++ b)) e.1)))
    (λ line rest h k.
    let e = first_whole line rest h in
    let f = first_whole line (rest ++ b) h in
    let t = append_assoc line (10 ∷ rest) b in (
      ap whole_lines t ∙ f.0 ∙ ap (λ (ls : List (List ℕ)). line ∷ ls) k.0
          ∙ sym (ap (λ (ls : List (List ℕ)). ls ++ whole_lines (rest_of (line ++ 10 ∷ rest) ++ b)) e.0 ∙ ap (λ (r : List ℕ). line ∷ (whole_lines rest ++ whole_lines (r ++ b))) e.1),
      ap rest_of t ∙ f.1 ∙ k.1 ∙ sym (ap (λ (r : List ℕ). rest_of (r ++ b)) e.1),
    ))
    a

-- a text has no line end where no byte of it is one
pub none_here : (text : List ℕ) → ((k : ℕ) → 0 ≤ k → k < length text → ¬ ((get_or text k 0 == 10) ≡ true)) → HasNoEnd text
none_here text none = All-from_get_or (λ b. b ≢ 10) text 0 (λ i l e. none i (omega arith) l (rw e refl))

-- it is cut at the first byte that is one
pub cut_here : (text : List ℕ) (k : ℕ) → k < length text → ((i : ℕ) → 0 ≤ i → i < k → ¬ ((get_or text i 0 == 10) ≡ true)) → (get_or text k 0 == 10) ≡ true → IsCutAtEnd text (take k text) (drop k text)
cut_here text k l none is =
    let byte : get_or text k 0 ≡ 10 = grind (arith, Decides-eqb (get_or text k 0) 10) in
    let back : drop k text ≡ 10 ∷ drop (suc k) text = drop-cons text k 0 l ∙ ap (λ (b : ℕ). b ∷ drop (suc k) text) byte in
    record {
      rest = drop (suc k) text;
      one_line = All-from_get_or (λ b. b ≢ 10) (take k text) 0 (λ i m e. let at : i < k = omega (arith, m, length-take k text) in none i (omega arith) at (rw (sym (get_or-take k text i 0 at) ∙ e) refl));
      ends = back;
      joined = sym (take-append-drop k text) ∙ ap (λ (xs : List ℕ). take k text ++ xs) back;
    }

-- and at the last byte that is one
pub cut_last : (text : List ℕ) (k : ℕ) → k < length text → ((i : ℕ) → k + 1 ≤ i → i < length text → ¬ ((get_or text i 0 == 10) ≡ true)) → (get_or text k 0 == 10) ≡ true
    → HasNoEnd (drop (suc k) text) × (text ≡ take k text ++ 10 ∷ drop (suc k) text)
cut_last text k l none is =
    let byte : get_or text k 0 ≡ 10 = grind (arith, Decides-eqb (get_or text k 0) 10) in
    let back : drop k text ≡ 10 ∷ drop (suc k) text = drop-cons text k 0 l ∙ ap (λ (b : ℕ). b ∷ drop (suc k) text) byte in (
      All-from_get_or (λ b. b ≢ 10) (drop (suc k) text) 0 (λ i m e.
          let at : suc k + i < length text = omega (arith, m, length-drop (suc k) text) in
          none (suc k + i) (omega arith) at (rw (sym (get_or-drop (suc k) text i 0) ∙ e) refl)),
      sym (take-append-drop k text) ∙ ap (λ (xs : List ℕ). take k text ++ xs) back,
    )

-- what a byte of ASCII ends, and what follows it, is text where the whole is
pub around_byte : (c : ℕ) (part rest : List ℕ) → c < 128 → IsUtf8 (part ++ c ∷ rest) → IsUtf8 part × IsUtf8 rest
around_byte c part rest ascii u =
    let text = part ++ c ∷ rest in
    let within : length part < length text = omega (arith, length-append part (c ∷ rest)) in
    let byte : get_or text (length part) 0 ≡ c = get_or-append_seam part c rest 0 in
    let low : get_or text (length part) 0 < 128 = omega arith in (
      subst IsUtf8 (take-append_seam part (c ∷ rest)) (IsUtf8-take text (length part) u (IsCharBoundary-before_ascii text (length part) within low)),
      subst IsUtf8 (drop-append-add part (c ∷ rest) 1) (IsUtf8-drop text (length part + 1) u (IsCharBoundary-after_ascii text (length part) u within low)),
    )

-- each line that is ended is text, where what comes before the last end is
lines_text : (front rest : List ℕ) → HasNoEnd rest → IsUtf8 front → All IsUtf8 (whole_lines (front ++ 10 ∷ rest))
lines_text front rest h = by_cuts 10 (λ t. IsUtf8 t → All IsUtf8 (whole_lines (t ++ 10 ∷ rest)))
    (λ line k u. subst (All IsUtf8) (sym ((first_whole line rest k).0 ∙ ap (λ (ls : List (List ℕ)). line ∷ ls) (none_whole rest h).0)) (All-cons IsUtf8 line [] u (All-nil IsUtf8)))
    (λ line more k later u.
    let both = around_byte 10 line more (omega arith) u in
    subst (All IsUtf8) (sym (ap whole_lines (append_assoc line (10 ∷ more) (10 ∷ rest)) ∙ (first_whole line (more ++ 10 ∷ rest) k).0)) (All-cons IsUtf8 line (whole_lines (more ++ 10 ∷ rest)) both.0 (later both.1)))
    front

-- so it is in a text in two parts, of which the second has the last end at this place
pub lines_known : (front back : List ℕ) (k : ℕ) → k < length back → ((i : ℕ) → k + 1 ≤ i → i < length back → ¬ ((get_or back i 0 == 10) ≡ true)) → (get_or back k 0 == 10) ≡ true
    → IsUtf8 front → IsUtf8 (take k back) → All IsUtf8 (whole_lines (front ++ back))
lines_known front back k l none is u v =
    let cut = cut_last back k l none is in
    let joined = append_assoc front (take k back) (10 ∷ drop (suc k) back) ∙ ap (λ (xs : List ℕ). front ++ xs) (sym cut.1) in
    subst (λ (t : List ℕ). All IsUtf8 (whole_lines t)) joined (lines_text (front ++ take k back) (drop (suc k) back) cut.0 (IsUtf8-append front (take k back) u v))

-- the first of the lines that are ended is text, and so are the others
pub first_text : (text line back : List ℕ) → (cut : IsCutAtEnd text line back) → All IsUtf8 (whole_lines text) → IsUtf8 line × All IsUtf8 (whole_lines cut.rest)
first_text text line back cut all =
    let each = subst (All IsUtf8) (ap whole_lines cut.joined ∙ (first_whole line cut.rest cut.one_line).0) all in
    (All-head IsUtf8 line (whole_lines cut.rest) each, All-tail IsUtf8 line (whole_lines cut.rest) each)
