-- Texts joined one after another.
use Rattle.std.proofs.Common.{◌≡◌, ◌∙◌, ◌<◌, ◌≤◌, ℕ, zero, suc, cond, ltb, List, [], ◌∷◌, ◌++◌, length, map, take, drop, take_all, get_or, refl, sym, subst, ap, Result, Ok, Err, OnErr, arith, append_assoc}
use Rattle.std.proofs.lemmas.Bool.Decides.{Decides-ltb}
use Rattle.std.proofs.lemmas.List.{take-append-drop}
use Rattle.std.proofs.Math.Seq.{take-append_seam}
use Rattle.std.specs.Io.{StartsWith}
use Rattle.std.specs.List.{join_with_byte}
use Rattle.snb_schema.specs.Columns.{canonical_field}
use Rattle.snb_input_fields.specs.Cells.{value_of}
use Rattle.snb_input_fields.specs.declared.write.Cell.{Cell}
use Rattle.snb_columns.proofs.Laws.{each_itself}

-- the byte c stands before each element but the first
abbrev pub mark_before : ℕ → ℕ → List ℕ
mark_before c i = cond (ltb 0 i) (c ∷ []) []

mark_there : (c i : ℕ) → mark_before c (suc i) ≡ c ∷ []
mark_there c i = ap (λ b. cond b (c ∷ []) []) ((Decides-ltb 0 (suc i)).1 (omega arith))

-- one element more
pub joined_more : {A : Type 0} (c : ℕ) (f : A → List ℕ) → (i : ℕ) (xs : List A) (d : A) → i < length xs
    → join_with_byte c (map f (take (suc i) xs)) ≡ join_with_byte c (map f (take i xs)) ++ mark_before c i ++ f (get_or xs i d)
joined_more c f i [] d l = absurd (omega (arith, l))
joined_more c f zero (x ∷ xs) d l = refl
joined_more c f (suc i) (x ∷ []) d l = absurd (omega (arith, l))
joined_more c f (suc zero) (x ∷ y ∷ xs) d l = sym (append_assoc (f x) (c ∷ []) (f y))
joined_more c f (suc (suc i)) (x ∷ y ∷ xs) d l =
    let joined = join_with_byte c (map f (take (suc i) (y ∷ xs))) in
    let text = f (get_or (y ∷ xs) (suc i) d) in
    let marked : joined ++ mark_before c (suc i) ++ text ≡ joined ++ (c ∷ []) ++ text = ap (λ (t : List ℕ). joined ++ t ++ text) (mark_there c i) in
    let back : (f x ++ c ∷ joined) ++ (c ∷ []) ++ text ≡ (f x ++ c ∷ joined) ++ mark_before c (suc (suc i)) ++ text = ap (λ (t : List ℕ). (f x ++ c ∷ joined) ++ t ++ text) (sym (mark_there c (suc i))) in
    ap (λ (t : List ℕ). f x ++ c ∷ t) (joined_more c f (suc i) (y ∷ xs) d (omega (arith, l)) ∙ marked) ∙ sym (append_assoc (f x) (c ∷ (joined ++ c ∷ [])) text)
    ∙ sym (ap (λ (t : List ℕ). t ++ text) (append_assoc (f x) (c ∷ joined) (c ∷ []))) ∙ back

-- one text more
pub texts_more : (i : ℕ) (xs : List (List ℕ)) (d : List ℕ) → i < length xs → join_with_byte 59 (take (suc i) xs) ≡ join_with_byte 59 (take i xs) ++ mark_before 59 i ++ get_or xs i d
texts_more i xs d l =
    ap (join_with_byte 59) (sym (each_itself (take (suc i) xs))) ∙ joined_more 59 (λ t. t) i xs d l ∙ ap (λ (ts : List (List ℕ)). join_with_byte 59 ts ++ mark_before 59 i ++ get_or xs i d) (each_itself (take i xs))

-- bytes that a mark and a text follow
pub grown : (start joined mark text before marked whole next : List ℕ) → before ≡ start ++ joined → marked ≡ before ++ mark → whole ≡ marked ++ text → next ≡ joined ++ mark ++ text → whole ≡ start ++ next
grown start joined mark text before marked whole next e f g h =
    g ∙ ap (λ (t : List ℕ). t ++ text) (f ∙ ap (λ (t : List ℕ). t ++ mark) e) ∙ append_assoc (start ++ joined) mark text ∙ append_assoc start joined (mark ++ text) ∙ ap (λ (t : List ℕ). start ++ t) (sym (append_assoc joined mark text) ∙ sym h)

-- the values of cells are spelled as the cells' values
each_spelling : (cells : List Cell) → map canonical_field (map value_of cells) ≡ map (λ c. canonical_field (value_of c)) cells
each_spelling [] = refl
each_spelling (c ∷ cells) = ap (λ (ts : List (List ℕ)). canonical_field (value_of c) ∷ ts) (each_spelling cells)

-- one cell more
cells_more : (i : ℕ) (cells : List Cell) (d : Cell) → i < length cells
    → join_with_byte 124 (map canonical_field (map value_of (take (suc i) cells))) ≡ join_with_byte 124 (map canonical_field (map value_of (take i cells))) ++ mark_before 124 i ++ canonical_field (value_of (get_or cells i d))
cells_more i cells d l =
    ap (join_with_byte 124) (each_spelling (take (suc i) cells)) ∙ joined_more 124 (λ c. canonical_field (value_of c)) i cells d l
    ∙ ap (λ (ts : List (List ℕ)). join_with_byte 124 ts ++ mark_before 124 i ++ canonical_field (value_of (get_or cells i d))) (sym (each_spelling (take i cells)))

-- one cell more after the first
pub later_more : (start : List ℕ) (first d : Cell) (later cells : List Cell) (i : ℕ) (before marked whole : List ℕ) → cells ≡ first ∷ later → i < length later
    → before ≡ start ++ join_with_byte 124 (map canonical_field (map value_of (take (suc i) cells))) → marked ≡ before ++ 124 ∷ [] → whole ≡ marked ++ canonical_field (value_of (get_or later i d))
    → whole ≡ start ++ join_with_byte 124 (map canonical_field (map value_of (take (suc (suc i)) cells)))
later_more start first d later cells i before marked whole e l f g h =
    let fields : List Cell → List ℕ = λ cs. join_with_byte 124 (map canonical_field (map value_of cs)) in
    let text = canonical_field (value_of (get_or later i d)) in
    let all = first ∷ later in
    let mark = ap (λ (t : List ℕ). fields (take (suc i) all) ++ t ++ text) (mark_there 124 i) in
    let next : fields (take (suc (suc i)) all) ≡ fields (take (suc i) all) ++ (124 ∷ []) ++ text = cells_more (suc i) all d (omega (arith, l)) ∙ mark in
    subst (λ (cs : List Cell). whole ≡ start ++ fields (take (suc (suc i)) cs)) (sym e)
    (grown start (fields (take (suc i) all)) (124 ∷ []) text before marked whole (fields (take (suc (suc i)) all)) (f ∙ ap (λ (cs : List Cell). start ++ fields (take (suc i) cs)) e) g h next)

-- all cells after the first
pub later_all : (start : List ℕ) (first : Cell) (later cells : List Cell) (i : ℕ) (whole : List ℕ) → cells ≡ first ∷ later → length later ≤ i
    → whole ≡ start ++ join_with_byte 124 (map canonical_field (map value_of (take (suc i) cells))) → whole ≡ start ++ join_with_byte 124 (map canonical_field (map value_of cells))
later_all start first later cells i whole e l h =
    h ∙ ap (λ (cs : List Cell). start ++ join_with_byte 124 (map canonical_field (map value_of cs))) (take_all (suc i) cells (subst (λ (cs : List Cell). length cs ≤ suc i) (sym e) (omega (arith, l))))

-- the bytes that others are appended to are in front
pub front_of : {T E : Type 0} (result : Result T E) (start more new : List ℕ) → new ≡ start ++ more → OnErr result (StartsWith new start)
front_of (Ok x) start more new e = tt
front_of (Err x) start more new e = ap (take (length start)) e ∙ take-append_seam start more

-- also where a mark and more are appended
pub front_within : {T E : Type 0} (result : Result T E) (start joined mark before marked new : List ℕ) → before ≡ start ++ joined → marked ≡ before ++ mark → StartsWith new marked → OnErr result (StartsWith new start)
front_within result start joined mark before marked new e f h =
    let rest = drop (length marked) new in
    front_of result start (joined ++ mark ++ rest) new
    (sym (take-append-drop (length marked) new) ∙ ap (λ (t : List ℕ). t ++ rest) (h ∙ f ∙ ap (λ (t : List ℕ). t ++ mark) e) ∙ append_assoc (start ++ joined) mark rest ∙ append_assoc start joined (mark ++ rest)
    ∙ ap (λ (t : List ℕ). start ++ t) (sym (append_assoc joined mark rest)))
