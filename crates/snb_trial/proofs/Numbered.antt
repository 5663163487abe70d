-- The lines of a lane, and the updates that they are.
use Rattle.std.proofs.Common.{◌≡◌, ◌∷◌, ◌++◌, ◌∙◌, ℕ, suc, ◌+◌, ◌*◌, ◌<◌, ◌≤◌, List, [], length, get_or, inl, inr, sym, ap, subst, arith, add-one, add-zero, append-nil, append_assoc, zero}
use Rattle.std.specs.List.{AllPairs, Contains, enumerate_from, flat_map, range_with_len}
use Rattle.std.proofs.lemmas.List.{get_or-map, length-map}
use Rattle.std.proofs.lemmas.List.FromFn.{get_or-enumerate_from, length-enumerate_from}
use Rattle.snb_base.proofs.Laws.{contains_cases, contains_here, contains_there, none_in}
use Rattle.snb_schema.specs.declared.op.Line.{Line}
use Rattle.snb_trial.specs.Trial.{TrialInsert, lane, trial_line, lines_from}
use Rattle.snb_trial.proofs.Elements.{range_in_order}

-- ---- numbered lines

pub length-lines : (first : ℕ) (es : List TrialInsert) → length (lines_from first es) ≡ length es
length-lines first es = length-map (enumerate_from first es) trial_line ∙ length-enumerate_from first es

-- a line is an update with a number
pub line_entry : (first : ℕ) (es : List TrialInsert) (x : Line) → Contains (lines_from first es) x → (e : TrialInsert) × (number : ℕ) × Contains es e × (trial_line (number, e) ≡ x)
line_entry first [] x c = absurd (none_in x c)
line_entry first (e ∷ es) x c =
    elim (contains_cases (trial_line (first, e)) (lines_from (first + 1) es) x c) [
      | inl same ↦ (e, first, contains_here e es, same)
      | inr rest ↦ let w = line_entry (first + 1) es x rest in (w.0, w.1, contains_there e es w.0 w.2, w.3)
    ]

-- and each update has its line
pub entry_line : (first : ℕ) (es : List TrialInsert) (e : TrialInsert) → Contains es e → (number : ℕ) × Contains (lines_from first es) (trial_line (number, e))
entry_line first [] e c = absurd (none_in e c)
entry_line first (d ∷ es) e c =
    elim (contains_cases d es e c) [
      | inl same ↦ (first, subst (λ (w : TrialInsert). Contains (lines_from first (d ∷ es)) (trial_line (first, w))) same (contains_here (trial_line (first, d)) (lines_from (first + 1) es)))
      | inr rest ↦ let w = entry_line (first + 1) es e rest in (w.0, contains_there (trial_line (first, d)) (lines_from (first + 1) es) (trial_line (w.0, e)) w.1)
    ]

-- more updates have the next numbers
pub lines_more : (first : ℕ) (es fs : List TrialInsert) → lines_from first (es ++ fs) ≡ lines_from first es ++ lines_from (first + length es) fs
lines_more first [] fs = ap (λ (k : ℕ). lines_from k fs) (sym (add-zero first))
lines_more first (e ∷ es) fs =
    ap (λ (xs : List Line). trial_line (first, e) ∷ xs)
    (lines_more (first + 1) es fs ∙ ap (λ (k : ℕ). lines_from (first + 1) es ++ lines_from k fs) (let e : first + 1 + length es ≡ first + suc (length es) = omega arith in e))

-- ---- lines in order

-- the one is before the other
abbrev pub Sooner : TrialInsert → TrialInsert → Type 0
Sooner x y = x.t < y.t

abbrev pub Rises : Line → Line → Type 0
Rises x y = x.t < y.t

as_entry : Line → TrialInsert
as_entry x = record { t = x.t; t_d = x.t_d; op = x.op }

line_at : (first : ℕ) (es : List TrialInsert) (i : ℕ) (d : Line) → i < length es → get_or (lines_from first es) i d ≡ trial_line (first + i, get_or es i (as_entry d))
line_at first es i d lt =
    get_or-map trial_line (enumerate_from first es) i (0, as_entry d) d (omega (arith, lt, length-enumerate_from first es))
    ∙ ap trial_line (get_or-enumerate_from first es i (0, as_entry d) lt)

pub lines_rise : (first : ℕ) (es : List TrialInsert) → AllPairs Sooner es → AllPairs Rises (lines_from first es)
lines_rise first es pairs i j d below lt =
    let size = length-lines first es in
    let within : j < length es = omega (arith, lt, size) in
    let one = ap (λ (x : Line). x.t) (line_at first es i d (omega (arith, below, within))) in
    let other = ap (λ (x : Line). x.t) (line_at first es j d within) in
    let less = pairs i j (as_entry d) below within in
    omega (arith, one, other, less)

-- ---- lanes of updates of each i

-- the updates of each i are in order, and less than a second after 1000 i
pub record AreTimed (of : ℕ → List TrialInsert) : Type 0 where
  pub rise : (i : ℕ) → AllPairs Sooner (of i)
  pub within : (i : ℕ) (e : TrialInsert) → Contains (of i) e → (1000 * i ≤ e.t) × (e.t < 1000 * i + 1000)

pub lane_rises : (of : ℕ → List TrialInsert) (n : ℕ) → AreTimed of → AllPairs Rises (lane of n)
lane_rises of n timed =
    lines_rise 1 (flat_map of (range_with_len 1 n))
    (range_in_order Sooner of timed.rise
    (λ i j x y lt c d. let a = timed.within i x c in let b = timed.within j y d in let high = a.1 in let low = b.0 in omega (arith, lt, high, low)) 1 n)

-- ---- lanes that grow

-- the updates of one number more
spread_more : (of : ℕ → List TrialInsert) (a n i : ℕ) → i ≡ a + n → flat_map of (range_with_len a (suc n)) ≡ flat_map of (range_with_len a n) ++ of i
spread_more of a zero i e = append-nil (of a) ∙ ap of (let same : a ≡ i = omega (arith, e) in same)
spread_more of a (suc n) i e =
    ap (λ (es : List TrialInsert). of a ++ es) (spread_more of (a + 1) n i (omega (arith, e))) ∙ sym (append_assoc (of a) (flat_map of (range_with_len (a + 1) n)) (of i))

-- a lane with the updates of one number more
pub lane_more : (of : ℕ → List TrialInsert) (n i : ℕ) → i ≡ n + 1 → lane of (n + 1) ≡ lane of n ++ lines_from (length (lane of n) + 1) (of i)
lane_more of n i e =
    ap (λ (k : ℕ). lane of k) (add-one n)
    ∙ ap (λ (es : List TrialInsert). lines_from 1 es) (spread_more of 1 n i (omega (arith, e)))
    ∙ lines_more 1 (flat_map of (range_with_len 1 n)) (of i)
    ∙ ap (λ (k : ℕ). lane of n ++ lines_from k (of i))
    (let size = length-lines 1 (flat_map of (range_with_len 1 n)) in let e : 1 + length (flat_map of (range_with_len 1 n)) ≡ length (lane of n) + 1 = omega (arith, size) in e)

-- so does a list of lines that is the lane
pub lane_grows : (of : ℕ → List TrialInsert) (n i : ℕ) (xs ys : List Line) → i ≡ n + 1 → xs ≡ lane of n → ys ≡ xs ++ lines_from (length xs + 1) (of i) → ys ≡ lane of (n + 1)
lane_grows of n i xs ys e is more = more ∙ ap (λ (zs : List Line). zs ++ lines_from (length zs + 1) (of i)) is ∙ sym (lane_more of n i e)

-- ---- five lines

push_on : (xs es ys zs : List Line) (x : Line) → ys ≡ xs ++ es → zs ≡ ys ++ x ∷ [] → zs ≡ xs ++ (es ++ x ∷ [])
push_on xs es ys zs x p q = q ∙ ap (λ (w : List Line). w ++ x ∷ []) p ∙ append_assoc xs es (x ∷ [])

-- lines that are pushed one after another, each with the next number
pub five_pushed : (a b c d e : TrialInsert) (first : ℕ) (xs ya yb yc yd ye : List Line) (la lb lc ld le : Line) → first ≡ length xs + 1
    → la ≡ trial_line (first, a) → lb ≡ trial_line (first + 1, b) → lc ≡ trial_line (first + 2, c) → ld ≡ trial_line (first + 3, d) → le ≡ trial_line (first + 4, e)
    → ya ≡ xs ++ la ∷ [] → yb ≡ ya ++ lb ∷ [] → yc ≡ yb ++ lc ∷ [] → yd ≡ yc ++ ld ∷ [] → ye ≡ yd ++ le ∷ []
    → ye ≡ xs ++ lines_from (length xs + 1) (a ∷ b ∷ c ∷ d ∷ e ∷ [])
five_pushed a b c d e first xs ya yb yc yd ye la lb lc ld le is sa sb sc sd se pa pb pc pd pe =
    push_on xs (la ∷ lb ∷ lc ∷ ld ∷ []) yd ye le
    (push_on xs (la ∷ lb ∷ lc ∷ []) yc yd ld (push_on xs (la ∷ lb ∷ []) yb yc lc (push_on xs (la ∷ []) ya yb lb pa pb) pc) pd) pe
    ∙ (λ i. xs ++ sa i ∷ sb i ∷ sc i ∷ sd i ∷ se i ∷ [])
    ∙ (λ i. xs ++ trial_line (first, a) ∷ trial_line (first + 1, b) ∷ trial_line (two i, c) ∷ trial_line (three i, d) ∷ trial_line (four i, e) ∷ [])
    ∙ ap (λ (k : ℕ). xs ++ lines_from k (a ∷ b ∷ c ∷ d ∷ e ∷ [])) is
  where
    two : first + 2 ≡ first + 1 + 1
    two = omega arith

    three : first + 3 ≡ first + 1 + 1 + 1
    three = omega arith

    four : first + 4 ≡ first + 1 + 1 + 1 + 1
    four = omega arith
