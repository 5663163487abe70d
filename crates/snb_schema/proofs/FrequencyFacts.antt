-- Facts on texts of frequencies, cut at their colons and commas.
use Rattle.std.proofs.Common.{◌≡◌, ◌≢◌, ◌==◌, ◌∷◌, ◌∙◌, ◌+◌, ◌<◌, [], ℕ, zero, suc, List, refl, sym, ap, subst, false, length, arith, length-append, All, get_or, map, if◌then◌else◌, slice_index, Option, Some, None, MatchOption}
use Rattle.std.proofs.Math.Seq.{get_or-append_seam}
use Rattle.std.proofs.lemmas.Bool.{ne_eqb}
use Rattle.std.proofs.lemmas.List.Elements.{All-nil, All-cons}
use Rattle.std.proofs.lemmas.List.Splits.{slice_split_at, slice_split_none}
use Rattle.std.specs.List.{slice_split, AllByRecursion}
use Rattle.std.specs.List.Sorted.{IsStrictlyIncreasing}
use Rattle.snb_base.specs.Calendar.{IsDigit}
use Rattle.snb_base.proofs.Laws.{one_cut}
use Rattle.snb_base.specs.Spellings.{Num, EachSpells}
use Rattle.snb_schema.specs.Frequencies.{FrequenciesAreOne, FrequencyTable, frequency_at, SpellsFrequency, SpellsFrequencies, HasFrequencies}
use Rattle.snb_schema.specs.FrequencyPieces.{IsCutAtFirst, RisesAfter, SpellsAfter}
use Rattle.snb_schema.specs.Lines.{HasNo}
use Rattle.snb_schema.specs.Queries.{IsComplex}
use Rattle.snb_schema.specs.declared.limits.TheConstants.{MAX_FREQUENCY}

-- digits are no colons
no_colon : (x : List ℕ) → AllByRecursion IsDigit x → HasNo 58 x
no_colon [] h = All-nil (λ b. b ≢ 58)
no_colon (b ∷ bs) h =
    let other : b ≢ 58 = λ e. absurd (let low = h.0 in omega (arith, e)) in
    All-cons (λ b. b ≢ 58) b bs other (no_colon bs h.1)

-- a piece without a colon spells no pair
pub no_pair : (x : List ℕ) → HasNo 58 x → (pair : ℕ × ℕ) → ¬ SpellsFrequency x pair
no_pair x h pair s =
    let within : length s.query < length x = omega (arith, ap length s.splits, length-append s.query (58 ∷ s.frequency)) in
    h (length s.query) 0 within (ap (λ (t : List ℕ). get_or t (length s.query) 0) s.splits ∙ get_or-append_seam s.query 58 s.frequency 0)

-- a piece spells what its parts before and after the colon spell
pub parts_spell : (x before after : List ℕ) (pair : ℕ × ℕ) → IsCutAtFirst 58 x before after → SpellsFrequency x pair → Num before pair.0 MAX_FREQUENCY × Num after pair.1 MAX_FREQUENCY
parts_spell x before after pair h s =
    let same = one_cut 58 before after s.query s.frequency h.first (no_colon s.query s.numbered.digits) (sym h.joined ∙ s.splits) in (
      subst (λ (t : List ℕ). Num t pair.0 MAX_FREQUENCY) (sym same.0) s.numbered,
      subst (λ (t : List ℕ). Num t pair.1 MAX_FREQUENCY) (sym same.1) s.counted,
    )

-- a piece spells one pair
pub one_pair : (x before after : List ℕ) (q f : ℕ) (pair : ℕ × ℕ) → IsCutAtFirst 58 x before after → Num before q MAX_FREQUENCY → Num after f MAX_FREQUENCY → SpellsFrequency x pair → (q ≡ pair.0) × (f ≡ pair.1)
one_pair x before after q f pair h n m s =
    let parts = parts_spell x before after pair h s in
    (n.value ∙ sym parts.0.value, m.value ∙ sym parts.1.value)

pub uncut : (c : ℕ) (x : List ℕ) → HasNo c x → All (λ b. (b == c) ≡ false) x
uncut c x h k d lt = ne_eqb _ c (h k d lt)

-- a text without a comma is one piece
whole : (x : List ℕ) → HasNo 44 x → slice_split (λ b. b == 44) x ≡ x ∷ []
whole x h = slice_split_none (λ b. b == 44) x (uncut 44 x h)

-- the first piece of a text, and the pieces after it
pieces : (x front back : List ℕ) → IsCutAtFirst 44 x front back → slice_split (λ b. b == 44) x ≡ front ∷ slice_split (λ b. b == 44) back
pieces x front back h = ap (slice_split (λ b. b == 44)) h.joined ∙ slice_split_at (λ b. b == 44) front 44 back (uncut 44 front h.first) refl

-- pieces that spell pairs, where they begin with this one
first_spells : (xs : List (List ℕ)) (front : List ℕ) (more : List (List ℕ)) (last : ℕ) (pairs : List (ℕ × ℕ)) → xs ≡ front ∷ more → EachSpells SpellsFrequency xs pairs → RisesAfter last pairs →
    (pair : ℕ × ℕ) × (rest : List (ℕ × ℕ)) × SpellsFrequency front pair × (last < pair.0) × EachSpells SpellsFrequency more rest × RisesAfter pair.0 rest
first_spells [] front more last pairs e s r = absurd (cc)
first_spells (x ∷ xs) front more last [] e s r = absurd s
first_spells (x ∷ xs) front more last (pair ∷ rest) e s r =
    let head : x ≡ front = cc in
    let tail : xs ≡ more = cc in
    (pair, rest, subst (λ (t : List ℕ). SpellsFrequency t pair) head s.0, r.0, subst (λ (ts : List (List ℕ)). EachSpells SpellsFrequency ts rest) tail s.1, r.1)

-- where the one piece spells no pair, the text spells none
pub last_none : (x : List ℕ) (last : ℕ) → HasNo 44 x → ((pair : ℕ × ℕ) → last < pair.0 → ¬ SpellsFrequency x pair) → (pairs : List (ℕ × ℕ)) → ¬ SpellsAfter last x pairs
last_none x last h none pairs s =
    let first = first_spells (slice_split (λ b. b == 44) x) x [] last pairs (whole x h) s.spelled s.rising in
    none first.0 first.3 first.2

-- the one piece's pair
pub last_some : (x : List ℕ) (last : ℕ) (pair : ℕ × ℕ) → HasNo 44 x → SpellsFrequency x pair → last < pair.0 → SpellsAfter last x (pair ∷ [])
last_some x last pair h s above = record {
  spelled = subst (λ (xs : List (List ℕ)). EachSpells SpellsFrequency xs (pair ∷ [])) (sym (whole x h)) (s, tt);
  rising = (above, tt);
}

-- where the first piece spells no pair, the text spells none
pub first_none : (x front back : List ℕ) (last : ℕ) → IsCutAtFirst 44 x front back → ((pair : ℕ × ℕ) → last < pair.0 → ¬ SpellsFrequency front pair) → (pairs : List (ℕ × ℕ)) → ¬ SpellsAfter last x pairs
first_none x front back last h none pairs s =
    let first = first_spells (slice_split (λ b. b == 44) x) front (slice_split (λ b. b == 44) back) last pairs (pieces x front back h) s.spelled s.rising in
    none first.0 first.3 first.2

-- a piece spells one query
one_query : (x : List ℕ) (one other : ℕ × ℕ) → SpellsFrequency x one → SpellsFrequency x other → one.0 ≡ other.0
one_query x one other s t =
    (one_pair x s.query s.frequency one.0 one.1 other (record { first = no_colon s.query s.numbered.digits; joined = s.splits }) s.numbered s.counted t).0

-- where what follows the first piece spells no pairs, the text spells none
pub rest_none : (x front back : List ℕ) (last : ℕ) (pair : ℕ × ℕ) → IsCutAtFirst 44 x front back → SpellsFrequency front pair → ((pairs : List (ℕ × ℕ)) → ¬ SpellsAfter pair.0 back pairs) → (pairs : List (ℕ × ℕ)) → ¬ SpellsAfter last x pairs
rest_none x front back last pair h own none pairs s =
    let first = first_spells (slice_split (λ b. b == 44) x) front (slice_split (λ b. b == 44) back) last pairs (pieces x front back h) s.spelled s.rising in
    let same = one_query front first.0 pair first.2 own in
    none first.1 (record { spelled = first.4; rising = subst (λ (q : ℕ). RisesAfter q first.1) same first.5 })

-- the first piece's pair before those of what follows
pub more_some : (x front back : List ℕ) (last : ℕ) (pair : ℕ × ℕ) (pairs : List (ℕ × ℕ)) → IsCutAtFirst 44 x front back → SpellsFrequency front pair → last < pair.0 → SpellsAfter pair.0 back pairs → SpellsAfter last x (pair ∷ pairs)
more_some x front back last pair pairs h own above s = record {
  spelled = subst (λ (xs : List (List ℕ)). EachSpells SpellsFrequency xs (pair ∷ pairs)) (sym (pieces x front back h)) (own, s.spelled);
  rising = (above, s.rising);
}

-- a table with one more frequency has those of the pairs with one more
pub with_more : (old new : FrequencyTable) (pair : ℕ × ℕ) (pairs : List (ℕ × ℕ)) → HasFrequencies old pairs
    → ((q : ℕ) → frequency_at new q ≡ (if q == pair.0 then pair.1 else frequency_at old q)) → HasFrequencies new (pair ∷ pairs)
with_more old new pair pairs h w q = w q ∙ ap (λ (f : ℕ). if q == pair.0 then pair.1 else f) (h q)

abbrev queries : List (ℕ × ℕ) → List ℕ
queries pairs = map (λ pair. pair.0) pairs

-- what rises in steps rises
steps_rise : (last : ℕ) (pairs : List (ℕ × ℕ)) → RisesAfter last pairs → IsStrictlyIncreasing (queries pairs)
steps_rise last [] h k l = absurd (omega arith)
steps_rise last (pair ∷ []) h k l = absurd (omega arith)
steps_rise last (pair ∷ next ∷ pairs) h zero l = h.1.0
steps_rise last (pair ∷ next ∷ pairs) h (suc k) l =
    let later : suc k + 1 ≡ suc (k + 1) = omega arith in
    subst (λ (j : ℕ). slice_index (queries (next ∷ pairs)) k < slice_index (queries (pair ∷ next ∷ pairs)) j) (sym later) (steps_rise pair.0 (next ∷ pairs) h.1 k (omega arith))

-- what rises from above a number rises in steps
rises_in_steps : (last : ℕ) (pairs : List (ℕ × ℕ)) → ((pair : ℕ × ℕ) (rest : List (ℕ × ℕ)) → pairs ≡ pair ∷ rest → last < pair.0) → IsStrictlyIncreasing (queries pairs) → RisesAfter last pairs
rises_in_steps last [] first h = tt
rises_in_steps last (pair ∷ []) first h = (first pair [] refl, tt)
rises_in_steps last (pair ∷ next ∷ pairs) first h = (
  first pair (next ∷ pairs) refl,
  rises_in_steps pair.0 (next ∷ pairs) (λ p rest e. let here : pair.0 < next.0 = h 0 (omega arith) in let same : next ≡ p = cc in subst (λ (r : ℕ × ℕ). pair.0 < r.0) same here) (λ k l.
      let later : suc k + 1 ≡ suc (k + 1) = omega arith in
      subst (λ (j : ℕ). slice_index (queries (next ∷ pairs)) k < slice_index (queries (pair ∷ next ∷ pairs)) j) later (h (suc k) (omega arith))),
)

complex_above : (q : ℕ) → IsComplex q → 0 < q
complex_above q h = omega (arith, h)

first_above : (xs : List (List ℕ)) (pairs : List (ℕ × ℕ)) → EachSpells SpellsFrequency xs pairs → (pair : ℕ × ℕ) (rest : List (ℕ × ℕ)) → pairs ≡ pair ∷ rest → 0 < pair.0
first_above xs [] s pair rest e = absurd (cc)
first_above [] (p ∷ ps) s pair rest e = absurd s
first_above (x ∷ xs) (p ∷ ps) s pair rest e = let same : p ≡ pair = cc in subst (λ (r : ℕ × ℕ). 0 < r.0) same (complex_above p.0 s.0.complex)

-- what is spelled from above 0 is what is spelled
pub spelled_whole : (x : List ℕ) (pairs : List (ℕ × ℕ)) → SpellsAfter 0 x pairs → SpellsFrequencies x pairs
spelled_whole x pairs s = record { spelled = s.spelled; rising = steps_rise 0 pairs s.rising }

pub spelled_after : (x : List ℕ) (pairs : List (ℕ × ℕ)) → SpellsFrequencies x pairs → SpellsAfter 0 x pairs
spelled_after x pairs s = record { spelled = s.spelled; rising = rises_in_steps 0 pairs (first_above (slice_split (λ b. b == 44) x) pairs s.spelled) s.rising }

-- what is found from above 0 is what is found
pub read_whole : (x : List ℕ) (found : Option FrequencyTable)
    → MatchOption found ((pairs : List (ℕ × ℕ)) → ¬ SpellsAfter 0 x pairs) (λ table. (pairs : List (ℕ × ℕ)) × SpellsAfter 0 x pairs × HasFrequencies table pairs)
    → MatchOption found ((pairs : List (ℕ × ℕ)) → ¬ SpellsFrequencies x pairs) (λ table. (pairs : List (ℕ × ℕ)) × SpellsFrequencies x pairs × HasFrequencies table pairs)
read_whole x None h = λ pairs s. h pairs (spelled_after x pairs s)
read_whole x (Some table) h = (h.0, spelled_whole x h.0 h.1, h.2)

-- a piece spells one pair at most
same_pair : (x : List ℕ) (one other : ℕ × ℕ) → SpellsFrequency x one → SpellsFrequency x other → one ≡ other
same_pair x one other s t =
    let same = one_pair x s.query s.frequency one.0 one.1 other (record { first = no_colon s.query s.numbered.digits; joined = s.splits }) s.numbered s.counted t in
    λ i. (same.0 i, same.1 i)

-- and so do pieces, one after another
same_pairs : (xs : List (List ℕ)) (pairs others : List (ℕ × ℕ)) → EachSpells SpellsFrequency xs pairs → EachSpells SpellsFrequency xs others → pairs ≡ others
same_pairs [] [] [] s t = refl
same_pairs [] [] (b ∷ bs) s t = absurd t
same_pairs [] (a ∷ more) others s t = absurd s
same_pairs (x ∷ xs) [] others s t = absurd s
same_pairs (x ∷ xs) (a ∷ more) [] s t = absurd t
same_pairs (x ∷ xs) (a ∷ more) (b ∷ bs) s t = λ i. same_pair x a b s.0 t.0 i ∷ same_pairs xs more bs s.1 t.1 i

-- a text says one list of frequencies at most
pub frequencies_are_one : FrequenciesAreOne
frequencies_are_one x pairs others s t = same_pairs (slice_split (λ b. b == 44) x) pairs others s.spelled t.spelled
