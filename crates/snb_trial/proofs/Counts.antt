-- How many lines the lanes have.
use Rattle.std.proofs.Common.{◌≡◌, ◌∷◌, ℕ, zero, suc, ◌+◌, ◌*◌, ◌%◌, ◌<◌, ◌≤◌, Bool, true, false, List, [], length, refl, ap, arith, length-append}
use Rattle.std.specs.Prelude.{◌==◌, if◌then◌else◌}
use Rattle.std.specs.List.{flat_map, range_with_len}
use Rattle.snb_schema.specs.LineLanes.{update_count}
use Rattle.snb_trial.specs.Trial.{TrialInsert, comment, forum, forum_lane, lane, lanes, like, membership, person_lane, post}
use Rattle.snb_trial.proofs.Numbered.{length-lines}

-- the updates of each i of a range
abbrev spread : (ℕ → List TrialInsert) → ℕ → ℕ → List TrialInsert
spread of a n = flat_map of (range_with_len a n)

persons_count : (k a n : ℕ) → length (spread (person_lane k) a n) ≡ n
persons_count k a zero = refl
persons_count k a (suc n) = ap suc (persons_count k (a + 1) n)

-- of three forum lanes one has the five of an i
abbrev five_at : ℕ → ℕ → ℕ → ℕ
five_at i r k = length (if r == k then forum i ∷ membership i ∷ post i ∷ comment i ∷ like i ∷ [] else [])

five_by : (i r : ℕ) → r < 3 → five_at i r 0 + five_at i r 1 + five_at i r 2 ≡ 5
five_by i zero lt = refl
five_by i (suc zero) lt = refl
five_by i (suc (suc zero)) lt = refl
five_by i (suc (suc (suc r))) lt = absurd (omega (arith, lt))

five : (i : ℕ) → length (forum_lane 0 i) + length (forum_lane 1 i) + length (forum_lane 2 i) ≡ 5
five i = five_by i (i % 3) (omega arith)

forums_count : (a n : ℕ) → length (spread (forum_lane 0) a n) + length (spread (forum_lane 1) a n) + length (spread (forum_lane 2) a n) ≡ 5 * n
forums_count a zero = refl
forums_count a (suc n) =
    let one = length-append (forum_lane 0 a) (spread (forum_lane 0) (a + 1) n) in
    let two = length-append (forum_lane 1 a) (spread (forum_lane 1) (a + 1) n) in
    let three = length-append (forum_lane 2 a) (spread (forum_lane 2) (a + 1) n) in
    let rest = forums_count (a + 1) n in
    let here = five a in
    omega (arith, one, two, three, rest, here)

pub seven_of_each : (n : ℕ) → update_count (lanes n) ≡ 7 * n
seven_of_each n =
    let a = length-lines 1 (spread (person_lane 0) 1 n) in
    let b = length-lines 1 (spread (person_lane 1) 1 n) in
    let c = length-lines 1 (spread (forum_lane 0) 1 n) in
    let d = length-lines 1 (spread (forum_lane 1) 1 n) in
    let e = length-lines 1 (spread (forum_lane 2) 1 n) in
    let p = persons_count 0 1 n in
    let q = persons_count 1 1 n in
    let f = forums_count 1 n in
    omega (arith, a, b, c, d, e, p, q, f)

-- ---- no lane is long

pub persons_few : (k n : ℕ) → length (lane (person_lane k) n) ≤ 5 * n
persons_few k n = (let size = length-lines 1 (spread (person_lane k) 1 n) in let all = persons_count k 1 n in omega (arith, size, all))

at_most_five : (k i : ℕ) → length (forum_lane k i) ≤ 5
at_most_five k i = by (i % 3 == k)
  where
    by : (b : Bool) → length (if b then forum i ∷ membership i ∷ post i ∷ comment i ∷ like i ∷ [] else []) ≤ 5
    by true = omega arith
    by false = omega arith

spread_few : (k a n : ℕ) → length (spread (forum_lane k) a n) ≤ 5 * n
spread_few k a zero = omega arith
spread_few k a (suc n) =
    let here = at_most_five k a in
    let rest = spread_few k (a + 1) n in
    omega (arith, here, rest, length-append (forum_lane k a) (spread (forum_lane k) (a + 1) n))

pub forums_few : (k n : ℕ) → length (lane (forum_lane k) n) ≤ 5 * n
forums_few k n = (let size = length-lines 1 (spread (forum_lane k) 1 n) in let all = spread_few k 1 n in omega (arith, size, all))
