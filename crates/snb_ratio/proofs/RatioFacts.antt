-- What stands on each side of a ratio's point, and that a ratio's text has one value.
use Rattle.std.proofs.Common.{◌≡◌, ◌≢◌, ◌<◌, ◌≤◌, ◌+◌, ◌-◌, ◌*◌, ◌^◌, ◌++◌, ◌∷◌, [], ℕ, List, Option, Some, None, Bor, length, refl, sym, ◌∙◌, inl, inr, lit<, arith}
use Rattle.std.proofs.Math.Nat.{pow-le-pow_right}
use Rattle.std.proofs.lemmas.Nat.{mul-le}
use Rattle.std.proofs.lemmas.Str.Parse.{digits_value_short}
use Rattle.std.specs.Option.{MatchOption}
use Rattle.std.specs.List.{AllByRecursion}
use Rattle.snb_base.specs.Calendar.{IsDigit}
use Rattle.snb_base.specs.Spellings.{Num, value_after}
use Rattle.snb_base.proofs.Laws.{own_digits}
use Rattle.snb_ratio.specs.Ratios.{SpellsMillionths, SpellsPart}

-- no point is in the text
abbrev pub HasNoPoint : List ℕ → Type 0
HasNoPoint x = AllByRecursion (λ b. b ≢ 46) x

digits_pointless : (x : List ℕ) → AllByRecursion IsDigit x → HasNoPoint x
digits_pointless [] digits = tt
digits_pointless (b ∷ bs) digits = let low = digits.0 in (λ same. absurd (omega arith), digits_pointless bs digits.1)

-- a text is cut at its first point in one way
one_cut : (a b c d : List ℕ) → HasNoPoint a → HasNoPoint c → a ++ 46 ∷ b ≡ c ++ 46 ∷ d → (a ≡ c) × (b ≡ d)
one_cut [] b [] d p q e = (refl, cc)
one_cut [] b (y ∷ c) d p q e = absurd (q.0 cc)
one_cut (x ∷ a) b [] d p q e = absurd (p.0 cc)
one_cut (x ∷ a) b (y ∷ c) d p q e = let rest = one_cut a b c d p.1 q.1 cc in let same : x ≡ y = cc in (cc, rest.1)

-- and not at all where it has none
no_cut : (a b c : List ℕ) → HasNoPoint c → a ++ 46 ∷ b ≢ c
no_cut [] b [] q e = absurd cc
no_cut [] b (y ∷ c) q e = q.0 cc
no_cut (x ∷ a) b [] q e = absurd cc
no_cut (x ∷ a) b (y ∷ c) q e = no_cut a b c q.1 cc

-- a text without a point is a whole number
pub whole_alone : (x whole : List ℕ) (n : ℕ) → HasNoPoint whole → x ≡ whole → SpellsMillionths x n → (units : ℕ) × Num whole units 9999 × (n ≡ 1000000 * units)
whole_alone x whole n bare e s =
    let (w, units, num, cases) = s in
    elim cases [
      | inl only ↦ (units, rw (sym only.0 ∙ e) at num, only.1)
      | inr more ↦ let (part, rest, q, p, v) = more in absurd (no_cut w part whole bare (sym q ∙ e))
    ]

-- a text with a point is a whole number before it and a part after it
pub whole_and_part : (x whole part : List ℕ) (n : ℕ) → HasNoPoint whole → x ≡ whole ++ 46 ∷ part → SpellsMillionths x n
    → (units : ℕ) × Num whole units 9999 × ((rest : ℕ) × SpellsPart part rest × (n ≡ 1000000 * units + rest))
whole_and_part x whole part n bare e s =
    let (w, units, num, cases) = s in
    elim cases [
      | inl only ↦ absurd (no_cut whole part w (digits_pointless w num.digits) (sym e ∙ only.0))
      | inr more ↦
          let (p, rest, q, spelled, v) = more in
          let same = one_cut w p whole part (digits_pointless w num.digits) bare (sym q ∙ e) in
          (units, rw same.0 at num, (rest, rw same.1 at spelled, v))
    ]

same_number : (x : List ℕ) (m n : ℕ) → Num x m 9999 → Num x n 9999 → m ≡ n
same_number x m n a b = a.value ∙ sym b.value

same_part : (x : List ℕ) (m n : ℕ) → SpellsPart x m → SpellsPart x n → m ≡ n
same_part x m n a b = a.value ∙ sym b.value

-- before a point or the end stands a whole number
pub whole_first : (x whole : List ℕ) (part : Option (Bor (List ℕ))) (n : ℕ) → HasNoPoint whole
    → MatchOption part (x ≡ whole) (λ p. x ≡ whole ++ 46 ∷ p.now) → SpellsMillionths x n → (units : ℕ) × Num whole units 9999
whole_first x whole None n bare e s = let (units, num, _) = whole_alone x whole n bare e s in (units, num)
whole_first x whole (Some p) n bare e s = let (units, num, _) = whole_and_part x whole p.now n bare e s in (units, num)

-- a part is small
pub part_small : (x : List ℕ) (n : ℕ) → SpellsPart x n → n ≤ 10 ^ 12
part_small x n s =
    let below : value_after 0 x < 10 ^ 6 = digits_value_short own_digits x 6 s.digits s.few in
    let scale : 10 ^ (6 - length x) ≤ 10 ^ 6 = pow-le-pow_right {n = 10} (lit< tt) {i = 6 - length x} {j = 6} (omega arith) in
    rw s.value (mul-le (value_after 0 x) (10 ^ (6 - length x)) (10 ^ 6) (10 ^ 6) (omega arith) scale)

-- a text spells one number of millionths
pub one_value : (x : List ℕ) (m n : ℕ) → SpellsMillionths x m → SpellsMillionths x n → m ≡ n
one_value x m n a b =
    let (w, units, num, cases) = a in
    let bare = digits_pointless w num.digits in
    elim cases [
      | inl only ↦
          let (others, count, v) = whole_alone x w n bare only.0 b in
          let same : units ≡ others = same_number w units others num count in
          omega (arith, only.1, v)
      | inr more ↦
          let (part, rest, q, spelled, v) = more in
          let (others, count, (left, read, u)) = whole_and_part x w part n bare q b in
          let same : units ≡ others = same_number w units others num count in
          let alike : rest ≡ left = same_part part rest left spelled read in
          omega (arith, v, u)
    ]
