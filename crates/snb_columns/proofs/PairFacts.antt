-- An id and a year with a comma between them.
use Rattle.std.proofs.Common.{◌≡◌, ◌≢◌, ◌++◌, ◌∷◌, ◌∙◌, ◌&&◌, [], ℕ, List, Bool, true, false, refl, sym, subst, arith, nat_eq, not, inl, inr, All}
use Rattle.std.proofs.lemmas.Bool.{and_from, and_parts, cases_Bool, eq-eqb, eqb-false, eqb-true, not-true, not_from_false}
use Rattle.std.proofs.lemmas.List.Elements.{All-head, All-tail}
use Rattle.std.proofs.lemmas.List.Folds.{list_any_at}
use Rattle.std.specs.List.{Contains, list_any}
use Rattle.snb_base.specs.Spellings.{HasOneYear, Listed, Num, PairList, SpellsPair, last_id, pair_eq}
use Rattle.snb_schema.specs.Lines.{HasNo}
use Rattle.snb_columns.proofs.CutFacts.{all_digits}
use Rattle.snb_columns.proofs.ListFacts.{one_listed}
use Rattle.snb_base.proofs.Laws.{from_any}

-- a text spells one number at most
abbrev pub OneNumber : Type 0
OneNumber = (x : List ℕ) (m n most others : ℕ) → Num x m most → Num x n others → m ≡ n

-- two texts before a first comma that are parts of one text are equal, and so are those behind
one_comma : (a b c d : List ℕ) → HasNo 44 a → HasNo 44 c → a ++ 44 ∷ b ≡ c ++ 44 ∷ d → (a ≡ c) × (b ≡ d)
one_comma [] b [] d h k e = (refl, cc)
one_comma [] b (y ∷ c) d h k e = (let same : y ≡ 44 = cc in absurd (All-head (λ z. z ≢ 44) y c k same))
one_comma (x ∷ a) b [] d h k e = (let same : x ≡ 44 = cc in absurd (All-head (λ z. z ≢ 44) x a h same))
one_comma (x ∷ a) b (y ∷ c) d h k e =
    let tails : a ++ 44 ∷ b ≡ c ++ 44 ∷ d = cc in
    let both = one_comma a b c d (All-tail (λ z. z ≢ 44) x a h) (All-tail (λ z. z ≢ 44) y c k) tails in
    let one = both.0 in ((let heads : x ≡ y = cc in cc), both.1)

-- a number has no comma
number_comma : (x : List ℕ) (n most : ℕ) → Num x n most → HasNo 44 x
number_comma x n most s = all_digits (λ b. b ≢ 44) (λ b d. omega arith) x s.digits

-- the id and the year of a pair stand before and behind the first comma
pub pair_parts : (x id year : List ℕ) (p : ℕ × ℕ) → HasNo 44 id × (x ≡ id ++ 44 ∷ year) → SpellsPair x p → Num id p.0 last_id × Num year p.1 9999
pair_parts x id year p (h, cut) (a, b, e, one, other) =
    let both = one_comma id year a b h (number_comma a p.0 last_id one) (sym cut ∙ e) in
    (subst (λ (y : List ℕ). Num y p.0 last_id) (sym both.0) one, subst (λ (y : List ℕ). Num y p.1 9999) (sym both.1) other)

-- a text with a comma has one
has_comma : (a b : List ℕ) → ¬ HasNo 44 (a ++ 44 ∷ b)
has_comma [] b h = All-head (λ z. z ≢ 44) 44 b h refl
has_comma (x ∷ a) b h = has_comma a b (All-tail (λ z. z ≢ 44) x (a ++ 44 ∷ b) h)

-- a text without a comma spells no pair
pub no_comma : (x : List ℕ) (p : ℕ × ℕ) → HasNo 44 x → ¬ SpellsPair x p
no_comma x p h (a, b, e, one, other) = has_comma a b (subst (HasNo 44) e h)

-- a text spells one pair at most
pub one_pair : OneNumber → (x : List ℕ) (p q : ℕ × ℕ) → SpellsPair x p → SpellsPair x q → p ≡ q
one_pair one x p q (a, b, e, s, t) k =
    let (u, v) = pair_parts x a b q (number_comma a p.0 last_id s, e) k in
    λ i. (one a p.0 q.0 last_id last_id s u i, one b p.1 q.1 9999 9999 t v i)

-- whether a pair has this id and another year
abbrev pub differs : ℕ × ℕ → ℕ × ℕ → Bool
differs p q = nat_eq p.0 q.0 && not (nat_eq p.1 q.1)

-- where no id is there with another year, none has two years
pub one_year : (pairs : List (ℕ × ℕ)) → All (λ p. list_any (differs p) pairs ≡ false) pairs → HasOneYear pairs
one_year pairs none p q (k, l, at) (j, m, there) same = elim (cases_Bool (nat_eq p.1 q.1)) [
  | inl e ↦ eqb-true p.1 q.1 e
  | inr other ↦
      let passes : differs p q ≡ true = and_from (nat_eq p.0 q.0) (not (nat_eq p.1 q.1)) (eq-eqb p.0 q.0 same) (not_from_false (nat_eq p.1 q.1) other) in
      let found : list_any (differs p) pairs ≡ true = list_any_at (differs p) pairs j q m (subst (λ (r : ℕ × ℕ). differs p r ≡ true) (sym there) passes) in
      let missed : list_any (differs p) pairs ≡ false = subst (λ (r : ℕ × ℕ). list_any (differs r) pairs ≡ false) at (none k p l) in
      absurd cc
]

-- and where one is, it has
pub two_years : (pairs : List (ℕ × ℕ)) (p : ℕ × ℕ) → Contains pairs p → list_any (differs p) pairs ≡ true → ¬ HasOneYear pairs
two_years pairs p here found one =
    let (q, there, passes) = from_any (differs p) pairs found in
    let (same, other) = and_parts (nat_eq p.0 q.0) (not (nat_eq p.1 q.1)) passes in
    let year = one p q here there (eqb-true p.0 q.0 same) in
    let no : nat_eq p.1 q.1 ≡ false = not-true (nat_eq p.1 q.1) other in
    absurd (eqb-false p.1 q.1 no year)

-- a text whose pairs have two years for one id spells no list
pub not_listed : OneNumber → (x : List ℕ) (items pairs : List (ℕ × ℕ)) → Listed SpellsPair pair_eq x items → ¬ HasOneYear items → ¬ PairList x pairs
not_listed one x items pairs read two (others, years) = two (subst HasOneYear (one_listed SpellsPair pair_eq (one_pair one) x pairs items others read) years)
