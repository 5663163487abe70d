-- Pairs of an id and a date for each id.
use Rattle.std.specs.Prelude.{◌≡◌, ◌≢◌, ℕ, ◌^◌, ◌<◌, ◌↔◌, ◌⊎◌, List, All, Contains}
use Rattle.std.specs.declared.cmp.Ordering.{Ordering}
use Rattle.std.specs.List.Sorted.{IsStrictlySortedBy}
use Rattle.std.specs.Map.{keys_of}
use Rattle.std.specs.Ordering.{nat_cmp, ordering_then}

-- by the first numbers, then by the second
abbrev pub pair_order : ℕ × ℕ → ℕ × ℕ → Ordering
pair_order x y = ordering_then (nat_cmp x.0 y.0) (nat_cmp x.1 y.1)

-- the pair of an id and a date is one of those of an id
abbrev pub HasPair : List ((ℕ × ℕ) × ℕ) → ℕ → ℕ → ℕ → Type 0
HasPair es of id date = Contains es ((of, id), date)

-- pairs in order
pub record IsIndex (es : List ((ℕ × ℕ) × ℕ)) : Type 0 where
  pub rises : IsStrictlySortedBy pair_order (keys_of es)
  pub small : All (λ e. e.0.1 < 2 ^ 64) es

-- one pair more
abbrev pub HasAdded : List ((ℕ × ℕ) × ℕ) → ℕ → ℕ → ℕ → List ((ℕ × ℕ) × ℕ) → Type 0
HasAdded old of id date new =
    (e : (ℕ × ℕ) × ℕ) → Contains new e ↔ (Contains old e ⊎ (((of, id), date) ≡ e))

-- all pairs but one
abbrev pub HasDropped : List ((ℕ × ℕ) × ℕ) → ℕ → ℕ → List ((ℕ × ℕ) × ℕ) → Type 0
HasDropped old of id new = (e : (ℕ × ℕ) × ℕ) → Contains new e ↔ (Contains old e × (e.0 ≢ (of, id)))

-- the entries are those of an id, in order
pub record ArePairsOf (es : List ((ℕ × ℕ) × ℕ)) (of : ℕ) (ps : List ((ℕ × ℕ) × ℕ)) : Type 0 where
  pub rises : IsStrictlySortedBy pair_order (keys_of ps)
  pub same : (e : (ℕ × ℕ) × ℕ) → Contains ps e ↔ (Contains es e × (e.0.0 ≡ of))
