-- Lists of pairs by a number, in two parts, and the pairs of one number by rising id.
use Rattle.std.specs.Prelude.{◌≡◌, ◌≤◌, ◌↔◌, ◌⊎◌, ◌-◌, ℕ, length, take, drop, List, [], ◌∷◌, Option, Some, None, map, cond, nat_eq, Vec, unwrap_or, filter, not, All, Contains}
use Rattle.std.specs.Ordering.{nat_cmp, on, then_cmp}
use Rattle.std.specs.declared.cmp.Ordering.{Ordering}
use Rattle.std.specs.BTreeMap.{insert_entry}
use Rattle.std.specs.declared.sync.Arc.{Arc}
use Rattle.std.specs.Arc.{arc_value}
use Rattle.std.specs.List.Sorted.{IsStrictlySortedBy}
use Rattle.std.specs.Map.{keys_of}
use Rattle.snb_graph_maps.specs.Merged.{value_at, merged, Rises, AreParts}

-- the pairs of each number
abbrev pub Lists : Type 0
Lists = List (ℕ × List (ℕ × ℕ))

-- those of a map of vectors
abbrev pub lists_of : {Z : Type 0} → List (ℕ × Vec (ℕ × ℕ) Z) → Lists
lists_of es = map (λ e. (e.0, e.1.items)) es

-- a part of a list, from one place on and before another
abbrev pub part : List (ℕ × ℕ) → ℕ × ℕ → List (ℕ × ℕ)
part ps span = take (span.1 - span.0) (drop span.0 ps)

-- those of numbers with places in one list
abbrev pub runs_of : List (ℕ × (ℕ × ℕ)) → List (ℕ × ℕ) → Lists
runs_of heads ps = map (λ h. (h.0, part ps h.1)) heads

-- the heads when the pairs at a place more are a number's: the last head has them too, where it is
-- the number's
abbrev pub grown : List (ℕ × (ℕ × ℕ)) → ℕ → ℕ × ℕ → List (ℕ × (ℕ × ℕ))
grown [] of span = (of, span) ∷ []
grown (h ∷ []) of span = cond (nat_eq h.0 of) ((h.0, (h.1.0, span.1)) ∷ []) (h ∷ (of, span) ∷ [])
grown (h ∷ g ∷ hs) of span = h ∷ grown (g ∷ hs) of span

-- places in a list
abbrev pub IsSpan : ℕ → ℕ × (ℕ × ℕ) → Type 0
IsSpan n h = record { rises : h.1.0 ≤ h.1.1; within : h.1.1 ≤ n }

-- numbers in order with places in a list
pub record AreRuns (heads : List (ℕ × (ℕ × ℕ))) (ps : List (ℕ × ℕ)) : Type 0 where
  pub rises : Rises nat_cmp heads
  pub spans : All (IsSpan (length ps)) heads

-- the frozen part's, none where there is no such part
abbrev pub frozen_lists : {Z : Type 0} → Option (Arc Lists Z) → Lists
frozen_lists None = []
frozen_lists (Some frozen) = arc_value frozen

-- the pairs of a number in one part, none where it has none
abbrev pub pairs_at : Lists → ℕ → List (ℕ × ℕ)
pairs_at ls q = unwrap_or (value_at nat_cmp ls q) []

-- the pairs of a number, by rising id
abbrev pub pairs_of : Lists × Lists → ℕ → List (ℕ × ℕ)
pairs_of s q = merged nat_cmp (pairs_at s.0 q) (pairs_at s.1 q)

-- the pairs but those of an id
abbrev pub without : ℕ → List (ℕ × ℕ) → List (ℕ × ℕ)
without id ps = filter (λ p. not (nat_eq p.0 id)) ps

-- what a walk over two slices has still to give
abbrev pub rest : List (ℕ × ℕ) × List (ℕ × ℕ) → List (ℕ × ℕ)
rest s = merged nat_cmp s.0 s.1

-- each number has the pairs that it had
abbrev pub SamePairs : Lists × Lists → Lists × Lists → Type 0
SamePairs old new = (q : ℕ) → pairs_of new q ≡ pairs_of old q

-- a pair is added to one number, and no other number's pairs change
abbrev pub AddsPair : Lists × Lists → Lists × Lists → ℕ → ℕ → ℕ → Type 0
AddsPair old new of id date =
    (q : ℕ) → pairs_of new q ≡ cond (nat_eq q of) (insert_entry nat_cmp (pairs_of old of) id date)
    (pairs_of old q)

-- the same in one part
abbrev pub PutsPair : Lists → Lists → ℕ → ℕ → ℕ → Type 0
PutsPair old new of id date =
    (q : ℕ) → pairs_at new q ≡ cond (nat_eq q of) (insert_entry nat_cmp (pairs_at old of) id date)
    (pairs_at old q)

-- a pair is taken out of one part
abbrev pub TakesPair : Lists → Lists → ℕ → ℕ → Type 0
TakesPair old new of id =
    (q : ℕ) → pairs_at new q ≡ cond (nat_eq q of) (without id (pairs_at old of)) (pairs_at old q)

-- at each number the two parts rise, and share no id
abbrev pub ArePairParts : Lists → Lists → Type 0
ArePairParts es fs = (q : ℕ) → AreParts nat_cmp (pairs_at es q) (pairs_at fs q)

-- ---- links: a number, and a pair of an id and a date

-- the pairs of a number
abbrev pub of_number : ℕ → List (ℕ × (ℕ × ℕ)) → List (ℕ × ℕ)
of_number q ls = map (λ l. l.1) (filter (λ l. nat_eq l.0 q) ls)

-- links by number, and those of one number by id
abbrev pub by_ends : ℕ × (ℕ × ℕ) → ℕ × (ℕ × ℕ) → Ordering
by_ends = then_cmp (on (λ l. l.0) nat_cmp) (on (λ l. l.1.0) nat_cmp)

-- links in order, of which no two have the same ends
abbrev pub AreInOrder : List (ℕ × (ℕ × ℕ)) → Type 0
AreInOrder ls = IsStrictlySortedBy by_ends ls

-- links with the same ends have one date
abbrev pub AreSingle : List (ℕ × (ℕ × ℕ)) → Type 0
AreSingle ls = (of id d e : ℕ) → Contains ls (of, (id, d)) → Contains ls (of, (id, e)) → d ≡ e

-- ---- what a caller knows of an index

-- a number has this pair of an id and a date
abbrev pub HasPair : Lists × Lists → ℕ → ℕ → ℕ → Type 0
HasPair s of id date = Contains (pairs_of s of) (id, date)

-- and it is frozen
abbrev pub HasFrozenPair : Lists × Lists → ℕ → ℕ → ℕ → Type 0
HasFrozenPair s of id date = Contains (pairs_at s.0 of) (id, date)

-- one pair more
abbrev pub HasAdded : Lists × Lists → ℕ → ℕ → ℕ → Lists × Lists → Type 0
HasAdded old of id date new =
    (n i d : ℕ) → HasPair new n i d ↔ (HasPair old n i d ⊎ ((of ≡ n) × (id ≡ i) × (date ≡ d)))

-- all pairs but one
abbrev pub HasDropped : Lists × Lists → ℕ → ℕ → Lists × Lists → Type 0
HasDropped old of id new =
    (n i d : ℕ) → HasPair new n i d ↔ (HasPair old n i d × ¬ ((of ≡ n) × (id ≡ i)))

-- the pairs are those of a number, by rising id
pub record ArePairsOf (s : Lists × Lists) (of : ℕ) (ps : List (ℕ × ℕ)) : Type 0 where
  pub rises : IsStrictlySortedBy nat_cmp (keys_of ps)
  pub same : (id date : ℕ) → Contains ps (id, date) ↔ HasPair s of id date
