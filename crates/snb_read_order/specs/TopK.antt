-- The first of rows that come one after another.
use Rattle.std.specs.Prelude.{◌≡◌, ℕ, ◌≤◌, Bool, true, not, List, [], ◌∷◌, ◌++◌, length, take}
use Rattle.std.specs.Cmp.{IsTotalOrder}
use Rattle.std.specs.Fn.{ComparesAs, Mut}
use Rattle.std.specs.List.{All, filter}
use Rattle.std.specs.List.Sorted.{IsPermutation, IsSorted}
use Rattle.std.specs.Ordering.{is_lt}
use Rattle.std.specs.declared.cmp.Ordering.{Ordering}
use denote.Ref.{Bor}

-- what is kept of rows: some of them, how many of the first are wanted, and whether these were put
-- in front
pub record Kept (X : Type 0) : Type 0 where
  pub rows : List X
  pub most : ℕ
  pub cut : Bool

-- how many of the rows don't come after this one
abbrev pub not_after : {X : Type 0} → (X → X → Ordering) → X → List X → ℕ
not_after order y rows = length (filter (λ x. not (is_lt (order y x))) rows)

-- the kept rows and a rest are all rows; as many of the kept as are wanted don't come after any row
-- of the rest; after a cut the first stand in front, in order
pub record IsTopK {X : Type 0} (order : X → X → Ordering) (all : List X) (kept : Kept X)
    : Type 0 where
  pub rest : List X
  pub same : IsPermutation all (kept.rows ++ rest)
  pub later : All (λ y. kept.most ≤ not_after order y kept.rows) rest
  pub ordered : kept.cut ≡ true → (kept.most ≤ length kept.rows)
      × IsSorted order (take kept.most kept.rows)

-- with one row more, what was kept of all rows so far becomes what is kept of them all, by each
-- order that f compares by
abbrev pub TakesIn : {F X : Type 0} → Mut F (Bor X × (Bor X × Unit {0})) Ordering → F → X → Kept X
    → Kept X → Type 0
TakesIn {F} {X} g f row old new =
    (order : X → X → Ordering) (all : List X) → IsTotalOrder order
    → ComparesAs g (λ x y. is_lt (order x y)) f → IsTopK order all old
    → IsTopK order (all ++ row ∷ []) new
