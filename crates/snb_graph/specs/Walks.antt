-- What the walks over a graph give: pairs of an id and a date.
use Rattle.std.specs.Prelude.{ℕ, List, IsPermutation}
use Rattle.std.specs.List.Sorted.{IsStrictlySortedBy}
use Rattle.std.specs.Map.{keys_of}
use Rattle.std.specs.Ordering.{nat_cmp}

-- the pairs of a filter over the rows, each once, by rising id
pub record IsWalkOver (filtered pairs : List (ℕ × ℕ)) : Type 0 where
  pub rises : IsStrictlySortedBy nat_cmp (keys_of pairs)
  pub same : IsPermutation filtered pairs
