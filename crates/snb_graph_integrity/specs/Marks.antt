-- What is reached from some ids by pairs.
use Rattle.std.specs.Prelude.{ℕ, zero, suc, ◌↔◌, ◌⊎◌, List, Contains}
use Rattle.snb_graph_rows.specs.Pairs.{HasPair}

-- an id is reached from the roots in so many pairs
abbrev pub ReachedIn : List ((ℕ × ℕ) × ℕ) → List ℕ → ℕ → ℕ → Type 0
ReachedIn es roots zero c = Contains roots c
ReachedIn es roots (suc n) c = (p : ℕ) × (d : ℕ) × HasPair es p c d × ReachedIn es roots n p

abbrev pub IsReached : List ((ℕ × ℕ) × ℕ) → List ℕ → ℕ → Type 0
IsReached es roots c = (n : ℕ) × ReachedIn es roots n c

-- an id is marked
abbrev pub IsMarked : List ((ℕ × ℕ) × ℕ) → ℕ → Type 0
IsMarked marks c = (d : ℕ) × HasPair marks c 0 d

-- the marks are what is reached
abbrev pub AreReached : List ((ℕ × ℕ) × ℕ) → List ℕ → List ((ℕ × ℕ) × ℕ) → Type 0
AreReached es roots marks = (c : ℕ) → IsMarked marks c ↔ IsReached es roots c

-- what is marked or is to be looked at is reached, the roots are among it, and so are the pairs of
-- what is marked
pub record IsMarking (es : List ((ℕ × ℕ) × ℕ)) (roots : List ℕ) (marks : List ((ℕ × ℕ) × ℕ))
    (ahead : List ℕ) : Type 0 where
  pub reached : (c : ℕ) → IsMarked marks c ⊎ Contains ahead c → IsReached es roots c
  pub begun : (c : ℕ) → Contains roots c → IsMarked marks c ⊎ Contains ahead c
  pub closed : (p c d : ℕ) → IsMarked marks p → HasPair es p c d
      → IsMarked marks c ⊎ Contains ahead c

-- the ids of an id's pairs are added to a list
abbrev pub HasChildren : List ((ℕ × ℕ) × ℕ) → ℕ → List ℕ → List ℕ → Type 0
HasChildren es p old new =
    (c : ℕ) → Contains new c ↔ (Contains old c ⊎ ((d : ℕ) × HasPair es p c d))
