-- How far a search of few steps has come. Cited by contracts of private functions alone.
-- Persons met stand in a list by rising id, each with a distance from the start.
use Rattle.std.specs.Prelude.{◌≡◌, ◌≢◌, ◌⊎◌, ℕ, ◌+◌, ◌-◌, ◌<◌, ◌≤◌, List, length, slice_index_or, true}
use Rattle.std.specs.List.{All, AllPairs, Contains}
use Rattle.snb_schema.specs.declared.row.Row.{Row}
use Rattle.snb_graph_model.specs.Around.{is_friend}
use Rattle.snb_read_model.specs.Distance.{IsDistance, FriendPath}

module _ (g : List Row) (start : ℕ) where
  -- the persons met have their distances, up to the level; whoever can be reached in so many steps
  -- is met
  pub record AreMet (level : ℕ) (met : List (ℕ × ℕ)) : Type 0 where
    pub rises : AllPairs (λ x y. x.0 < y.0) met
    pub told : (q n : ℕ) → Contains met (q, n) → IsDistance g start q n × (n ≤ level)
    pub near : (q n : ℕ) → FriendPath g start q n → n ≤ level → (m : ℕ) × Contains met (q, m)

  -- each person can be reached in at most so many steps
  abbrev pub AreReached : ℕ → List ℕ → Type 0
  AreReached level ids = All (λ q. (n : ℕ) × FriendPath g start q n × (n ≤ level)) ids

  -- those met up to the level before are among them, and so are all friends of the last of these
  pub record AreNext (level : ℕ) (met : List (ℕ × ℕ)) (ids : List ℕ) : Type 0 where
    pub reached : AreReached level ids
    pub among : All (λ e. Contains ids e.0) met
    pub friends : (b q : ℕ) → Contains met (b, level - 1) → is_friend g b q ≡ true → Contains ids q

-- a person met has the distance that they have, and another one the level
abbrev pub IsPlaced : ℕ → List (ℕ × ℕ) → List ℕ → ℕ → ℕ → Type 0
IsPlaced level met ids q n =
    Contains met (q, n) ⊎ (Contains ids q × (n ≡ level) × ((m : ℕ) → ¬ Contains met (q, m)))

-- a person stands at a place of those met with the distance, and the next place is the one after it;
-- or doesn't stand there, and has the level
abbrev pub IsDistanceAt : List (ℕ × ℕ) → ℕ → ℕ → ℕ → ℕ → ℕ → Type 0
IsDistanceAt met at q level n next =
    ((at < length met) × ((d : ℕ × ℕ) → slice_index_or met at d ≡ (q, n)) × (next ≡ at + 1))
    ⊎ (((d : ℕ × ℕ) → at < length met → (slice_index_or met at d).0 ≢ q) × (n ≡ level) × (next ≡ at))
