-- How far a search by levels has come. Cited by contracts of private functions alone.
use Rattle.std.specs.Prelude.{◌≡◌, ◌⊎◌, ℕ, ◌<◌, ◌≤◌, ◌==◌, List, [], ◌∷◌, ◌++◌, Option, Some, None, IsSome, if◌then◌else◌}
use Rattle.std.specs.List.{All, Contains}
use Rattle.snb_schema.specs.declared.row.Row.{Row}
use Rattle.snb_read_model.specs.Distance.{IsDistance, FriendPath}

module _ (g : List Row) (start : ℕ) where
  -- the persons met have their distances, up to the level, and of the level are those of `next`;
  -- all nearer ones are met
  pub record IsGrowing (level : ℕ) (met : ℕ → Option ℕ) (next : List ℕ) : Type 0 where
    pub told : (q n : ℕ) → met q ≡ Some n → IsDistance g start q n × (n ≤ level)
    pub nearer : (q n : ℕ) → FriendPath g start q n → n < level → IsSome (met q)
    pub level_only : All (λ q. IsDistance g start q level) next
    pub level_all : (q : ℕ) → met q ≡ Some level → Contains next q

  -- all persons up to the level are met, and those at it are `last`
  pub record IsGrown (level : ℕ) (met : ℕ → Option ℕ) (last : List ℕ) : Type 0 where
    pub told : (q n : ℕ) → met q ≡ Some n → IsDistance g start q n × (n ≤ level)
    pub near : (q n : ℕ) → FriendPath g start q n → n ≤ level → IsSome (met q)
    pub level_only : All (λ q. IsDistance g start q level) last
    pub level_all : (q : ℕ) → met q ≡ Some level → Contains last q

-- a person is met at the level, unless it was met before
abbrev pub HasMet : ℕ → ℕ → (ℕ → Option ℕ) → List ℕ → (ℕ → Option ℕ) → List ℕ → Type 0
HasMet person level met next met' next' =
    (IsSome (met person) × ((q : ℕ) → met' q ≡ met q) × (next' ≡ next))
    ⊎ ((met person ≡ None) × ((q : ℕ) → met' q ≡ (if person == q then Some level else met q))
    × (next' ≡ next ++ person ∷ []))

-- whoever was met stays so
abbrev pub StaysMet : (ℕ → Option ℕ) → (ℕ → Option ℕ) → Type 0
StaysMet met met' = (q : ℕ) → IsSome (met q) → IsSome (met' q)
