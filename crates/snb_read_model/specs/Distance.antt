-- Distances between persons over friendships.
use Rattle.std.specs.Prelude.{◌≡◌, ◌↔◌, ◌⊎◌, ℕ, zero, suc, ◌≤◌, ◌<◌, ℤ, pos, negsuc, List, true}
use Rattle.std.specs.List.{AllPairs, Contains}
use Rattle.snb_schema.specs.declared.row.Row.{Row}
use Rattle.snb_schema.specs.declared.table.Kind.TheVariants as kinds
use Rattle.snb_schema.specs.RowKeys.{node_key}
use Rattle.snb_graph_model.specs.Graphs.{HasKey}
use Rattle.snb_graph_model.specs.Around.{is_friend}

module _ (g : List Row) where
  -- the person is held
  abbrev pub IsPerson : ℕ → Type 0
  IsPerson id = HasKey g (node_key kinds.Person id)

  -- a walk in so many steps from one person to another, along persons of whom each knows the next
  pub data FriendPath : ℕ → ℕ → ℕ → Type 0 where
    stay : (a : ℕ) → IsPerson a → FriendPath a a zero
    step : (a b c n : ℕ) → FriendPath a b n → is_friend g b c ≡ true → IsPerson c
        → FriendPath a c (suc n)

  -- the length of a shortest walk
  pub record IsDistance (a b n : ℕ) : Type 0 where
    pub walk : FriendPath a b n
    pub least : (m : ℕ) → FriendPath a b m → n ≤ m

  -- the persons at distance 1 to `steps`, with their distances, by rising id
  pub record IsWithin (start steps : ℕ) (near : List (ℕ × ℕ)) : Type 0 where
    pub rises : AllPairs (λ x y. x.0 < y.0) near
    pub exact : (p n : ℕ) → Contains near (p, n) ↔ (IsDistance start p n × (1 ≤ n) × (n ≤ steps))

  -- the length of a shortest walk, or -1 where there is none, as where one of the two isn't held
  abbrev pub IsLength : ℕ → ℕ → ℤ → Type 0
  IsLength a b z =
      ((n : ℕ) × IsDistance a b n × (z ≡ pos n)) ⊎ (((n : ℕ) → ¬ FriendPath a b n) × (z ≡ negsuc 0))
