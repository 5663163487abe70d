-- How far a search from both ends has come. Cited by contracts of private functions alone.
-- A person who was met has a mark: true where the search from the first end met them.
use Rattle.std.specs.Prelude.{◌≡◌, ◌↔◌, ◌⊎◌, ℕ, ◌+◌, ◌<◌, ◌==◌, Bool, true, not, List, [], ◌∷◌, ◌++◌, Option, Some, None, MatchBool, if◌then◌else◌}
use Rattle.std.specs.List.{All, Contains}
use Rattle.snb_schema.specs.declared.row.Row.{Row}
use Rattle.snb_graph_model.specs.Around.{is_friend}
use Rattle.snb_read_model.specs.Distance.{FriendPath}

-- whoever has the mark keeps it
abbrev pub KeepsMark : Bool → (ℕ → Option Bool) → (ℕ → Option Bool) → Type 0
KeepsMark mark met met' = (q : ℕ) → met q ≡ Some mark → met' q ≡ Some mark

-- the same persons have the other mark
abbrev pub SameOthers : Bool → (ℕ → Option Bool) → (ℕ → Option Bool) → Type 0
SameOthers mark met met' = (q : ℕ) → (met' q ≡ Some (not mark)) ↔ (met q ≡ Some (not mark))

-- a person is met for the next level, unless they have the mark; whether they have the other one
abbrev pub HasMarked : ℕ → Bool → (ℕ → Option Bool) → List ℕ → Bool → (ℕ → Option Bool) → List ℕ
    → Type 0
HasMarked person mark met next other met' next' =
    MatchBool other (met person ≡ Some (not mark))
    (((met person ≡ Some mark) × ((q : ℕ) → met' q ≡ met q) × (next' ≡ next))
    ⊎ ((met person ≡ None) × ((q : ℕ) → met' q ≡ (if person == q then Some mark else met q))
    × (next' ≡ next ++ person ∷ [])))

module _ (g : List Row) (start : ℕ) (mark : Bool) where
  -- all who can be reached from the start in fewer steps than `whole` have the mark; those who have
  -- it can be reached in fewer than `level`, or are the last, who can be reached in `level`
  pub record IsSide (level whole : ℕ) (met : ℕ → Option Bool) (last : List ℕ) : Type 0 where
    pub reached : (q : ℕ) → met q ≡ Some mark
        → ((n : ℕ) × FriendPath g start q n × (n < level)) ⊎ Contains last q
    pub near : (q n : ℕ) → FriendPath g start q n → n < whole → met q ≡ Some mark
    pub ends : All (λ q. FriendPath g start q level) last

  -- somebody with the other mark can be reached in so many steps
  pub record IsMeeting (level : ℕ) (met : ℕ → Option Bool) : Type 0 where
    pub person : ℕ
    pub walk : FriendPath g start person level
    pub other : met person ≡ Some (not mark)

  -- the friends of a person are met for the next level
  pub record HasMetFriends (person level : ℕ) (met met' : ℕ → Option Bool) (next : List ℕ)
      : Type 0 where
    pub side : IsSide level level met' next
    pub keeps : KeepsMark mark met met'
    pub others : SameOthers mark met met'
    pub friends : (q : ℕ) → is_friend g person q ≡ true → met' q ≡ Some mark

  -- the next level is met
  pub record HasGrown (level : ℕ) (met met' : ℕ → Option Bool) (next : List ℕ) : Type 0 where
    pub side : IsSide level (level + 1) met' next
    pub others : SameOthers mark met met'
