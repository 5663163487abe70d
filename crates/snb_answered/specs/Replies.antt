-- One reply more among replies that are by rising operation.
use Rattle.std.specs.Prelude.{◌≡◌, ◌⊎◌, ◌∷◌, ◌++◌, List, Any, Contains}
use Rattle.snb_answered.specs.declared.done.Answered.{Answered}

-- the reply stands among those that were there
pub record HasAdded (one : Answered) (old new : List Answered) : Type 0 where
  pub before : List Answered
  pub after : List Answered
  pub were : old ≡ before ++ after
  pub are : new ≡ before ++ one ∷ after

-- there is a reply to its operation, and beside it those that were there
pub record HasOne (one : Answered) (old new : List Answered) : Type 0 where
  pub each : (a : Answered) → Contains new a → Contains old a ⊎ (a ≡ one)
  pub kept : (a : Answered) → Contains old a → Contains new a
  pub there : Any (λ other. other.op ≡ one.op) new
