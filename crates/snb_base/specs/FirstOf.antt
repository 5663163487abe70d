-- The first of some things that are wrong.
use Rattle.std.specs.Prelude.{◌⊎◌, List, [], ◌∷◌}

-- each of the list says what it tells where it is wrong; this is what the first of them tells that
-- is
abbrev pub FirstOf : {A : Type 0} → List {1} (A → Type 0) → A → Type 0
FirstOf [] a = ⊥
FirstOf (W ∷ Ws) a = W a ⊎ (((b : _) → ¬ W b) × FirstOf Ws a)

-- none of the list is wrong
abbrev pub NoneOf : {A : Type 0} → List {1} (A → Type 0) → Type 0
NoneOf [] = Unit {0}
NoneOf (W ∷ Ws) = ((a : _) → ¬ W a) × NoneOf Ws
