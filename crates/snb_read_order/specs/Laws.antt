-- Laws of the first rows in an order.
use Rattle.std.specs.Prelude.{◌≡◌, List}
use Rattle.std.specs.Cmp.{IsTotalOrder}
use Rattle.std.specs.List.{Contains}
use Rattle.std.specs.declared.cmp.Ordering.{Ordering}
use Rattle.std.specs.declared.cmp.Ordering.TheVariants.{Equal}
use Rattle.snb_read_model.specs.Order.{Cut, SortedAndCut}

-- of these rows only equal ones compare equal
abbrev pub IsApart : {X : Type 0} → (X → X → Ordering) → List X → Type 0
IsApart {X} order rows = (x y : X) → Contains rows x → Contains rows y → order x y ≡ Equal → x ≡ y

-- such rows have one list of the first ones
abbrev pub OneFirst : Type 0 → Type 0
OneFirst X = (order : X → X → Ordering) (cut : Cut) (rows a b : List X) → IsTotalOrder order →
    IsApart order rows → SortedAndCut order cut rows a → SortedAndCut order cut rows b → a ≡ b

-- all rows have one
abbrev pub SomeFirst : Type 0 → Type 0
SomeFirst X =
    (order : X → X → Ordering) (cut : Cut) (rows : List X) → IsTotalOrder order
    → (answer : List X) × SortedAndCut order cut rows answer
