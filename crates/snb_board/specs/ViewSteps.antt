-- How a view goes on. Cited by contracts of private functions alone.
use Rattle.std.specs.Prelude.{◌≡◌, ◌≢◌, ℕ, ◌+◌, ◌≤◌, List, [], ◌∷◌, ◌++◌}
use mathlib.Core.List.{IsPrefix}
use Rattle.atomic_table.specs.Table.{rest}
use Rattle.snb_history.specs.declared.event.Event.{Event}
use Rattle.snb_schema.specs.declared.limits.TheConstants.{MAX_TIME}
use Rattle.snb_history.specs.Rules.{IsLegal}
use Rattle.snb_board.specs.declared.view.View.{View}
use Rattle.std.specs.Prelude.{Err, None, Ok, Some}
use Rattle.snb_board.specs.declared.view.Phase.TheVariants.{Idle, Holding, Counted, Raised}
use Rattle.snb_board.specs.Boards.{events_of}
use Rattle.snb_board.specs.Parts.{kept, number_of, part, posed, reached, seen_of, telling, told_of, viewing}
use Rattle.snb_board.specs.Views.{At, Home, Sat}

-- the event that a slot has
abbrev pub noted : Home → List Event
noted (Err (Some e)) = e ∷ []
noted (Err None) = []
noted (Ok a) = []

-- the same of the slot that was taken last
abbrev pub noted_in : List (ℕ × Home) → List Event
noted_in [] = []
noted_in ((k, x) ∷ xs) = noted x

-- the seat has the turn, the slot and all of the history, which begins with what it had seen and
-- has no other event of its worker
abbrev pub HasWon : Sat → Sat → Type 0
HasWon m m' =
    (h : List Event)
    × IsPrefix (seen_of m.0.parts) h
    × (events_of (number_of m.0.parts) h ≡ events_of (number_of m.0.parts) (seen_of m.0.parts))
    × IsLegal m.0.schedule m.0.workers h
    × (told_of m.0.parts ≤ reached m.0.schedule h)
    × (m' ≡ (posed Holding h m.0, (0, Ok (kept m.0.schedule m.0.workers h)) ∷ m.1))

-- the turn was free, and the seat has it; or nothing changed
abbrev pub took : At → Sat → ℕ → Sat → Type 0
took st m n m' = (n ≡ 0 → HasWon m m') × (n ≢ 0 → m' ≡ m)

-- the turn was free, and nothing had happened, and the seat has it
abbrev pub began : At → Sat → ℕ → Sat → Type 0
began st m n m' =
    (n ≡ 0) × (m' ≡ (posed Holding [] m.0, (0, Ok (kept m.0.schedule m.0.workers [])) ∷ m.1))

-- the event in the slot was counted: the seat has seen it
abbrev pub counted_one : At → Sat → ℕ → Sat → Type 0
counted_one st m n m' = m' ≡ (posed Counted (seen_of m.0.parts ++ noted_in m.1) m.0, m.1)

-- the word was raised to what the seat has seen
abbrev pub raised : At → Sat → ℕ → Sat → Type 0
raised st m n m' = m' ≡ (posed Raised (seen_of m.0.parts) m.0, m.1)

-- the seat was told the word, which is no less than what it knew, and at most one more than the
-- greatest time
abbrev pub loaded : At → Sat → ℕ → Sat → Type 0
loaded st m n m' =
    (m' ≡ (viewing m.0.phase m.0.schedule m.0.workers m.0.made (telling n m.0.parts), m.1))
    × (told_of m.0.parts ≤ n)
    × (reached m.0.schedule (seen_of m.0.parts) ≤ n)
    × (n ≤ MAX_TIME + 1)

-- the turn was passed, with the slot
abbrev pub passed : At → Sat → ℕ → Sat → Type 0
passed st m n m' = m' ≡ (posed Idle (seen_of m.0.parts) m.0, rest m.1)

-- one seat more
abbrev pub minting : View → View
minting v = viewing v.phase v.schedule v.workers (v.made + 1) v.parts

abbrev pub newcomer : View → View
newcomer v = viewing Idle v.schedule v.workers 0 (part v.made [] 0 ∷ [])

-- the parts of two views, and the count of seats made, which one of them may have
abbrev pub gathered : View → View → View
gathered v w = viewing v.phase v.schedule v.workers (v.made + w.made) (v.parts ++ w.parts)
