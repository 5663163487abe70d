-- What seats know, the rule of the table, and what each step tells. Cited by contracts of private
-- functions alone.
use Rattle.std.specs.Prelude.{◌≡◌, ◌≢◌, ℕ, ◌^◌, ◌<◌, ◌≤◌, List, [], ◌∷◌, length, slice_index, ◌⊎◌, Option, Result}
use mathlib.Core.Option.{some, none}
use mathlib.Core.List.{IsPrefix}
use lib.ListN.{get_elem?}
use Rattle.atomic_table.specs.Table.{State, Me, Step}
use Rattle.snb_history.specs.declared.event.Event.{Event}
use Rattle.snb_history.specs.Schedule.{Schedule}
use Rattle.snb_history.specs.Rules.{IsLegal}
use Rattle.snb_book.specs.Kept.{Kept}
use Rattle.snb_board.specs.declared.view.Part.{Part}
use Rattle.snb_board.specs.declared.view.View.{View}
use Rattle.std.specs.Prelude.{Ok}
use Rattle.snb_board.specs.declared.view.Phase.{Phase}
use Rattle.snb_board.specs.declared.view.Phase.TheVariants.{Idle}
use Rattle.snb_board.specs.Boards.{events_of}
use Rattle.snb_board.specs.Parts.{IsOut, IsShown, Shows, number_of, part, reached, told_of}

abbrev pub Each : {X : Type 0} → (X → Type 0) → List X → Type 0
Each P [] = Unit {0}
Each P (x ∷ xs) = P x × Each P xs

-- some part is of this worker
abbrev pub HasWorker : ℕ → List Part → Type 0
HasWorker k [] = ⊥
HasWorker k (p ∷ ps) = (p.worker ≡ k) ⊎ HasWorker k ps

-- no two parts are of one worker
abbrev pub Differ : List Part → Type 0
Differ [] = Unit {0}
Differ (p ∷ ps) = ¬ HasWorker p.worker ps × Differ ps

-- what the rule says of one seat's part: its worker is below the count of seats made, and belongs
-- to this view; its worker's events in the history are those that it has seen; and what it was told
-- is no more than the word says
pub record PartOk (schedule : Schedule) (history : List Event) (made : ℕ) (owner : ℕ → ℕ)
    (reach : ℕ) (phase : Phase) (j : ℕ) (p : Part) : Type 0 where
  pub low : p.worker < made
  pub owned : owner p.worker ≡ j
  pub seen : IsPrefix p.seen history
  pub mine : events_of p.worker history ≡ events_of p.worker p.seen
  pub told : p.told ≤ reach
  pub behind : IsShown phase → reached schedule p.seen ≤ reach

-- what it says of one view: where it has the schedule and the count of workers, they are the
-- book's; it has the count of seats made exactly where it has the part of worker 0; the workers of
-- its parts differ
pub record ViewOk (a : Kept) (made : ℕ) (owner : ℕ → ℕ) (reach : ℕ) (j : ℕ) (v : View)
    : Type 0 where
  pub same : 0 < v.workers → (v.schedule ≡ a.schedule) × (v.workers ≡ a.workers)
  pub minted : 0 < v.made → HasWorker 0 v.parts × (v.made ≡ made)
  pub counts : HasWorker 0 v.parts → 0 < v.made
  pub differ : Differ v.parts
  pub parts : Each (PartOk a.schedule a.history made owner reach v.phase j) v.parts

pub data Turn : Type 0 where
  free : Turn
  held : ℕ → Turn

abbrev pub Home : Type 0
Home = Result Kept (Option Event)

-- the turn is free, the book is at home and all views are idle; or one view has the turn and the
-- book
abbrev pub Stands : State Home View → Kept → ℕ → Turn → Type 0
Stands s a reach free =
    (slice_index s.words 0 ≡ 0)
    × (get_elem? s.homes 0 ≡ some (some (Ok a)))
    × ((j : ℕ) (v : View) → get_elem? s.views j ≡ some v → v.phase ≡ Idle)
    × (reach ≡ reached a.schedule a.history)
Stands s a reach (held i) =
    (slice_index s.words 0 ≡ 1)
    × (get_elem? s.homes 0 ≡ some none)
    × ((v : View) × (get_elem? s.views i ≡ some v) × IsOut v.phase
    × (v.parts ≡ part (number_of v.parts) a.history (told_of v.parts) ∷ [])
    × Shows a.schedule v.phase reach a.history)
    × ((j : ℕ) (v : View) → j ≢ i → get_elem? s.views j ≡ some v → v.phase ≡ Idle)

-- the rule: there is one book, of the schedule and the count of workers that the table was made
-- for, whose history is legal and as long as the count word says, and has no events of workers
-- without a seat; each worker belongs to one view; the third word is what was published
pub record IsRuled (about : Kept) (s : State Home View) : Type 0 where
  pub book : Kept
  pub keyed : (book.schedule ≡ about.schedule) × (book.workers ≡ about.workers)
  pub made : ℕ
  pub owner : ℕ → ℕ
  pub turn : Turn
  pub reach : ℕ
  pub wide : length s.words ≡ 3
  pub deep : length s.homes ≡ 1
  pub legal : IsLegal book.schedule book.workers book.history
  pub short : length book.history < 2 ^ 32
  pub counted : slice_index s.words 1 ≡ length book.history
  pub room : made ≤ book.workers
  pub fresh : (w : ℕ) → made ≤ w → events_of w book.history ≡ []
  pub shown : slice_index s.words 2 ≡ reach
  pub stands : Stands s book reach turn
  pub each_view : (j : ℕ) (v : View) → get_elem? s.views j ≡ some v
      → ViewOk book made owner reach j v

abbrev pub Sat : Type 0
Sat = Me Home View

abbrev pub At : Type 0
At = Step Home
