-- What a worker knows of the history. Cited by contracts of private functions alone.
use Rattle.std.specs.Prelude.{◌≡◌, ℕ, ◌+◌, List, [], ◌∷◌, ◌++◌}
use Rattle.snb_history.specs.declared.event.Event.{Event}
use Rattle.snb_history.specs.declared.event.Event.TheVariants.{Start, Finish, Halt}
use Rattle.snb_history.specs.Schedule.{Schedule}
use Rattle.snb_history.specs.Completion.{is_awaited, least_t}
use Rattle.snb_book.specs.Kept.{Kept}
use Rattle.snb_board.specs.declared.view.Part.{Part}
use Rattle.snb_board.specs.declared.view.View.{View}
use Rattle.snb_board.specs.declared.view.Phase.{Phase}
use Rattle.snb_board.specs.declared.view.Phase.TheVariants.{Idle, Holding, Counted, Raised}

abbrev pub kept : Schedule → ℕ → List Event → Kept
kept schedule workers history = record { schedule = schedule; workers = workers; history = history }

-- the worker whose event it is
abbrev pub author : Event → ℕ
author (Start op worker at) = worker
author (Finish op worker at front) = worker
author (Halt worker) = worker

-- the completion time plus 1: the least t of an unfinished dependency, or MAX_TIME + 1 where there
-- is none
abbrev pub reached : Schedule → List Event → ℕ
reached s h = least_t s (is_awaited s h)

abbrev pub part : ℕ → List Event → ℕ → Part
part w seen told = record { worker = w; seen = seen; told = told }

abbrev pub viewing : Phase → Schedule → ℕ → ℕ → List Part → View
viewing phase schedule workers made parts =
    record { phase = phase; schedule = schedule; workers = workers; made = made; parts = parts }

abbrev pub no_schedule : Schedule
no_schedule = record { steps = []; kinds = [] }

-- the first view: worker 0, which has made one seat
abbrev pub first_view : Kept → View
first_view a = viewing Idle a.schedule a.workers 1 (part 0 [] 0 ∷ [])

abbrev pub spent_view : View
spent_view = viewing Idle no_schedule 0 0 []

-- the view has the turn
abbrev pub IsOut : Phase → Type 0
IsOut Idle = ⊥
IsOut Holding = Unit {0}
IsOut Counted = Unit {0}
IsOut Raised = Unit {0}

-- the published word says as much as the view knows
abbrev pub IsShown : Phase → Type 0
IsShown Idle = Unit {0}
IsShown Holding = Unit {0}
IsShown Counted = ⊥
IsShown Raised = Unit {0}

-- what the published word says of the history, while a view in this phase has the turn: all, or all
-- but the last event
abbrev pub Shows : Schedule → Phase → ℕ → List Event → Type 0
Shows s Idle reach h = reach ≡ reached s h
Shows s Holding reach h = reach ≡ reached s h
Shows s Counted reach h = (g : List Event) × (e : Event) × (h ≡ g ++ e ∷ []) × (reach ≡ reached s g)
Shows s Raised reach h = reach ≡ reached s h

-- the own part of a view
abbrev pub seen_of : List Part → List Event
seen_of [] = []
seen_of (p ∷ ps) = p.seen

abbrev pub number_of : List Part → ℕ
number_of [] = 0
number_of (p ∷ ps) = p.worker

abbrev pub told_of : List Part → ℕ
told_of [] = 0
told_of (p ∷ ps) = p.told

abbrev pub seeing : List Event → List Part → List Part
seeing h [] = []
seeing h (p ∷ ps) = part p.worker h p.told ∷ ps

abbrev pub telling : ℕ → List Part → List Part
telling n [] = []
telling n (p ∷ ps) = part p.worker p.seen n ∷ ps

-- the view in a phase, with this history seen
abbrev pub posed : Phase → List Event → View → View
posed phase h v = viewing phase v.schedule v.workers v.made (seeing h v.parts)
