-- What a list of events tells: each word is a function of the list alone.
use Rattle.std.specs.Prelude.{ℕ, ◌==◌, List, Bool, true, false, Option, Some, None, find, reverse}
use Rattle.std.specs.List.{list_any}
use Rattle.std.specs.Option.{option_map_or}
use Rattle.snb_history.specs.declared.event.Event.{Event}
use Rattle.snb_history.specs.declared.event.Event.TheVariants.{Start, Finish, Halt}

-- the event starts operation k
abbrev pub starts : ℕ → Event → Bool
starts k (Start op worker at) = op == k
starts k (Finish op worker at front) = false
starts k (Halt worker) = false

-- the event finishes operation k
abbrev pub finishes : ℕ → Event → Bool
finishes k (Start op worker at) = false
finishes k (Finish op worker at front) = op == k
finishes k (Halt worker) = false

-- the event halts worker w
abbrev pub halts : ℕ → Event → Bool
halts w (Start op worker at) = false
halts w (Finish op worker at front) = false
halts w (Halt worker) = worker == w

-- a Start or a Finish by this worker
abbrev pub acts : ℕ → Event → Bool
acts w (Start op worker at) = worker == w
acts w (Finish op worker at front) = worker == w
acts w (Halt worker) = false

-- a Start or a Finish
abbrev pub has_moment : Event → Bool
has_moment (Start op worker at) = true
has_moment (Finish op worker at front) = true
has_moment (Halt worker) = false

-- an event of this worker
abbrev pub is_by : ℕ → Event → Bool
is_by w (Start op worker at) = worker == w
is_by w (Finish op worker at front) = worker == w
is_by w (Halt worker) = worker == w

-- operation k is started
abbrev pub started : List Event → ℕ → Bool
started h k = list_any (starts k) h

-- operation k is finished
abbrev pub finished : List Event → ℕ → Bool
finished h k = list_any (finishes k) h

-- worker w has halted
abbrev pub halted : List Event → ℕ → Bool
halted h w = list_any (halts w) h

-- the last event that passes the test
abbrev pub latest : (Event → Bool) → List Event → Option Event
latest p h = find p (reverse h)

-- the operation of a Start
abbrev pub opened : Option Event → Option ℕ
opened (Some (Start op worker at)) = Some op
opened (Some (Finish op worker at front)) = None
opened (Some (Halt worker)) = None
opened None = None

-- what the worker has in hand: the operation of the worker's last Start or Finish, where that is a
-- Start
abbrev pub hand : List Event → ℕ → Option ℕ
hand h w = opened (latest (acts w) h)

-- the worker of a Start
abbrev pub opener : Option Event → Option ℕ
opener (Some (Start op worker at)) = Some worker
opener (Some (Finish op worker at front)) = None
opener (Some (Halt worker)) = None
opener None = None

-- a Start or a Finish of this operation
abbrev pub moves : ℕ → Event → Bool
moves k (Start op worker at) = op == k
moves k (Finish op worker at front) = op == k
moves k (Halt worker) = false

-- the worker that holds the operation: that of its last Start or Finish, where that is a Start
abbrev pub holder : List Event → ℕ → Option ℕ
holder h k = opener (latest (moves k) h)

-- the `at` of a Start or a Finish, or 0
abbrev pub moment : Event → ℕ
moment (Start op worker at) = at
moment (Finish op worker at front) = at
moment (Halt worker) = 0

-- the `at` of the last Start or Finish, or 0
abbrev pub last : List Event → ℕ
last h = option_map_or moment (latest has_moment h) 0
