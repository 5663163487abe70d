-- Which event may follow a history.
use Rattle.std.specs.Prelude.{◌≡◌, ℕ, ◌<◌, ◌≤◌, List, ◌∷◌, ◌++◌, length, true, false, Some, None}
use Rattle.std.specs.List.{position_or_len}
use Rattle.snb_history.specs.declared.event.Event.{Event}
use Rattle.snb_history.specs.declared.event.Event.TheVariants.{Start, Finish, Halt}
use Rattle.snb_history.specs.Schedule.{Schedule, step_of, IsOperation, IsBefore, IsInForum, is_dependency}
use Rattle.snb_history.specs.History.{starts, started, finished, halted, hand, moment, last}
use Rattle.snb_schema.specs.declared.limits.TheConstants.{MAX_AT}

-- the rules of an event, by their numbers
pub data Rule : Type 0 where
  -- the operation is one of the plan, and the worker is one of so many and hasn't halted
  V1 : Rule
  -- a Start: the operation isn't started, and all before it in its lane are
  V2 : Rule
  -- a Start in a forum lane: all before it in its lane are finished
  V3 : Rule
  -- a Start: the operation is due
  V4 : Rule
  -- a Start of a dependent: each dependency whose t is at most its t_d is finished
  V5 : Rule
  -- a Start: the worker has nothing in hand
  V6 : Rule
  -- a Finish: the worker has this operation in hand
  V7 : Rule
  -- a Finish: the front of a read lies after its Start, and that of an insert is 0
  V8 : Rule
  -- a Start or a Finish: the moment isn't below the last one
  V9 : Rule

-- the number of a rule
abbrev pub rule_number : Rule → ℕ
rule_number V1 = 1
rule_number V2 = 2
rule_number V3 = 3
rule_number V4 = 4
rule_number V5 = 5
rule_number V6 = 6
rule_number V7 = 7
rule_number V8 = 8
rule_number V9 = 9

-- the worker's number is below the count, and the worker hasn't halted
pub record MayAct (workers : ℕ) (h : List Event) (worker : ℕ) : Type 0 where
  pub known : worker < workers
  pub running : halted h worker ≡ false

-- the operation isn't started, and all before it in its lane are
pub record LeadsLane (s : Schedule) (h : List Event) (op : ℕ) : Type 0 where
  pub fresh : started h op ≡ false
  pub led : (j : ℕ) → IsBefore s j op → started h j ≡ true

-- in a forum lane, all before it are finished
abbrev pub LaneIsFinished : Schedule → List Event → ℕ → Type 0
LaneIsFinished s h op = IsInForum s op → (j : ℕ) → IsBefore s j op → finished h j ≡ true

-- of a dependent, each dependency of the plan whose t is at most its t_d is finished: the
-- dependency rule of Erling et al., SIGMOD 2015
abbrev pub IsCleared : Schedule → List Event → ℕ → Type 0
IsCleared s h op =
    (step_of s op).dependent ≡ true → (k : ℕ) → is_dependency s k ≡ true
    → (step_of s k).t ≤ (step_of s op).t_d → finished h k ≡ true

-- the front of a read lies after its Start and within the history; that of an insert is 0
pub record IsFront (s : Schedule) (h : List Event) (op front : ℕ) : Type 0 where
  pub of_read : (step_of s op).query ≡ true
      → (position_or_len (starts op) h < front) × (front ≤ length h)
  pub of_insert : (step_of s op).query ≡ false → front ≡ 0

-- what each rule asks of an event after a history, a line a rule: those of a Start, those of a
-- Finish and that of a Halt; any other rule asks nothing of it
abbrev pub Obeys : Schedule → ℕ → List Event → Event → Rule → Type 0
Obeys s workers h (Start op worker at) V1 = IsOperation s op × MayAct workers h worker
Obeys s workers h (Start op worker at) V2 = LeadsLane s h op
Obeys s workers h (Start op worker at) V3 = LaneIsFinished s h op
Obeys s workers h (Start op worker at) V4 = (step_of s op).due ≤ at
Obeys s workers h (Start op worker at) V5 = IsCleared s h op
Obeys s workers h (Start op worker at) V6 = hand h worker ≡ None
Obeys s workers h (Start op worker at) V9 = last h ≤ at
Obeys s workers h (Finish op worker at front) V1 = IsOperation s op × MayAct workers h worker
Obeys s workers h (Finish op worker at front) V7 = hand h worker ≡ Some op
Obeys s workers h (Finish op worker at front) V8 = IsFront s h op front
Obeys s workers h (Finish op worker at front) V9 = last h ≤ at
Obeys s workers h (Halt worker) V1 = MayAct workers h worker
Obeys s workers h e r = Unit {0}

-- the event may follow the history: it obeys each rule
pub record Fits (s : Schedule) (workers : ℕ) (h : List Event) (e : Event) : Type 0 where
  pub obeys : (r : Rule) → Obeys s workers h e r

-- each event fits the events before it, and no moment is above the greatest
pub record IsLegal (s : Schedule) (workers : ℕ) (h : List Event) : Type 0 where
  pub bounded : (g : List Event) (e : Event) (rest : List Event) → g ++ e ∷ rest ≡ h
      → moment e ≤ MAX_AT
  pub fits : (g : List Event) (e : Event) (rest : List Event) → g ++ e ∷ rest ≡ h
      → Fits s workers g e

-- every operation is finished, and nobody has halted
pub record IsComplete (s : Schedule) (h : List Event) : Type 0 where
  pub all_finished : (k : ℕ) → IsOperation s k → finished h k ≡ true
  pub none_halted : (w : ℕ) → halted h w ≡ false
