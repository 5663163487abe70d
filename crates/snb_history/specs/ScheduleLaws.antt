-- Laws of schedules and of legal histories of them.
use Rattle.std.specs.Prelude.{◌≡◌, ℕ, ◌+◌, ◌*◌, ◌<◌, ◌≤◌, List, ◌++◌, length, true}
use Rattle.snb_schema.specs.declared.limits.TheConstants.{MAX_AT}
use Rattle.snb_history.specs.declared.event.Event.{Event}
use Rattle.snb_history.specs.Schedule.{Schedule, step_of, IsBefore, IsInForum, IsTimely, IsPlaced, IsPlanned}
use Rattle.snb_history.specs.History.{started, finished, last}
use Rattle.snb_history.specs.Rules.{IsLegal}

-- a schedule's places rise along its lanes
abbrev pub PlannedIsPlaced : Type 0
PlannedIsPlaced = (s : Schedule) → IsPlanned s → IsPlaced s

-- a schedule is timely where each dependent needs only what lies before it
abbrev pub PlannedIsTimely : Type 0
PlannedIsTimely =
    (s : Schedule) → IsPlanned s
    → ((k : ℕ) → (step_of s k).dependent ≡ true → (step_of s k).t_d < (step_of s k).t) → IsTimely s

-- a legal history has at most two events for each operation and one for each worker
abbrev pub LegalIsShort : Type 0
LegalIsShort =
    (s : Schedule) (workers : ℕ) (h : List Event) → IsLegal s workers h
    → length h ≤ 2 * length s.steps + workers

-- the events before an event of a legal history are a legal history
abbrev pub PrefixIsLegal : Type 0
PrefixIsLegal =
    (s : Schedule) (workers : ℕ) (g h : List Event) → IsLegal s workers (g ++ h)
    → IsLegal s workers g

-- the last moment of a legal history isn't above the greatest
abbrev pub LastIsBounded : Type 0
LastIsBounded =
    (s : Schedule) (workers : ℕ) (h : List Event) → IsLegal s workers h → last h ≤ MAX_AT

-- in a forum lane all before a started operation is finished
abbrev pub ForumGoesInTurn : Type 0
ForumGoesInTurn =
    (s : Schedule) (workers : ℕ) (h : List Event) → IsLegal s workers h →
    (j k : ℕ) → IsInForum s k → IsBefore s j k → started h k ≡ true → finished h j ≡ true

-- in every lane all before a started operation is started
abbrev pub LaneStartsInOrder : Type 0
LaneStartsInOrder =
    (s : Schedule) (workers : ℕ) (h : List Event) → IsLegal s workers h →
    (j k : ℕ) → IsBefore s j k → started h k ≡ true → started h j ≡ true
