-- What a book answers of its history when it is asked.
use Rattle.std.specs.Prelude.{◌≡◌, ℕ, ◌<◌, ◌↔◌, ◌&&◌, not, List, true, false}
use Rattle.snb_history.specs.declared.event.Event.{Event}
use Rattle.snb_history.specs.Schedule.{Schedule, IsOperation}
use Rattle.snb_history.specs.History.{started, finished}
use Rattle.snb_history.specs.Completion.{first_op}
use Rattle.snb_history.specs.Rules.{LeadsLane, LaneIsFinished}
use Rattle.snb_history.specs.Violation.{in_lane_of}

-- an unstarted operation's lane has this first unstarted one, which is the operation itself exactly
-- where it is a head
pub record IsFirstUnstarted (s : Schedule) (h : List Event) (op first : ℕ) : Type 0 where
  pub fresh : started h op ≡ false
  pub value : first ≡ first_op s (λ j. in_lane_of s op j && not (started h j))
  pub head : (first ≡ op) ↔ LeadsLane s h op

-- the operation's lane is busy, and this is the first unfinished operation of it
pub record IsWaitedFor (s : Schedule) (h : List Event) (op first : ℕ) : Type 0 where
  pub busy : ¬ LaneIsFinished s h op
  pub value : first ≡ first_op s (λ j. in_lane_of s op j && not (finished h j))

-- every operation is finished
abbrev pub AllFinished : Schedule → List Event → Type 0
AllFinished s h = (k : ℕ) → IsOperation s k → finished h k ≡ true

-- the least operation that isn't finished
pub record IsFirstUnfinished (s : Schedule) (h : List Event) (op : ℕ) : Type 0 where
  pub within : IsOperation s op
  pub left : finished h op ≡ false
  pub least : (k : ℕ) → k < op → finished h k ≡ true
