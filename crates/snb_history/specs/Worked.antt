-- Worked rows, on small plans.
use Rattle.std.specs.Prelude.{ℕ, List, [], ◌∷◌, true, false}
use Rattle.snb_history.specs.declared.step.Step.{Step}
use Rattle.snb_history.specs.declared.step.LaneKind.TheVariants.{Person}
use Rattle.snb_history.specs.declared.event.Event.{Event}
use Rattle.snb_history.specs.declared.event.Event.TheVariants.{Start, Finish}
use Rattle.snb_history.specs.Schedule.{Schedule}

-- a person's insert, due at once
abbrev pub person : ℕ → ℕ → ℕ → Step
person lane place t =
    record {
      lane = lane;
      place = place;
      t = t;
      t_d = 0;
      due = 0;
      dependency = true;
      dependent = false;
      query = false;
    }

-- a friendship, which waits for the dependencies up to t_d
abbrev pub friendship : ℕ → ℕ → ℕ → ℕ → ℕ → Step
friendship lane place t t_d due =
    record {
      lane = lane;
      place = place;
      t = t;
      t_d = t_d;
      due = due;
      dependency = false;
      dependent = true;
      query = false;
    }

-- a person at 8000 in lane 0, and in lane 1 at 9000 a friendship that waits for it
abbrev pub tie : Schedule
tie = record
    { steps = person 0 0 8000 ∷ friendship 1 0 9000 8000 1000 ∷ []; kinds = Person ∷ Person ∷ [] }

-- two persons at 8000
abbrev pub level : Schedule
level = record { steps = person 0 0 8000 ∷ person 1 0 8000 ∷ []; kinds = Person ∷ Person ∷ [] }

-- persons at 8000 and 8300 in lane 0, at 8100 and 8200 in lane 1
abbrev pub crossed : Schedule
crossed =
    record {
      steps = person 0 0 8000 ∷ person 1 0 8100 ∷ person 1 1 8200 ∷ person 0 1 8300 ∷ [];
      kinds = Person ∷ Person ∷ [];
    }

-- both of lane 1 are finished, the first of lane 0 is held
abbrev pub crossed_started : List Event
crossed_started = Start 0 0 0 ∷ Start 1 1 0 ∷ Finish 1 1 0 0 ∷ Start 2 1 0 ∷ Finish 2 1 0 0 ∷ []

-- and then it is finished too
abbrev pub crossed_finished : List Event
crossed_finished =
    Start 0 0 0 ∷ Start 1 1 0 ∷ Finish 1 1 0 0 ∷ Start 2 1 0 ∷ Finish 2 1 0 0 ∷ Finish 0 0 0 0 ∷ []
