-- The first rule that an event breaks, and the two values that are told of it.
use Rattle.std.specs.Prelude.{◌≡◌, ℕ, ◌+◌, ◌<◌, ◌==◌, nat_lt, ◌&&◌, not, if◌then◌else◌, ℤ, pos, negsuc, List, length, Bool, Option}
use Rattle.std.specs.List.{position_or_len}
use Rattle.std.specs.Option.{option_map_or}
use Rattle.snb_history.specs.declared.event.Event.{Event}
use Rattle.snb_history.specs.declared.event.Event.TheVariants.{Start, Finish, Halt}
use Rattle.snb_history.specs.Schedule.{Schedule, step_of}
use Rattle.snb_history.specs.History.{starts, started, finished, hand, holder, last}
use Rattle.snb_history.specs.Completion.{first_op, completion}
use Rattle.snb_history.specs.Rules.{Rule, V1, V2, V3, V4, V5, V6, V7, V8, V9, rule_number, Obeys}

-- what a rule needs, and what it found in its place
pub record Told : Type 0 where
  pub needs : ℤ
  pub found : ℤ

-- -1 stands for none
abbrev pub or_none : Option ℕ → ℤ
or_none o = option_map_or pos o (negsuc 0)

-- j stands in k's lane
abbrev pub in_lane_of : Schedule → ℕ → ℕ → Bool
in_lane_of s k j = (step_of s j).lane == (step_of s k).lane

-- the two values of V1 where the operation is in the plan, or there is none
abbrev pub told_of_worker : ℕ → ℕ → Told
told_of_worker workers worker =
    record { needs = (if nat_lt worker workers then pos 0 else pos workers); found = pos worker }

-- the two values of each rule, at a Start or Finish of this operation by this worker
abbrev pub told : Schedule → ℕ → List Event → ℕ → ℕ → ℕ → ℕ → Rule → Told
told s workers h op worker at front V1 =
    if nat_lt op (length s.steps) then told_of_worker workers worker else record
    { needs = pos (length s.steps); found = pos op }
told s workers h op worker at front V2 = record {
  needs = (if started h op then negsuc 0 else pos
      (first_op s (λ j. in_lane_of s op j && not (started h j))));
  found = pos op;
}
told s workers h op worker at front V3 =
    record {
      needs = pos (first_op s (λ j. in_lane_of s op j && not (finished h j)));
      found = pos op;
    }
told s workers h op worker at front V4 = record { needs = pos (step_of s op).due; found = pos at }
told s workers h op worker at front V5 =
    record { needs = pos (step_of s op).t_d; found = completion s h }
told s workers h op worker at front V6 =
    record { needs = negsuc 0; found = or_none (hand h worker) }
told s workers h op worker at front V7 =
    record { needs = or_none (holder h op); found = pos worker }
told s workers h op worker at front V8 = record {
  needs =
      (if (step_of s op).query
      then (if nat_lt (position_or_len (starts op) h) front then pos (length h) else pos
      (position_or_len (starts op) h + 1))
      else pos 0);
  found = pos front;
}
told s workers h op worker at front V9 = record { needs = pos (last h); found = pos at }

-- the two values of a rule at an event
abbrev pub told_at : Schedule → ℕ → List Event → Event → Rule → Told
told_at s workers h (Start op worker at) r = told s workers h op worker at 0 r
told_at s workers h (Finish op worker at front) r = told s workers h op worker at front r
told_at s workers h (Halt worker) r = told_of_worker workers worker

-- the event breaks this rule and none before it, and these are its values
pub record Breaks (s : Schedule) (workers : ℕ) (h : List Event) (e : Event) (r : Rule)
    (values : Told) : Type 0 where
  pub broken : ¬ Obeys s workers h e r
  pub before : (q : Rule) → rule_number q < rule_number r → Obeys s workers h e q
  pub values_are : values ≡ told_at s workers h e r
