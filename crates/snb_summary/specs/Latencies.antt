-- When the operations of a run start and finish, and what is measured of them, in milliseconds.
use Rattle.std.specs.Prelude.{ℕ, ◌-◌, ◌&&◌, nat_le, max, Bool, Option, Some, None, List, [], ◌∷◌, if◌then◌else◌, filter, filter_map, fold, length, map, slice_index_or}
use Rattle.std.specs.List.{range_with_len}
use Rattle.std.specs.Option.{option_map, option_map_or}
use Rattle.snb_history.specs.declared.event.Event.{Event}
use Rattle.snb_history.specs.History.{starts, finishes, latest, moment}
use Rattle.snb_history.specs.Schedule.{Schedule, step_of, is_dependency}
use Rattle.snb_summary.specs.contracts.kind.OpKindPartialEq.TheImpl as kind_eq
use Rattle.snb_summary.specs.declared.kind.OpKind.{OpKind}
use Rattle.snb_summary.specs.declared.kind.What.{What}
use Rattle.snb_summary.specs.declared.kind.What.TheVariants.{Latency, Lateness, Slack}

-- ---- moments

-- when each operation starts, and when it finishes
pub record OpMoments : Type 0 where
  pub start : ℕ → ℕ
  pub finish : ℕ → ℕ

-- the `at` of an operation's Start, and of its Finish: in a legal history each has one at most, and
-- where there is none this is 0
abbrev pub moments_of : List Event → OpMoments
moments_of h = record {
  start = λ k. option_map_or moment (latest (starts k) h) 0;
  finish = λ k. option_map_or moment (latest (finishes k) h) 0;
}

-- ---- what an operation waits for

-- the numbers of the operations
abbrev pub numbers : Schedule → List ℕ
numbers s = range_with_len 0 (length s.steps)

-- operation k waits for operation j: a dependent waits for each dependency whose t is at most its
-- t_d
abbrev pub waits_for : Schedule → ℕ → ℕ → Bool
waits_for s k j =
    (step_of s k).dependent && (is_dependency s j && nat_le (step_of s j).t (step_of s k).t_d)

-- the greatest number of a list, if it has any
abbrev pub greatest : List ℕ → Option ℕ
greatest [] = None
greatest (x ∷ xs) = Some (fold max x xs)

-- the last Finish of what operation k waits for, if it waits for any
abbrev pub cleared_at : Schedule → OpMoments → ℕ → Option ℕ
cleared_at s m k = greatest (map m.finish (filter (waits_for s k) (numbers s)))

-- ---- measures

-- what is measured of operation k: the latency from its Start to its Finish; the lateness from its
-- due time to its Start; the slack from the last Finish of what it waits for to its Start
abbrev pub value_of : What → Schedule → OpMoments → ℕ → Option ℕ
value_of Latency s m k = Some (m.finish k - m.start k)
value_of Lateness s m k = Some (m.start k - (step_of s k).due)
value_of Slack s m k = option_map (λ at. m.start k - at) (cleared_at s m k)

-- the two are one kind
abbrev pub same_kind : OpKind → OpKind → Bool
same_kind = (kind_eq.ghosts).eq

-- a value of an operation that is of this kind
abbrev pub if_kind : OpKind → Option OpKind → Option ℕ → Option ℕ
if_kind kind None value = None
if_kind kind (Some found) value = if same_kind found kind then value else None

-- what a summary is made of: the kinds of the operations, in the order of their numbers, their
-- schedule and their moments
pub record MeasuredRun : Type 0 where
  pub kinds : List (Option OpKind)
  pub schedule : Schedule
  pub moments : OpMoments

-- the values of a measure over the operations of a kind, in the order of their numbers
abbrev pub measured_values : MeasuredRun → OpKind → What → List ℕ
measured_values r kind what =
    filter_map
    (λ k. if_kind kind (slice_index_or r.kinds k None) (value_of what r.schedule r.moments k))
    (numbers r.schedule)
