-- Counts of a log that aren't right.
use Rattle.std.specs.Prelude.{◌≡◌, ◌≢◌, ◌≤◌, List, map, Option, None, Some, slice_get}
use Rattle.snb_history.specs.declared.event.Event.{Event}
use Rattle.snb_history.specs.declared.logged.Logged.{Logged}
use Rattle.snb_schema.specs.declared.row.Row.{Row}
use Rattle.snb_plan.specs.Plans.{Plan}
use Rattle.snb_audit_model.specs.declared.miscount.Miscount.{Miscount}
use Rattle.snb_replica.specs.Counts.{IsCount}

-- the events that are logged
abbrev pub events_of : List Logged → List Event
events_of logged = map (λ l. l.event) logged

-- the event of this number is a Finish with a count that isn't its own
pub record IsMiscount (base : List Row) (plan : Plan) (logged : List Logged) (m : Miscount)
    : Type 0 where
  pub one : Logged
  pub there : slice_get logged m.event ≡ Some one
  pub found : one.rows ≡ Some m.found
  pub needs : IsCount base plan (events_of logged) one.event m.needs
  pub differ : m.found ≢ m.needs

-- the first event whose count is wrong, or none
abbrev pub IsFirstMiscount : List Row → Plan → List Logged → Option Miscount → Type 0
IsFirstMiscount base plan logged None = (m : Miscount) → ¬ IsMiscount base plan logged m
IsFirstMiscount base plan logged (Some m) =
    IsMiscount base plan logged m ×
    ((other : Miscount) → IsMiscount base plan logged other → m.event ≤ other.event)
