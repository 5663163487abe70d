use Rattle.std.proofs.Common.{◌++◌, List, take}
use Rattle.snb_history.specs.declared.event.Event.{Event as AnyEvent}
use Rattle.snb_schema.specs.declared.row.Row.{Row}
use Rattle.snb_replica.specs.Replicas.{MayTake, StandsFor}
use Rattle.snb_replica.proofs.replica.Replica.advance.Given as goal

-- for each history it stands for, it then stands for it with the events so far
abbrev pub invariant-loop-event : goal.invariant-loop-event
invariant-loop-event l =
    (base : List Row) (g : List AnyEvent) → MayTake l.fn.plan l.fn.events l.fn.self base g → StandsFor base l.plan (g ++ take l.event-index l.events) l.self
