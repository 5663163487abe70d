-- A history is legal in one way at most: for a type that keeps the fact.
use Rattle.std.specs.Prelude.{ℕ, List}
use Rattle.std.proofs.Props.{props}
use Rattle.snb_history.specs.declared.event.Event.{Event}
use Rattle.snb_history.specs.declared.event.Event.TheVariants.{Start, Finish, Halt}
use Rattle.snb_history.specs.Schedule.{Schedule}
use Rattle.snb_history.specs.Rules.{Rule, V1, V2, V3, V4, V5, V6, V7, V8, V9, Obeys, IsLegal}

Obeys-prop : (s : Schedule) (workers : ℕ) (h : List Event) (e : Event) (r : Rule) → IsProp (Obeys s workers h e r)
Obeys-prop s workers h (Start op worker at) V1 = hlevel props
Obeys-prop s workers h (Start op worker at) V2 = hlevel props
Obeys-prop s workers h (Start op worker at) V3 = hlevel props
Obeys-prop s workers h (Start op worker at) V4 = hlevel props
Obeys-prop s workers h (Start op worker at) V5 = hlevel props
Obeys-prop s workers h (Start op worker at) V6 = hlevel props
Obeys-prop s workers h (Start op worker at) V7 = hlevel props
Obeys-prop s workers h (Start op worker at) V8 = hlevel props
Obeys-prop s workers h (Start op worker at) V9 = hlevel props
Obeys-prop s workers h (Finish op worker at front) V1 = hlevel props
Obeys-prop s workers h (Finish op worker at front) V2 = hlevel props
Obeys-prop s workers h (Finish op worker at front) V3 = hlevel props
Obeys-prop s workers h (Finish op worker at front) V4 = hlevel props
Obeys-prop s workers h (Finish op worker at front) V5 = hlevel props
Obeys-prop s workers h (Finish op worker at front) V6 = hlevel props
Obeys-prop s workers h (Finish op worker at front) V7 = hlevel props
Obeys-prop s workers h (Finish op worker at front) V8 = hlevel props
Obeys-prop s workers h (Finish op worker at front) V9 = hlevel props
Obeys-prop s workers h (Halt worker) V1 = hlevel props
Obeys-prop s workers h (Halt worker) V2 = hlevel props
Obeys-prop s workers h (Halt worker) V3 = hlevel props
Obeys-prop s workers h (Halt worker) V4 = hlevel props
Obeys-prop s workers h (Halt worker) V5 = hlevel props
Obeys-prop s workers h (Halt worker) V6 = hlevel props
Obeys-prop s workers h (Halt worker) V7 = hlevel props
Obeys-prop s workers h (Halt worker) V8 = hlevel props
Obeys-prop s workers h (Halt worker) V9 = hlevel props

pub IsLegal-prop : (s : Schedule) (workers : ℕ) (h : List Event) → IsProp (IsLegal s workers h)
IsLegal-prop s workers h = hlevel (props, Obeys-prop)
