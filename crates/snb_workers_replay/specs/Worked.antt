-- Worked rows: the smallest plan over a sound graph, and a history of it.
use Rattle.std.specs.Prelude.{List, [], ◌∷◌, codes}
use Rattle.snb_history.specs.declared.event.Event.{Event}
use Rattle.snb_history.specs.declared.event.Event.TheVariants.{Start, Finish}
use Rattle.snb_schema.specs.declared.op.Line.{Line}
use Rattle.snb_schema.specs.declared.op.Op.TheVariants as ops
use Rattle.snb_schema.specs.declared.row.Row.{Row}
use Rattle.snb_schema.specs.declared.row.Row.TheVariants as row
use Rattle.snb_schema.specs.LineLanes.{LineLanes}
use Rattle.snb_plan.specs.Plans.{Plan, update_operation}
use Rattle.snb_plan.specs.Merging.{PlacedLine, kinds_of}

-- a graph of one city
abbrev pub city : Row
city = row.Place (record { id = 0; name = codes "Townville"; url = []; kind = codes "city" })

-- 2|0|1|5||||0|2|||0|||||: a person of that city
abbrev pub newcomer : Line
newcomer =
    record { t = 2; t_d = 0; op = ops.AddPerson 5 [] [] [] 0 2 [] [] 0 [] [] [] [] []; number = 1 }

-- one lane of persons, with that line
abbrev pub one_lane : LineLanes
one_lane = record { persons = (newcomer ∷ []) ∷ []; forums = [] }

-- where it stands
abbrev pub only : PlacedLine
only = record { lane = 0; place = 0; line = newcomer }

-- the plan of that lane, with no reads
abbrev pub one_insert : Plan
one_insert =
    record { kinds = kinds_of one_lane; operations = update_operation one_lane 1000000 2 only ∷ [] }

-- one worker starts the insert and finishes it
abbrev pub one_turn : List Event
one_turn = Start 0 0 0 ∷ Finish 0 0 0 0 ∷ []
