-- A seat and a replica before their worker has begun.
use Rattle.std.proofs.Common.{◌≡◌, ◌++◌, List, [], refl, sym, subst, append-nil, None, false}
use Rattle.std.specs.List.Sorted.{IsPermutation}
use Rattle.std.proofs.lemmas.List.Sorted.{IsPermutation-refl}
use Rattle.snb_history.specs.declared.event.Event.{Event}
use Rattle.snb_schema.specs.declared.row.Row.{Row}
use Rattle.snb_history.specs.History.{halted, hand}
use Rattle.snb_graph_model.specs.Graphs.{HoldsKey, IsGraph}
use Rattle.snb_board.specs.Boards.{Sitting, events_of}
use Rattle.snb_plan.specs.Closed.{IsClosed}
use Rattle.snb_plan.specs.Plans.{Plan, updates_in}
use Rattle.snb_replica.specs.Replicas.{Taken}
use Rattle.snb_workers.specs.Works.{IsFollowing, IsFree}

-- who has seen nothing has nothing in hand and hasn't halted
pub free_at_first : (s : Sitting) → s.seen ≡ [] → IsFree s
free_at_first s nothing = record {
  empty = subst (λ (h : List Event). hand (events_of s.worker h) s.worker ≡ None) (sym nothing) refl;
  running = subst (λ (h : List Event). halted (events_of s.worker h) s.worker ≡ false) (sym nothing) refl;
}

opening : (base : List Row) (plan : Plan) → IsGraph base → IsClosed (HoldsKey base) (updates_in plan) → IsFollowing base plan [] (record { graph = base; front = 0 })
opening base plan graph closed = record {
  closed = closed;
  taken = [];
  begins = ([], refl);
  stands = record { after = record { graph = graph; rows = subst (IsPermutation base) (sym (append-nil base)) (IsPermutation-refl base) }; front = refl };
}

-- a replica of the base follows who has seen nothing
pub follows_at_first : (base : List Row) (plan : Plan) (seen : List Event) (r : Taken) → IsGraph base → IsClosed (HoldsKey base) (updates_in plan) → seen ≡ [] → r ≡ record { graph = base; front = 0 } → IsFollowing base plan seen r
follows_at_first base plan seen r graph closed nothing is =
    subst (λ (h : List Event). IsFollowing base plan h r) (sym nothing) (subst (λ (t : Taken). IsFollowing base plan [] t) (sym is) (opening base plan graph closed))
