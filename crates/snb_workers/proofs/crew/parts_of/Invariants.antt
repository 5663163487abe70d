use Rattle.std.proofs.Common.{◌≡◌, List, Ok, length, map}
use Rattle.std.specs.List.{flat_map}
use Rattle.std.specs.Option.{MatchOption}
use Rattle.std.specs.Prelude.{Any}
use Rattle.snb_workers.specs.declared.crew.Worker.{Worker}
use Rattle.snb_workers.proofs.crew.parts_of.Given as goal

-- the parts of those so far
abbrev pub invariant-loop-worker : goal.invariant-loop-worker
invariant-loop-worker l =
    (workers : List Worker)
    × (l.yielded ≡ map (λ w. Ok w) workers)
    × (l.seats.items ≡ map (λ w. w.seat) workers)
    × (l.all.items ≡ flat_map (λ w. w.replies) workers)
    × MatchOption l.furthest (length workers ≡ 0) (λ one. Any (λ w. w.replica ≡ one) workers)
