use Rattle.std.proofs.Common.{◌≡◌}
use Rattle.std.specs.Prelude.{All, Any, Contains}
use Rattle.snb_answered.proofs.done.Done.of.Given as goal

-- the replies are of those so far, and there is one to each operation of these
abbrev pub invariant-loop-one : goal.invariant-loop-one
invariant-loop-one l = record {
  each : All (λ one. Contains l.yielded one) l.done;
  all : All (λ one. Any (λ other. other.op ≡ one.op) l.done) l.yielded;
}
