use Rattle.std.proofs.Common.{All, subst}
use Rattle.snb_loader.specs.Lanes.{AreTaken, StreamLines}
use Rattle.snb_loader.proofs.streams.StreamFileSink.into_streams.Goals as goal

pub returns-clause-taken : goal.returns-clause-taken
returns-clause-taken c = subst (λ (s : StreamLines). All AreTaken s.done) c.self.view_is c.self.invariant.0
