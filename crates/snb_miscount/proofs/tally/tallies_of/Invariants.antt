use Rattle.std.proofs.Common.{All}
use Rattle.snb_miscount.specs.Tallies.{IsTally}
use Rattle.snb_miscount.proofs.TallyFacts.{HasTalliesBelow}
use Rattle.snb_miscount.proofs.tally.tallies_of.Given as goal

-- the tallies are of the log, and each event so far is fine or has one
abbrev pub invariant-loop-event : goal.invariant-loop-event
invariant-loop-event l = record { each : All (IsTally l.logged) l.tallies.items; all : HasTalliesBelow l.plan l.logged l.tallies.items l.event }
