use Rattle.std.proofs.Common.{take}
use Rattle.snb_walk.specs.Targets.{HaveAnswers}
use Rattle.snb_walk.proofs.reading.answers_to.Given as goal

abbrev pub invariant-loop-read : goal.invariant-loop-read
invariant-loop-read g l = HaveAnswers l.graph (take l.read-index l.reads) l.reply l.targets.items
