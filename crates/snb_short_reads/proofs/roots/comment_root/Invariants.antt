use Rattle.snb_short_reads.proofs.RootLemmas.{IsAt}
use Rattle.snb_short_reads.proofs.roots.comment_root.Given as goal

abbrev pub invariant-loop-done : goal.invariant-loop-done
invariant-loop-done l = IsAt l.graph l.comment l._done l._done-end l.at
