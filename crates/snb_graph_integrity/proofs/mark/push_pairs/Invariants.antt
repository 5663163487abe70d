use Rattle.snb_graph_integrity.proofs.MarkLemmas.{IsPushing}
use Rattle.snb_graph_integrity.proofs.mark.push_pairs.Given as goal

abbrev pub invariant-loop-key : goal.invariant-loop-key
invariant-loop-key l = IsPushing l.initial.key-iterator l.fn.ahead.items l.key-iterator l.ahead.items
