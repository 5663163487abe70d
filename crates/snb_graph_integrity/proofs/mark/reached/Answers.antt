use Rattle.std.proofs.Common.{subst, rules}
use Rattle.snb_graph_integrity.specs.Marks.{IsMarking}
use Rattle.snb_graph_integrity.proofs.MarkLemmas.{marking_ended, none_left}
use Rattle.snb_graph_integrity.proofs.mark.reached.Goals as goal

pub returns-in-None : goal.returns-in-None
returns-in-None c = marking_ended c.args.pairs.now c.args.roots.items c.loop.marks (subst (IsMarking c.args.pairs.now c.args.roots.items c.loop.marks) (none_left c.loop.ahead.items (let e = c.in-None.ensures.cases.0 in search (rules, e))) c.loop.invariant)
