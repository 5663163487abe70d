use Rattle.snb_graph_links.specs.Pairs.{rest}
use Rattle.snb_complex_persons.proofs.NamesakeLemmas.{IsNaming}
use Rattle.snb_complex_persons.proofs.namesakes.stays.Given as goal

abbrev pub invariant-loop-one : goal.invariant-loop-one
invariant-loop-one l = IsNaming l.graph (rest l.fn.found) (rest l.one-iterator) l.named.items
