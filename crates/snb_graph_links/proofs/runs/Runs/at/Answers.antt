use Rattle.std.proofs.Common.{sym}
use Rattle.snb_graph_links.proofs.PairLemmas.{runs_at_some, runs_at_none}
use Rattle.snb_graph_links.proofs.RunLemmas.{span_at}
use Rattle.snb_graph_links.proofs.runs.Runs.at.Goals as goal

pub cut-requires-clause-rises : goal.cut-requires-clause-rises
cut-requires-clause-rises c = (span_at c.self.inside.heads.items c.self.inside.pairs.items c.args.of c.in-Some.span.now c.self.invariant (rw c.as_slice.ensures.value at c.in-Some.ensures)).rises

pub cut-requires-clause-within : goal.cut-requires-clause-within
cut-requires-clause-within c = rw c.as_slice-in-Some.ensures.value (span_at c.self.inside.heads.items c.self.inside.pairs.items c.args.of c.in-Some.span.now c.self.invariant (rw c.as_slice.ensures.value at c.in-Some.ensures)).within

pub returns-in-Some : goal.returns-in-Some
returns-in-Some c = rw (c.cut.ensures, c.as_slice-in-Some.ensures.value, ← c.self.view_is) (sym (runs_at_some c.self.inside.heads.items c.self.inside.pairs.items c.args.of c.in-Some.span.now (rw c.as_slice.ensures.value at c.in-Some.ensures)))

pub returns-in-None : goal.returns-in-None
returns-in-None c = rw (← c.self.view_is) (sym (runs_at_none c.self.inside.heads.items c.self.inside.pairs.items c.args.of (rw c.as_slice.ensures.value at c.in-None.ensures)))
