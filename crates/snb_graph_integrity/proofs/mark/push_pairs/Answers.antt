use Rattle.std.proofs.Common.{sym, subst}
use Rattle.snb_graph_rows.specs.Pairs.{ArePairsOf}
use Rattle.snb_graph_integrity.proofs.MarkLemmas.{pushing_more, pushing_ended}
use Rattle.snb_graph_integrity.proofs.mark.push_pairs.Goals as goal

pub loop-key-preserved : goal.loop-key-preserved
loop-key-preserved c = rw c.in_ok-push.ensures.items (pushing_more c.into_iter-key-iterator.result c.args.ahead.now.items c.loop-key.key-iterator c.loop-key.ahead.items (c.in-Some.key.now, c.in-Some.field-0-1.now) c.next.new.self c.in-Some.ensures.steps c.loop-key.invariant)

pub returns : goal.returns
returns c = pushing_ended c.args.pairs.now c.args.of c.into_iter-key-iterator.result c.args.ahead.now.items c.loop-key.key-iterator c.loop-key.ahead.items c.in-None.ensures.steps.0 (subst (ArePairsOf c.args.pairs.now c.args.of) (sym c.into_iter-key-iterator.ensures.into_iter_gives) c.pairs-key-items.ensures) c.loop-key.invariant
