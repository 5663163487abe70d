use Rattle.snb_graph_maps.proofs.ZipLemmas.{not_err, zip-more}
use Rattle.snb_graph_maps.proofs.sorted.Sorted.push.Goals as goal

pub returns-clause-ok : goal.returns-clause-ok
returns-clause-ok g c = rw (c.in_ok-push.ensures.items, c.push-2.ensures.items, not_err c.push-2.result c.if-is_err.ensures.value, ← c.self.view_is) (zip-more c.self.inside.keys.items c.self.inside.values.items c.args.key c.args.value c.self.invariant)
