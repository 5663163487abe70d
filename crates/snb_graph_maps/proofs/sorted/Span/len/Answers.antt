use Rattle.std.proofs.Common.{sym}
use Rattle.snb_graph_maps.proofs.ZipLemmas.{zip_length}
use Rattle.snb_graph_maps.proofs.sorted.Span.len.Goals as goal

pub returns : goal.returns
returns g c = rw (← c.self.view_is) (sym (zip_length c.self.inside.keys.now c.self.inside.values.now c.self.invariant))
