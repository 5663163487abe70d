use Rattle.std.proofs.Common.{sym}
use Rattle.std.proofs.lemmas.Slice.Zip.{seconds-zip}
use Rattle.snb_graph_maps.proofs.sorted.Sorted.values.Goals as goal

pub returns : goal.returns
returns g c = rw (← c.self.view_is, c.as_slice.ensures.value) (sym (seconds-zip c.self.inside.keys.items c.self.inside.values.items c.self.invariant))
