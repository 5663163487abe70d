use Rattle.snb_graph_maps.proofs.MergedLemmas.{front_takes}
use Rattle.snb_graph_maps.proofs.walk.Front.take.Goals as goal

pub returns : goal.returns
returns g c = rw (c.replace.ensures.value, c.replace.ensures.after, ← c.self.view_is) (front_takes c.self.inside.next c.take-next.result _ _ c.self.invariant c.take-next.ensures).0

pub invariant_of-self : goal.invariant_of-self
invariant_of-self g c = rw c.replace.ensures.after (front_takes c.self.inside.next c.take-next.result _ _ c.self.invariant c.take-next.ensures).1
