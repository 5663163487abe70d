use Rattle.snb_loader.proofs.OrderFacts.{both_ok, put_line}
use Rattle.snb_loader.proofs.streams.StreamFileSinkSinkLine.put.Goals as goal

pub invariant_of-self : goal.invariant_of-self
invariant_of-self c =
    let mine = c.self.inside.mine in
    let put =
    put_line c.put.result mine.sink.items c.put.new.self.sink.items mine.last c.put.new.self.last c.args.item c.self.invariant.1 c.self.invariant.2 c.requires (both_ok c.put.result c.put.ensures.ok (λ h. (h.0.0, h.0.1, h.1))) c.put.ensures.same in
    (c.self.invariant.0, put.0, put.1)
