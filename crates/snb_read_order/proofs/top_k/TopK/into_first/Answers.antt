use Rattle.snb_read_order.proofs.TopKFacts.{first_of_inside}
use Rattle.snb_read_order.proofs.top_k.TopK.into_first.Goals as goal

pub returns : goal.returns
returns g c by all total compares top = first_of_inside by total all _ c.args.self c.first_of.result.items c.self.view_is (c.first_of.ensures by total compares) top
