use Rattle.std.proofs.Common.{arith}
use Rattle.snb_read_order.proofs.TopKFacts.{taken_cut, taken_in}
use Rattle.snb_read_order.proofs.top_k.TopK.add.Goals as goal

pub returns-then-len-self-clause-top : goal.returns-then-len-self-clause-top
returns-then-len-self-clause-top g c = taken_in g.F.FnMut c.args.order c.args.row c.push.new.self.items _ c.args.self.now c.self.view_is c.in_ok-push.ensures.items

pub returns-clause-top : goal.returns-clause-top
returns-clause-top g c =
    taken_cut g.F.FnMut c.args.order c.args.row c.push.new.self.items c.sort_unstable_by.new.self.items c.truncate.new.self.items _ c.args.self.now c.self.view_is c.in_ok-push.ensures.items
    c.sort_unstable_by.ensures.permutation c.sort_unstable_by.ensures.sorted (omega (arith, c.push.new.self.ok.0)) c.truncate.ensures.items
