use Rattle.std.proofs.Common.{sym, ◌∙◌}
use Rattle.std.proofs.lemmas.Result.{on_ok_weaker}
use Rattle.snb_read_order.proofs.TopKFacts.{taken_after, taken_past}
use Rattle.snb_read_order.proofs.top_k.TopK.offer.Goals as goal

pub returns-then-is_lt-clause-top : goal.returns-then-is_lt-clause-top
returns-then-is_lt-clause-top g c =
    on_ok_weaker c.add-then-is_lt.result (taken_after g.F.FnMut _ _ _ _ c.order.ensures c.args.row c.args.self.now c.add-then-is_lt.new.self) c.add-then-is_lt.ensures.top

pub returns-else-is_lt-clause-top : goal.returns-else-is_lt-clause-top
returns-else-is_lt-clause-top g c =
    let (is, some, stands) = c.in-Some.ensures in
    taken_past g.F.FnMut _ _ _ _ c.order.ensures c.args.self.now (sym c.is_lt.ensures ∙ c.if-is_lt.false) is some stands
