use Rattle.std.proofs.Common.{take, ap, ◌∙◌}
use Rattle.snb_read_order.proofs.first.first_of.Goals as goal

pub returns : goal.returns
returns g c by total answers =
    let all = c.in_order-kept.ensures by total answers in
    record { sorted = all.sorted; same = all.same; ordered = all.ordered; kept = c.truncate.ensures.items ∙ ap (take c.args.most) all.kept }
