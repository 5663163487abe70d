use Rattle.snb_read_same.proofs.SameFacts.{items_equal, lists_equal}
use Rattle.snb_read_same.proofs.same.same_reply.Goals as goal

pub returns : goal.returns
returns c =
    let equal = lists_equal _ (lists_equal _ items_equal) c.args.a.now c.args.b.now in
    (λ told. equal.0 (c.same.ensures.0 told), λ e. c.same.ensures.1 (equal.1 e))
