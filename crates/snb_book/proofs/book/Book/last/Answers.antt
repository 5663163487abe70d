use Rattle.std.proofs.Common.{arith}
use Rattle.snb_history.proofs.Laws.{last_is_bounded}
use Rattle.snb_book.proofs.book.Book.last.Goals as goal

pub returns-clause-bounded : goal.returns-clause-bounded
returns-clause-bounded c =
    let bounded = last_is_bounded _ _ _ c.self.invariant.0.legal in
    let at = c.self.invariant.1.at in
    omega arith
