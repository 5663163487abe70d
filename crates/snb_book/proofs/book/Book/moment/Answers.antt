use Rattle.std.proofs.Common.{◌<◌, length, subst, arith}
use Rattle.snb_book.specs.Kept.{Kept}
use Rattle.snb_book.proofs.Telling.{history_short, moment_bounded}
use Rattle.snb_book.proofs.book.Book.moment.Goals as goal

pub returns-clause-bounded : goal.returns-clause-bounded
returns-clause-bounded c =
    let bounded = moment_bounded _ _ c.args.now c.self.invariant.0 in
    let at = c.self.invariant.1.at in
    let shown = c.min.ensures in
    let later = c.max.ensures in
    omega arith

pub returns-clause-short : goal.returns-clause-short
returns-clause-short c = subst (λ (b : Kept). length b.history < 4294967296) c.self.view_is (history_short _ _ c.self.invariant.0)
