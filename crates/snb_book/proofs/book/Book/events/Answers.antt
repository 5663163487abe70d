use Rattle.std.proofs.Common.{◌<◌, length, subst}
use Rattle.snb_book.specs.Kept.{Kept}
use Rattle.snb_book.proofs.Telling.{history_short}
use Rattle.snb_book.proofs.book.Book.events.Goals as goal

pub returns-clause-short : goal.returns-clause-short
returns-clause-short c = subst (λ (b : Kept). length b.history < 4294967296) c.self.view_is (history_short _ _ c.self.invariant.0)
