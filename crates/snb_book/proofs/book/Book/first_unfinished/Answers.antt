use Rattle.std.proofs.Common.{subst}
use Rattle.std.specs.Prelude.{MatchOption}
use Rattle.snb_book.specs.Asked.{AllFinished, IsFirstUnfinished}
use Rattle.snb_book.specs.Kept.{Kept}
use Rattle.snb_book.proofs.Asking.{unfinished_told}
use Rattle.snb_book.proofs.book.Book.first_unfinished.Goals as goal

pub returns : goal.returns
returns c =
    subst (λ (b : Kept). MatchOption c.first_unset.result (AllFinished b.schedule b.history) (λ op. IsFirstUnfinished b.schedule b.history op)) c.self.view_is
    (unfinished_told _ _ _ _ _ _ _ c.first_unset.result c.self.invariant.1 c.finished.ensures c.first_unset.ensures)
