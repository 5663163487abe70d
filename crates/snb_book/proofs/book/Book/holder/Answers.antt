use Rattle.std.proofs.Common.{◌≡◌, ℕ, List, Option, None, ap, ◌∙◌, subst}
use Rattle.std.specs.Prelude.{MatchOption}
use Rattle.snb_history.specs.History.{holder}
use Rattle.snb_book.specs.Kept.{Kept}
use Rattle.snb_book.specs.Heads.{HasNobody, IsWith}
use Rattle.snb_book.proofs.Asking.{holder_told}
use Rattle.snb_book.proofs.book.Book.holder.Goals as goal

pub returns : goal.returns
returns c =
    subst (λ (b : Kept). c.hand_with.result ≡ holder b.history c.args.op) c.self.view_is
    (holder_told _ _ _ _ _ _ _ c.args.op c.hand_with.result c.self.invariant.0 c.self.invariant.1
    (subst (λ (l : List (Option ℕ)). MatchOption c.hand_with.result (HasNobody l c.args.op) (λ w. IsWith l c.args.op w)) c.deref.ensures.value c.hand_with.ensures))
