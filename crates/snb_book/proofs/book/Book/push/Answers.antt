use Rattle.std.proofs.Common.{subst}
use Rattle.snb_history.specs.declared.event.Event.{Event}
use Rattle.snb_history.specs.Rules.{Fits, V1}
use Rattle.snb_book.proofs.book.Book.push.Goals as goal

pub halt-requires : goal.halt-requires
halt-requires c =
    (subst (λ (e : Event). Fits c.args.self.now.schedule c.args.self.now.workers c.args.self.now.history e) c.in-Halt.is c.requires.fits).obeys V1
