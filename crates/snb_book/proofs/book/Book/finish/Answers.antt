use Rattle.std.proofs.Common.{◌≡◌, ℕ, sym, subst}
use Rattle.snb_history.specs.declared.event.Event.TheVariants.{Finish}
use Rattle.snb_history.specs.Rules.{Fits}
use Rattle.snb_book.proofs.Telling.{finish_fits, adding_rises}
use Rattle.snb_book.proofs.book.Book.finish.Goals as goal

pub returns-clause-fits : goal.returns-clause-fits
returns-clause-fits c =
    finish_fits c.args.self.now c.args.ticket.op c.args.ticket.worker c.args.now c.args.front c.moment-at.ensures.legal c.requires.held.held c.requires.acts c.requires.front

pub finish_at-requires-clause-fits : goal.finish_at-requires-clause-fits
finish_at-requires-clause-fits c =
    subst (λ (m : ℕ). Fits c.args.self.now.schedule c.args.self.now.workers c.args.self.now.history (Finish c.args.ticket.op c.args.ticket.worker m c.args.front)) (sym c.moment-at.ensures.value)
    (finish_fits c.args.self.now c.args.ticket.op c.args.ticket.worker c.args.now c.args.front c.moment-at.ensures.legal c.requires.held.held c.requires.acts c.requires.front)

pub returns-clause-rises : goal.returns-clause-rises
returns-clause-rises c = adding_rises c.args.ticket.worker _ _ c.finish_at.ensures.adds
