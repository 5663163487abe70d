use Rattle.std.proofs.Common.{ℕ, ◌≤◌, subst, sym}
use Rattle.snb_history.specs.declared.event.Event.TheVariants.{Start}
use Rattle.snb_history.specs.History.{last}
use Rattle.snb_history.specs.Rules.{Fits, MayAct}
use Rattle.snb_book.specs.Claims.{IsClaim}
use Rattle.snb_book.specs.Kept.{Kept, IsInHand, moment_after}
use Rattle.snb_book.proofs.Claiming.{claim_fits, go_acts, go_in_hand, moves_on}
use Rattle.snb_book.proofs.Telling.{moment_later, adds_none, adding_rises}
use Rattle.snb_book.proofs.book.Book.claim.Goals as goal

pub start-requires-clause-fits : goal.start-requires-clause-fits
start-requires-clause-fits c =
    claim_fits c.args.self.now.schedule c.args.self.now.workers c.args.self.now.history c.args.worker c.moment-at.result c.in-Go.ticket c.requires
    (subst (λ (m : ℕ). last c.args.self.now.history ≤ m) (sym c.moment-at.ensures.value) (moment_later c.args.self.now.history c.args.now))
    c.in-Go.ensures

pub returns-in-Go-clause-fits : goal.returns-in-Go-clause-fits
returns-in-Go-clause-fits c =
    subst (λ (m : ℕ). Fits c.args.self.now.schedule c.args.self.now.workers c.args.self.now.history (Start c.in-Go.ticket.op c.args.worker m)) c.moment-at.ensures.value
    (claim_fits c.args.self.now.schedule c.args.self.now.workers c.args.self.now.history c.args.worker c.moment-at.result c.in-Go.ticket c.requires
    (subst (λ (m : ℕ). last c.args.self.now.history ≤ m) (sym c.moment-at.ensures.value) (moment_later c.args.self.now.history c.args.now))
    c.in-Go.ensures)

pub returns-in-Go-clause-held : goal.returns-in-Go-clause-held
returns-in-Go-clause-held c =
    subst (λ (b : Kept). IsInHand b.history c.in-Go.ticket) (sym c.start.ensures.appended)
    (go_in_hand c.args.self.now.schedule c.args.self.now.history c.args.worker c.moment-at.result c.in-Go.ticket c.in-Go.ensures)

pub returns-in-Go-clause-acts : goal.returns-in-Go-clause-acts
returns-in-Go-clause-acts c =
    subst (λ (b : Kept). MayAct b.workers b.history c.in-Go.ticket.worker) (sym c.start.ensures.appended)
    (go_acts c.args.self.now.workers c.args.self.now.history c.args.worker c.moment-at.result c.args.self.now.schedule c.in-Go.ticket c.requires c.in-Go.ensures)

pub returns-in-Go-clause-rises : goal.returns-in-Go-clause-rises
returns-in-Go-clause-rises c = adding_rises c.args.worker _ _ c.start.ensures.adds

pub returns-in_default-clause-adds : goal.returns-in_default-clause-adds
returns-in_default-clause-adds c = adds_none _ c.args.worker c.moment-at.ensures.legal c.moment-at.ensures.short

pub returns-in_default-clause-rises : goal.returns-in_default-clause-rises
returns-in_default-clause-rises c = adding_rises c.args.worker _ _ (returns-in_default-clause-adds c)

pub returns-in_default-clause-moves : goal.returns-in_default-clause-moves
returns-in_default-clause-moves c =
    let at : ℕ = moment_after c.args.self.now.history c.args.now in
    moves_on c.args.self.now.schedule c.args.self.now.workers c.args.self.now.history c.args.worker at c.answer.result
    c.moment-at.ensures.planned c.moment-at.ensures.legal c.requires (moment_later c.args.self.now.history c.args.now)
    (subst (λ (m : ℕ). IsClaim c.args.self.now.schedule c.args.self.now.history c.args.worker m c.answer.result) c.moment-at.ensures.value c.answer.ensures)
