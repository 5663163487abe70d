use Rattle.std.proofs.Common.{◌≡◌, ◌∙◌, ℕ, Bool, List, Some, true, false, not, refl, sym, subst}
use Rattle.std.specs.Prelude.{IsTrue, slice_get}
use Rattle.snb_history.specs.declared.event.Event.{Event}
use Rattle.snb_history.specs.declared.event.Event.TheVariants.{Start}
use Rattle.snb_history.specs.History.{finished}
use Rattle.snb_test_book.proofs.EventFacts.{in_hand}
use Rattle.snb_test_book.proofs.books.is_in_hand.Goals as goal

is_no : (b : Bool) → IsTrue (not b) → b ≡ false
is_no true t = absurd cc
is_no false t = refl

pub returns-then-starts_at : goal.returns-then-starts_at
returns-then-starts_at c = λ t.
    in_hand c.hand_is_theirs.ensures c.args.book.now.schedule c.args.book.now.workers c.args.book.now.history c.events-events.ensures.legal c.args.ticket
    (subst (λ (h : List Event). (at : ℕ) × (slice_get h c.args.ticket.start ≡ Some (Start c.args.ticket.op c.args.ticket.worker at))) c.events-events.ensures.value (c.starts_at.ensures c.if-starts_at.true))
    (subst (λ (h : List Event). finished h c.args.ticket.op ≡ false) c.events-events.ensures.value (sym c.is_finished.ensures ∙ is_no c.is_finished.result t))
