use Rattle.std.proofs.Common.{rules, ◌≤◌, List, length, subst}
use Rattle.std.proofs.lemmas.Bool.{leb-true}
use Rattle.snb_history.specs.declared.event.Event.{Event}
use Rattle.snb_test_book.proofs.EventFacts.{start_before}
use Rattle.snb_test_book.proofs.books.is_front.Goals as goal

pub returns-then-ticket-front : goal.returns-then-ticket-front
returns-then-ticket-front c = λ t.
    record {
      of_read = λ is. (
        start_before c.args.book.now.history c.args.ticket c.args.front c.requires c.if-ticket-front.true,
        subst (λ (h : List Event). c.args.front ≤ length h) c.events.ensures.value (leb-true c.args.front (length c.events.result.now) t),
      );
      of_insert = search rules;
    }
