use Rattle.snb_test_board.proofs.Crews.{all_bounded}
use Rattle.snb_test_board.proofs.boards.told_book.Goals as goal

pub audit_all-requires-clause-at : goal.audit_all-requires-clause-at
audit_all-requires-clause-at c = all_bounded _ _ _ _ c.events-events.ensures.value c.events-events.ensures.legal
