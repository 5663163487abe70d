use Rattle.snb_test_board.proofs.Crews.{all_in_order}
use Rattle.snb_test_board.proofs.boards.closed_by_all.Goals as goal

pub close-requires : goal.close-requires
close-requires c = record { all = all_in_order c.args.board c.args.seats.items c.requires }
