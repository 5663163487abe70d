use Rattle.snb_test_board.specs.Crews.{IsSameSeat}
use Rattle.snb_test_board.proofs.boards.work.Given as goal

abbrev pub invariant-loop : goal.invariant-loop
invariant-loop g l = IsSameSeat l.initial.seat l.seat
