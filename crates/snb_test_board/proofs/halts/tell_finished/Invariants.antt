use Rattle.snb_test_board.specs.Crews.{IsSameSeat}
use Rattle.snb_test_board.proofs.halts.tell_finished.Given as goal

-- it is the same seat
abbrev pub invariant-loop : goal.invariant-loop
invariant-loop g l = IsSameSeat l.fn.zero l.zero
