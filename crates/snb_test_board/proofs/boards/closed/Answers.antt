use Rattle.std.proofs.Common.{◌∙◌, [], ◌∷◌, ◌++◌}
use Rattle.snb_test_board.proofs.Crews.{all_of_two}
use Rattle.snb_test_board.proofs.boards.closed.Goals as goal

pub close-requires : goal.close-requires
close-requires c = record { all = all_of_two _ _ c.args.zero c.args.one (c.in_ok-push-2.ensures.items ∙ (λ i. (c.in_ok-push.ensures.items ∙ (λ j. c.new-seats.ensures.items j ++ c.args.zero ∷ [])) i ++ c.args.one ∷ [])) c.requires.board.0 c.requires.board.1 c.requires.workers.0 c.requires.workers.1 c.requires.workers.2 }
