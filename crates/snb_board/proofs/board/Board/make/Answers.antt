use Rattle.std.proofs.Common.{◌≡◌, ◌∙◌, [], ◌∷◌, ◌++◌, ap}
use Rattle.snb_book.specs.Kept.{Kept}
use Rattle.std.specs.Prelude.{Ok}
use Rattle.snb_board.specs.Parts.{kept, reached}
use Rattle.snb_board.proofs.Closing.{empty_yet}
use Rattle.snb_board.proofs.Joins.{starts_as}
use Rattle.snb_board.proofs.board.Board.make.Goals as goal

pub new-requires : goal.new-requires
new-requires c =
    let book : c.in_ok-book.book ≡ kept c.args.schedule.now c.args.workers [] = c.in_ok-book.ensures in
    starts_as c.push.new.self.items c.of-about.result.value c.reach_of-reach.result c.args.schedule.now c.args.workers c.requires.some (c.in_ok-push.ensures.items ∙ (λ i. c.new-slots.ensures.items i ++ Ok (book i) ∷ [])) (c.of-about.ensures ∙ book)
    (c.reach_of-reach.ensures ∙ ap (λ (b : Kept). reached b.schedule b.history) book)

pub returns-clause-empty : goal.returns-clause-empty
returns-clause-empty c = empty_yet _ _ _ c.in_ok-seats.ensures
