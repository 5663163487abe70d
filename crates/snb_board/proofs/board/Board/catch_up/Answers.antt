use Rattle.std.proofs.Common.{refl, ◌≡◌, [], false}
use Rattle.snb_board.proofs.Calls.{calling, none_effect}
use Rattle.snb_board.proofs.board.Board.catch_up.Goals as goal

pub returns-in_err-added-clause-call : goal.returns-in_err-added-clause-call
returns-in_err-added-clause-call g c =
    let a = c.take-book.result in
    let w = c.seat.inside.worker in
    let i = c.seat.invariant in
    let took = c.take-book.ensures in
    let gave = c.give.ensures in
    calling c.args.self.now c.args.seat.now w c.seat.inside.place c.take-book.new.place c.give.new.place a a (λ w. []) false (λ schedule w h added. added ≡ [])
    c.requires.board c.seat.view_is i.1 i.0.1 took.table gave.table took.turn took.book gave.rest (none_effect w a a refl) gave.legal took.told refl

pub returns-clause-call : goal.returns-clause-call
returns-clause-call g c =
    let a = c.take-book.result in
    let w = c.seat.inside.worker in
    let i = c.seat.invariant in
    let took = c.take-book.ensures in
    let gave = c.give.ensures in
    calling c.args.self.now c.args.seat.now w c.seat.inside.place c.take-book.new.place c.give.new.place a a (λ w. []) false (λ schedule w h added. added ≡ [])
    c.requires.board c.seat.view_is i.1 i.0.1 took.table gave.table took.turn took.book gave.rest (none_effect w a a refl) gave.legal took.told refl
