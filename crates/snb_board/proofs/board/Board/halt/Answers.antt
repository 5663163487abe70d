use Rattle.std.proofs.Common.{sym, subst, refl, ◌∙◌, ◌≡◌, ◌<◌, ℕ, [], ◌∷◌, true, false}
use Rattle.snb_history.specs.declared.event.Event.TheVariants.{Halt}
use Rattle.snb_history.specs.History.{halted}
use Rattle.snb_board.specs.Boards.{mine}
use Rattle.snb_board.proofs.Calls.{calling, found_may, giving, one_effect, same_table, worker_is}
use Rattle.snb_board.proofs.board.Board.halt.Goals as goal

pub halt-requires : goal.halt-requires
halt-requires g c =
    let s = c.args.seat.now in
    let p = c.seat.inside.place in
    let w = c.seat.inside.worker in
    let a = c.take-book.result in
    let i = c.seat.invariant in
    let took = c.take-book.ensures in
    let who : w ≡ s.worker = worker_is s p w c.seat.view_is i.1 in
    found_may c.hand_is_own.ensures s p c.take-book.new.place a w c.seat.view_is took.turn took.book (subst (λ (n : ℕ). n < p.me.0.workers) i.1 i.2) who
    (subst (λ (n : ℕ). halted (mine s) n ≡ false) (sym who) c.requires.acts)

pub give-requires : goal.give-requires
give-requires g c =
    let a = c.take-book.result in
    let b = c.halt.new.self in
    let w = c.seat.inside.worker in
    let i = c.seat.invariant in
    let all = giving w c.seat.inside.place c.take-book.new.place a b _ _ i.1 i.0.1 c.take-book.ensures.turn c.take-book.ensures.book (one_effect w a b (Halt w) refl c.halt.ensures.appended) in
    record { table = (c.self.invariant.0, c.take-book.ensures.table.0 ∙ same_table c.seat.inside.place _ _ _ c.seat.view_is c.requires.board c.self.view_is); turn = all.0; event = all.1 }

pub returns : goal.returns
returns g c =
    let a = c.take-book.result in
    let b = c.halt.new.self in
    let w = c.seat.inside.worker in
    let i = c.seat.invariant in
    let took = c.take-book.ensures in
    let gave = c.give.ensures in
    calling c.args.self.now c.args.seat.now w c.seat.inside.place c.take-book.new.place c.give.new.place a b (λ w. Halt w ∷ []) true
    (λ schedule w h added. added ≡ Halt w ∷ [])
    c.requires.board c.seat.view_is i.1 i.0.1 took.table gave.table took.turn took.book gave.rest
    (one_effect w a b (Halt w) refl c.halt.ensures.appended) gave.legal took.told refl
