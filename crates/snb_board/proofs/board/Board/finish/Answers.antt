use Rattle.std.proofs.Common.{sym, subst, refl, ◌∙◌, ◌≡◌, ◌<◌, ℕ, [], ◌∷◌, true}
use Rattle.snb_history.specs.declared.event.Event.TheVariants.{Finish}
use Rattle.snb_book.specs.Kept.{moment_after}
use Rattle.snb_board.proofs.Calls.{calling, finish_effect, found_front, found_in_hand, found_may, giving, same_table, worker_is}
use Rattle.snb_board.proofs.board.Board.finish.Goals as goal

pub finish-requires : goal.finish-requires
finish-requires g c =
    let s = c.args.seat.now in
    let p = c.seat.inside.place in
    let q = c.take-book.new.place in
    let a = c.take-book.result in
    let i = c.seat.invariant in
    let took = c.take-book.ensures in
    let r = c.requires in
    record {
      held = found_in_hand c.hand_is_own.ensures s p q a.history c.args.ticket c.seat.view_is took.turn r.held.0 r.held.1;
      acts = found_may c.hand_is_own.ensures s p q a c.args.ticket.worker c.seat.view_is took.turn took.book (subst (λ (n : ℕ). n < p.me.0.workers) i.1 i.2) r.held.0 r.acts;
      front = found_front c.start_stays.ensures c.args.self.now s p q a c.args.ticket c.args.front r.board c.seat.view_is took.turn took.book r.held.1 r.front;
    }

pub give-requires : goal.give-requires
give-requires g c =
    let a = c.take-book.result in
    let b = c.finish.new.self in
    let t = c.args.ticket in
    let w = c.seat.inside.worker in
    let i = c.seat.invariant in
    let who : t.worker ≡ w = c.requires.held.0 ∙ sym (worker_is c.args.seat.now c.seat.inside.place w c.seat.view_is i.1) in
    let effect = finish_effect w (moment_after a.history c.args.now) c.args.front t a b who c.finish.ensures.appended in
    let all = giving w c.seat.inside.place c.take-book.new.place a b _ _ i.1 i.0.1 c.take-book.ensures.turn c.take-book.ensures.book effect in
    record { table = (c.self.invariant.0, c.take-book.ensures.table.0 ∙ same_table c.seat.inside.place _ _ _ c.seat.view_is c.requires.board c.self.view_is); turn = all.0; event = all.1 }

pub returns : goal.returns
returns g c =
    let a = c.take-book.result in
    let b = c.finish.new.self in
    let t = c.args.ticket in
    let w = c.seat.inside.worker in
    let at = moment_after a.history c.args.now in
    let i = c.seat.invariant in
    let took = c.take-book.ensures in
    let gave = c.give.ensures in
    let who : t.worker ≡ w = c.requires.held.0 ∙ sym (worker_is c.args.seat.now c.seat.inside.place w c.seat.view_is i.1) in
    calling c.args.self.now c.args.seat.now w c.seat.inside.place c.take-book.new.place c.give.new.place a b (λ w. Finish t.op w at c.args.front ∷ []) true
    (λ schedule w h added. added ≡ Finish t.op w (moment_after h c.args.now) c.args.front ∷ [])
    c.requires.board c.seat.view_is i.1 i.0.1 took.table gave.table took.turn took.book gave.rest
    (finish_effect w at c.args.front t a b who c.finish.ensures.appended) gave.legal took.told refl
