use Rattle.std.proofs.Common.{rules, refl, sym, subst, ◌∙◌}
use Rattle.snb_board.specs.Steps.{IsSeated, Grew}
use Rattle.snb_board.specs.Parts.{seen_of, number_of}
use Rattle.snb_board.proofs.Keeps.{passing}
use Rattle.snb_board.proofs.Turns.{Told, told_raised, told_plain, told_slot, ready_filled, ready_single, ready_slot, ready_passed}
use Rattle.snb_board.proofs.steps.give.Goals.{then-grew, else-grew}
use Rattle.snb_board.proofs.steps.give.Goals as goal

pub exchange-requires : goal.exchange-requires
exchange-requires c =
    let p = c.args.place.now.me in
    let b = c.args.book in
    let turn = c.requires.turn in
    let all : IsSeated c.args.place.now c.if-grew.place × Told p b c.if-grew.place.me = elim c.if-grew.branch [
      | then-grew w ↦ subst (λ q. IsSeated c.args.place.now q × Told p b q.me) (sym w.place-is) (w.publish.ensures.table, told_raised p w.publish.new.place.me w.publish.ensures.view.0 b w.publish.ensures.view.1)
      | else-grew w ↦ subst (λ q. IsSeated c.args.place.now q × Told p b q.me) (sym w.place-is)
          ((refl, refl), told_plain p b turn.0.0 turn.0.1 (subst (λ g. Grew (number_of p.0.parts) (seen_of p.0.parts) g b.history) w.if-grew.false c.requires.event) turn.0.2)
    ] in
    (all.0.0 ∙ c.requires.table.1, told_slot p c.if-grew.place.me b all.1)

pub store-requires : goal.store-requires
store-requires c =
    let p = c.args.place.now.me in
    let b = c.args.book in
    let turn = c.requires.turn in
    let all : IsSeated c.args.place.now c.if-grew.place × Told p b c.if-grew.place.me = elim c.if-grew.branch [
      | then-grew w ↦ subst (λ q. IsSeated c.args.place.now q × Told p b q.me) (sym w.place-is) (w.publish.ensures.table, told_raised p w.publish.new.place.me w.publish.ensures.view.0 b w.publish.ensures.view.1)
      | else-grew w ↦ subst (λ q. IsSeated c.args.place.now q × Told p b q.me) (sym w.place-is)
          ((refl, refl), told_plain p b turn.0.0 turn.0.1 (subst (λ g. Grew (number_of p.0.parts) (seen_of p.0.parts) g b.history) w.if-grew.false c.requires.event) turn.0.2)
    ] in
    let x = c.exchange.new.seat.me in
    let ready = ready_filled p c.if-grew.place.me x b all.1 c.exchange.ensures.3 in
    (c.exchange.ensures.0 ∙ (all.0.0 ∙ c.requires.table.1), search rules, passing _ _ _ x ready.0 ready.1 (ready_single p x b turn.0.1 ready) (ready_slot p x b turn.0.1 turn.1 ready))

pub returns : goal.returns
returns c =
    let p = c.args.place.now.me in
    let b = c.args.book in
    let turn = c.requires.turn in
    let all : IsSeated c.args.place.now c.if-grew.place × Told p b c.if-grew.place.me = elim c.if-grew.branch [
      | then-grew w ↦ subst (λ q. IsSeated c.args.place.now q × Told p b q.me) (sym w.place-is) (w.publish.ensures.table, told_raised p w.publish.new.place.me w.publish.ensures.view.0 b w.publish.ensures.view.1)
      | else-grew w ↦ subst (λ q. IsSeated c.args.place.now q × Told p b q.me) (sym w.place-is)
          ((refl, refl), told_plain p b turn.0.0 turn.0.1 (subst (λ g. Grew (number_of p.0.parts) (seen_of p.0.parts) g b.history) w.if-grew.false c.requires.event) turn.0.2)
    ] in
    let x = c.exchange.new.seat.me in
    let ready = ready_filled p c.if-grew.place.me x b all.1 c.exchange.ensures.3 in
    record { table = (c.store.ensures.0 ∙ (c.exchange.ensures.0 ∙ all.0.0), c.store.ensures.1 ∙ (c.exchange.ensures.1 ∙ all.0.1)); rest = ready_passed p x c.store.new.seat.me b turn.0.1 ready c.store.ensures.2; legal = c.events-legal.ensures.legal }
