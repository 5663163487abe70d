use Rattle.std.proofs.Common.{rules, sym, subst, ap, ◌∙◌}
use Rattle.snb_board.specs.Steps.{IsSingle}
use Rattle.snb_board.proofs.Keeps.{taking}
use Rattle.snb_board.proofs.Turns.{slot_taken, book_taken, turn_taken}
use Rattle.snb_board.proofs.steps.take.Goals as goal

pub compare_exchange-requires : goal.compare_exchange-requires
compare_exchange-requires g c =
    let i = c.loop.invariant in
    (search rules, search rules, taking _ _ _ _ (ap (λ m. m.0.phase) i.2 ∙ c.requires.rest.0) (subst (λ m. IsSingle m.0) (sym i.2) c.requires.rest.1))

pub exchange-requires : goal.exchange-requires
exchange-requires g c =
    let i = c.loop.invariant in
    let t = c.compare_exchange.ensures in
    (t.0 ∙ (i.0 ∙ c.requires.table.1), slot_taken c.args.place.now.me c.loop.place.me _ _ i.2 c.requires.rest.2 t.2 c.if-compare_exchange-eq0.true)

pub unreachable-requires : goal.unreachable-requires
unreachable-requires g c =
    let t = c.compare_exchange.ensures in
    let x = c.exchange.ensures in
    let book = book_taken c.loop.place.me c.compare_exchange.new.seat.me _ _ t.2 c.if-compare_exchange-eq0.true x.2 in
    c.in_default.not-Ok book.0 book.1

pub returns-then-compare_exchange-eq0 : goal.returns-then-compare_exchange-eq0
returns-then-compare_exchange-eq0 g c =
    let i = c.loop.invariant in
    let t = c.compare_exchange.ensures in
    let x = c.exchange.ensures in
    let all = turn_taken c.args.place.now.me c.loop.place.me c.compare_exchange.new.seat.me _ _ _ _ i.2 c.requires.rest.2 t.2 c.if-compare_exchange-eq0.true x.2 x.3 c.in-Ok.is in
    record { table = (x.0 ∙ (t.0 ∙ i.0), x.1 ∙ (t.1 ∙ i.1)); turn = (all.0, all.1, all.2); book = all.3; legal = all.4; told = all.5 }
