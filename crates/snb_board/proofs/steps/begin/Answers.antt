use Rattle.std.proofs.Common.{rules, ◌∙◌}
use Rattle.snb_board.proofs.Keeps.{beginning, passing}
use Rattle.snb_board.proofs.Turns.{begun_is, begun_passed}
use Rattle.snb_board.proofs.steps.begin.Goals as goal

pub compare_exchange-requires : goal.compare_exchange-requires
compare_exchange-requires c = (search rules, search rules, beginning _ _ _ _ c.args.top.now.key.value c.requires.first c.requires.some)

pub store-requires : goal.store-requires
store-requires c =
    let y = c.compare_exchange.new.seat.me in
    let now = begun_is c.args.top.now.key.value c.args.place.now.me y c.requires.first c.compare_exchange.ensures.2.1 in
    (c.compare_exchange.ensures.0 ∙ c.requires.table.1, search rules, passing _ _ _ y now.0 now.1 (now.2 c.requires.some) now.3)

pub returns : goal.returns
returns c =
    let y = c.compare_exchange.new.seat.me in
    let now = begun_is c.args.top.now.key.value c.args.place.now.me y c.requires.first c.compare_exchange.ensures.2.1 in
    record { table = (c.store.ensures.0 ∙ c.compare_exchange.ensures.0, c.store.ensures.1 ∙ c.compare_exchange.ensures.1); view = begun_passed c.args.top.now.key.value c.args.place.now.me y c.store.new.seat.me c.requires.first now.4 c.store.ensures.2 }
