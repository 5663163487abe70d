use Rattle.std.proofs.Common.{subst, rules, sym, ap, ◌∙◌, ◌≡◌, ◌∷◌, [], List, length, ◌<◌}
use Rattle.atomic_table.specs.Table.{rest}
use Rattle.snb_history.specs.declared.event.Event.{Event}
use Rattle.snb_book.specs.Kept.{Kept}
use Rattle.std.specs.Prelude.{Err, None}
use Rattle.snb_board.specs.Views.{Sat}
use Rattle.snb_board.specs.Parts.{reached, seen_of}
use Rattle.snb_board.proofs.Keeps.{counting_as, raising}
use Rattle.snb_board.proofs.Turns.{put_back_is, counted_is, counted_single, raised_is}
use Rattle.snb_board.proofs.Events.{some_event}
use Rattle.snb_board.proofs.steps.publish.Goals as goal

pub exchange-requires : goal.exchange-requires
exchange-requires c =
    let t = c.requires.turn.0.2 in
    (c.requires.table.1, (Err None, t ∙ ap (λ l. (0, Err None) ∷ rest l) (sym t)))

pub fetch_add-requires : goal.fetch_add-requires
fetch_add-requires c =
    let p = c.args.place.now.me in
    let b = c.args.book.now in
    let turn = c.requires.turn in
    let x = put_back_is p c.exchange.new.seat.me _ turn.0.2 c.exchange.ensures.3 in
    let e = c.requires.event in
    (search rules, search rules, counting_as _ _ _ p c.exchange.new.seat.me _ b e.0 x (ap (λ (d : Event). d ∷ []) (c.last_event.ensures (seen_of p.0.parts) e.0 e.2)) turn.0.0 turn.0.1 e.1 e.2 turn.1 c.events-legal.ensures.legal c.events-legal.ensures.short)

pub store-requires : goal.store-requires
store-requires c =
    let p = c.args.place.now.me in
    let b = c.args.book.now in
    let turn = c.requires.turn in
    let x = put_back_is p c.exchange.new.seat.me _ turn.0.2 c.exchange.ensures.3 in
    let y = c.fetch_add.new.seat.me in
    let e = c.requires.event in
    let now = counted_is p c.exchange.new.seat.me y _ e.0 b x (ap (λ (d : Event). d ∷ []) (c.last_event.ensures (seen_of p.0.parts) e.0 e.2)) e.2 c.fetch_add.ensures.2 in
    let is = counted_single p y _ b turn.0.1 now in
    let schedule : b.schedule ≡ y.0.schedule = ap (λ (a : Kept). a.schedule) turn.1 ∙ sym (ap (λ (m : Sat). m.0.schedule) now) in
    (c.fetch_add.ensures.0 ∙ (c.exchange.ensures.0 ∙ c.requires.table.1), search rules, raising _ _ _ y _ is.0 is.1 (c.reach_of.ensures ∙ (λ i. reached (schedule i) (sym is.2 i))))

pub returns : goal.returns
returns c =
    let p = c.args.place.now.me in
    let b = c.args.book.now in
    let turn = c.requires.turn in
    let x = put_back_is p c.exchange.new.seat.me _ turn.0.2 c.exchange.ensures.3 in
    let y = c.fetch_add.new.seat.me in
    let e = c.requires.event in
    let now = counted_is p c.exchange.new.seat.me y _ e.0 b x (ap (λ (d : Event). d ∷ []) (c.last_event.ensures (seen_of p.0.parts) e.0 e.2)) e.2 c.fetch_add.ensures.2 in
    record {
      table = (c.store.ensures.0 ∙ (c.fetch_add.ensures.0 ∙ c.exchange.ensures.0), c.store.ensures.1 ∙ (c.fetch_add.ensures.1 ∙ c.exchange.ensures.1));
      view = (_, raised_is p y c.store.new.seat.me _ b turn.0.1 now c.store.ensures.2);
    }

pub last_event-requires : goal.last_event-requires
last_event-requires c = subst (λ (l : List Event). 0 < length l) (sym c.requires.event.2) (some_event (seen_of c.args.place.now.me.0.parts) c.requires.event.0)
