use Rattle.std.proofs.Common.{List, sym, subst, take}
use Rattle.std.proofs.lemmas.List.{take_more}
use Rattle.snb_history.specs.declared.event.Event.{Event}
use Rattle.snb_summary.specs.Hearing.{AreFor}
use Rattle.snb_summary.proofs.Heeding.{AreOf, heard_more, heard_none}
use Rattle.snb_summary.proofs.times.hear_all.Goals as goal

pub loop-event-init : goal.loop-event-init
loop-event-init c = heard_none c.args.count _ c.in_ok-starts.ensures c.in_ok-finishes.ensures

pub loop-event-preserved : goal.loop-event-preserved
loop-event-preserved c =
    subst (λ (h : List Event). AreFor c.args.count c.hear.new.self × AreOf h c.hear.new.self) (sym (take_more c.args.events.now c.loop-event.event-index _ c.loop-event-test.true))
    (heard_more c.args.count (take c.loop-event.event-index c.args.events.now) _ c.loop-event.heard c.hear.new.self (c.requires c.loop-event.event-index _ c.loop-event-test.true) c.loop-event.invariant.0
    c.loop-event.invariant.1 c.hear.ensures.starts c.hear.ensures.finishes)
