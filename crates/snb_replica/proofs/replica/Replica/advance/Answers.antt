use Rattle.std.proofs.Common.{◌++◌, List, sym, subst}
use Rattle.std.proofs.lemmas.List.{take_all}
use Rattle.snb_history.specs.declared.event.Event.{Event as AnyEvent}
use Rattle.snb_history.specs.declared.event.Event.TheVariants.{Start}
use Rattle.snb_replica.specs.Replicas.{HasTakenSome, StandsFor}
use Rattle.snb_replica.proofs.Following.{may_next, taken_more, taken_some}
use Rattle.snb_replica.proofs.replica.Replica.advance.Goals as goal
use Rattle.snb_base.proofs.Laws.{on_any_err}

pub take-requires-clause-may : goal.take-requires-clause-may
take-requires-clause-may c =
    let may = c.requires.may in
    (may.0, _, may_next c.loop-event.event-index (Start 0 0 0) c.loop-event.invariant c.prefix_is_legal.ensures c.loop-event-test.true may.0 may.1 may.2)

pub returns-in_err-take-clause-err : goal.returns-in_err-take-clause-err
returns-in_err-take-clause-err c =
    on_any_err c.from_residual.result
    (subst (HasTakenSome c.args.plan.now c.args.events.now c.args.self.now) (sym c.in_err-take.ensures.err) (taken_some c.loop-event.event-index (Start 0 0 0) c.loop-event.invariant))

pub loop-event-preserved : goal.loop-event-preserved
loop-event-preserved c = taken_more c.loop-event.event-index (Start 0 0 0) c.loop-event.invariant c.prefix_is_legal.ensures c.loop-event-test.true c.take.new.self c.in_ok-take.ensures.ok

pub returns-clause-ok : goal.returns-clause-ok
returns-clause-ok c = λ base g may.
    subst (λ (l : List AnyEvent). StandsFor base c.args.plan.now (g ++ l) c.loop-event.self) (take_all c.loop-event.event-index c.args.events.now c.loop-event-test.false)
    (c.loop-event.invariant base g may)
