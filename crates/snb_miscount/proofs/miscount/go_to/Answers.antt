use Rattle.std.proofs.Common.{ℕ, ◌≤◌, List, length, take, arith}
use Rattle.std.proofs.lemmas.List.{length-map}
use Rattle.snb_history.specs.declared.logged.Logged.{Logged}
use Rattle.snb_audit_model.specs.Miscounts.{events_of}
use Rattle.snb_miscount.proofs.MiscountFacts.{has_gone, may_go, pieces}
use Rattle.snb_miscount.proofs.miscount.go_to.Goals as goal

-- the front is within the history
within_history : (logged : List Logged) (front : ℕ) → front ≤ length logged → front ≤ length (events_of logged)
within_history logged front le = omega (arith, le, length-map logged (λ (l : Logged). l.event))

pub advance-requires : goal.advance-requires
advance-requires c =
    let here = c.args.replica.now.front in
    let are = pieces c.deref.result.now c.in_ok-events.events.items c.args.logged.now c.args.front c.front.result here c.deref.ensures.value c.in_ok-events.ensures c.front.ensures in
    record {
      may = (
        c.requires.along.0,
        take here (events_of c.args.logged.now),
        may_go c.requires.along.0 c.args.plan.now (events_of c.args.logged.now) c.args.replica.now c.requires.along.1 c.args.front c.requires.ahead (within_history c.args.logged.now c.args.front c.requires.within) c.deref.result.now
            are c.prefix_is_legal.ensures,
      );
    }

pub returns : goal.returns
returns c = λ base along.
    let are = pieces c.deref.result.now c.in_ok-events.events.items c.args.logged.now c.args.front c.front.result c.args.replica.now.front c.deref.ensures.value c.in_ok-events.ensures c.front.ensures in
    has_gone base c.args.plan.now (events_of c.args.logged.now) c.args.replica.now along c.args.front c.requires.ahead (within_history c.args.logged.now c.args.front c.requires.within) c.deref.result.now are
    c.prefix_is_legal.ensures c.advance.new.self c.in_ok-advance.ensures.ok
