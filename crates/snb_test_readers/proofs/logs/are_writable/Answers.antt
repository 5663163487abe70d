use Rattle.std.proofs.Common.{◌≤◌, All, List, arith, subst, sym, take}
use Rattle.std.proofs.lemmas.List.{take_all, take_more}
use Rattle.std.proofs.lemmas.List.Elements.{All-push}
use Rattle.snb_history.specs.History.{moment}
use Rattle.snb_history.specs.declared.logged.Logged.{Logged}
use Rattle.snb_schema.specs.declared.limits.TheConstants.{MAX_AT}
use Rattle.snb_runlog.specs.declared.columns.TheConstants.{LAST_VERSION}
use Rattle.snb_runlog.specs.Columns.{HasCount}
use Rattle.snb_test_readers.proofs.logs.are_writable.Goals as goal

pub loop-i-preserved : goal.loop-i-preserved
loop-i-preserved c = (
  subst (λ (xs : List Logged). All (λ (one : Logged). moment one.event ≤ MAX_AT) xs) (sym (take_more c.args.logged.now c.loop-i.i _ c.loop-i-test.true))
      (All-push (λ (one : Logged). moment one.event ≤ MAX_AT) (take c.loop-i.i c.args.logged.now) _ c.loop-i.invariant.0 (c.is_writable.ensures.timed c.if-not-is_writable.false)),
  subst (λ (xs : List Logged). All (HasCount LAST_VERSION) xs) (sym (take_more c.args.logged.now c.loop-i.i _ c.loop-i-test.true))
      (All-push (HasCount LAST_VERSION) (take c.loop-i.i c.args.logged.now) _ c.loop-i.invariant.1 (c.is_writable.ensures.counted c.if-not-is_writable.false)),
)

pub returns : goal.returns
returns c = λ t. record {
  timed = subst (λ (xs : List Logged). All (λ (one : Logged). moment one.event ≤ MAX_AT) xs) (take_all c.loop-i.i c.args.logged.now (omega arith)) c.loop-i.invariant.0;
  counted = subst (λ (xs : List Logged). All (HasCount LAST_VERSION) xs) (take_all c.loop-i.i c.args.logged.now (omega arith)) c.loop-i.invariant.1;
}
