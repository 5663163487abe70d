use Rattle.std.proofs.Common.{◌≤◌, All, arith, subst}
use Rattle.std.proofs.lemmas.List.Elements.{All-more}
use Rattle.std.proofs.lemmas.List.{take_all}
use Rattle.snb_runlog.specs.declared.columns.TheConstants.{MAX_NUMBER}
use Rattle.snb_answered.specs.declared.done.Answered.{Answered}
use Rattle.snb_tool_plan.proofs.run_command.known_counts.Goals as goal

pub loop-one-preserved : goal.loop-one-preserved
loop-one-preserved c =
    All-more (λ (a : Answered). a.rows ≤ MAX_NUMBER) c.args.replies.now c.loop-one.one-index c.one-item.result c.loop-one-test.true c.loop-one.invariant
    (subst (λ (a : Answered). a.rows ≤ MAX_NUMBER) c.one-item.is (let from = c.from.ensures in let small = c.if-from-gt-MAX_NUMBER.false in omega arith))

pub returns : goal.returns
returns c = subst (All (λ (a : Answered). a.rows ≤ MAX_NUMBER)) (take_all c.loop-one.one-index c.args.replies.now c.loop-one-test.false) c.loop-one.invariant
