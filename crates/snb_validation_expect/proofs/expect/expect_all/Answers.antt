use Rattle.snb_validation_expect.proofs.Steps.{more_front, none_put, one_more}
use Rattle.snb_validation_model.specs.CaseTexts.{case_line}
use Rattle.snb_validation_expect.proofs.expect.expect_all.Goals as goal
use Rattle.std.specs.List.{flat_map}
use Rattle.snb_base.proofs.Laws.{on_any_err}

pub loop-op-init : goal.loop-op-init
loop-op-init g c = none_put c.args.graph c.args.plan.now c.args.to.now.items c.args.graph c.requires.at

pub loop-op-preserved : goal.loop-op-preserved
loop-op-preserved g c =
    one_more c.args.graph c.args.plan.now c.loop-op.op c.args.to.now.items c.loop-op.to.items c.expect_one.new.to.items c.loop-op.graph c.expect_one.new.graph c.loop-op.invariant
    (c.in_ok-expect_one.ensures.ok c.args.graph c.loop-op.invariant.next)

pub returns-in_err-expect_one-clause-err : goal.returns-in_err-expect_one-clause-err
returns-in_err-expect_one-clause-err g c =
    on_any_err c.from_residual.result
    (more_front c.args.to.now.items c.loop-op.to.items c.expect_one.new.to.items (flat_map case_line c.loop-op.invariant.cases, c.loop-op.invariant.added) c.in_err-expect_one.ensures.err)
