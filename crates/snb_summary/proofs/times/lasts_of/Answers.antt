use Rattle.std.proofs.Common.{List, ◌∷◌, [], ◌+◌, ap, length, length-append, arith}
use Rattle.std.specs.Prelude.{slice_index}
use Rattle.snb_history.specs.declared.step.Step.{Step}
use Rattle.snb_summary.proofs.Heeding.{last_told, lasts_more}
use Rattle.snb_summary.proofs.times.lasts_of.Goals as goal

pub loop-op-preserved : goal.loop-op-preserved
loop-op-preserved c =
    let told =
    last_told c.args.schedule.now (slice_index c.args.finishes.now) c.steps-steps.result.now c.loop-op.op _ c.loop-op.last c.last_with-last.result c.steps-steps.ensures.value (omega (arith, ap (λ (xs : List Step). length xs) c.steps-steps.ensures.value, c.loop-op-test.true))
    c.loop-op.invariant.last c.last_with-last.ensures in
    rw c.in_ok-push-2.ensures.items
    (record {
      size = omega (arith, length-append c.loop-op.lasts.items (c.last_with-last.result ∷ []), c.loop-op.invariant.size);
      last = told;
      each = lasts_more c.args.schedule.now (slice_index c.args.finishes.now) c.loop-op.lasts.items c.last_with-last.result (c.loop-op.op + 1) c.loop-op.invariant.size told c.loop-op.invariant.each;
    })
