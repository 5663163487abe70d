use Rattle.std.proofs.Common.{◌≡◌, length, ap}
use Rattle.snb_completion.proofs.Keeping.{AreTimesOf-new}
use Rattle.snb_completion.proofs.times.Times.new.Goals as goal

pub invariant_of-result : goal.invariant_of-result
invariant_of-result c =
    let count : length c.steps-count.result.now ≡ length c.args.schedule.now.steps = ap length c.steps-count.ensures.value in
    rw (c.in_ok-try_copy.ensures, c.in_ok-none_set.ensures, c.in_ok-none_set-2.ensures, count)
    (AreTimesOf-new c.args.schedule.now _ _ c.steps-count.ensures.planned c.in_ok-dependencies.ensures c.in_ok-lanes_of.ensures.counted c.in_ok-lanes_of.ensures.each)
