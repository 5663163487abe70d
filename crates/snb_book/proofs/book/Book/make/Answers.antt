use Rattle.std.proofs.Common.{◌≡◌, length, ap, arith}
use Rattle.snb_book.proofs.Telling.{IsSoundBook-none, IsTold-none}
use Rattle.snb_book.proofs.book.Book.make.Goals as goal

pub invariant_of-result : goal.invariant_of-result
invariant_of-result c =
    let ops : length c.steps-ops.result.now ≡ length c.args.schedule.now.steps = ap length c.steps-ops.ensures.value in
    let lanes : length c.kinds-lanes.result.now ≡ length c.args.schedule.now.kinds = ap length c.kinds-lanes.ensures.value in
    rw (c.in_ok-new.ensures, c.in_ok-with_capacity.ensures.items, c.in_ok-first_places.ensures, c.in_ok-empty_hands.ensures, lanes) (
      IsSoundBook-none c.args.schedule.now c.args.workers _ c.steps-ops.ensures.planned c.requires.few
          (let room = c.in_ok-with_capacity.ensures.exact in omega arith),
      IsTold-none c.args.schedule.now c.args.workers c.steps-ops.ensures.planned,
    )
