use Rattle.std.proofs.Common.{◌<◌, ◌^◌, arith}
use Rattle.snb_base.proofs.Digits.{has_room}
use Rattle.snb_base.proofs.number.read_number.Goals as goal

pub overflow_mul-value : goal.overflow_mul-value
overflow_mul-value c =
    let room : c.loop-digit.value < 10 ^ 18 = has_room _ c.loop-digit.digit-index c.loop-digit.invariant.0 (omega arith) in
    omega arith

pub overflow_add-value : goal.overflow_add-value
overflow_add-value c =
    let room : c.loop-digit.value < 10 ^ 18 = has_room _ c.loop-digit.digit-index c.loop-digit.invariant.0 (omega arith) in
    omega arith
