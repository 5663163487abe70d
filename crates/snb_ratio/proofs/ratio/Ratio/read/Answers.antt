use Rattle.std.proofs.Common.{arith}
use Rattle.snb_ratio.proofs.RatioFacts.{one_value}
use Rattle.snb_ratio.proofs.ratio.Ratio.read.Goals as goal

pub returns-in_err-num : goal.returns-in_err-num
returns-in_err-num c = rw c.from_residual.ensures (λ n s. c.in_err-num.ensures n s.2)

pub returns-then-num-eq0 : goal.returns-then-num-eq0
returns-then-num-eq0 c = λ n s.
    let same = one_value c.args.text.now c.in_ok-num.num n c.in_ok-num.ensures s.2 in
    absurd (omega (arith, s.0, s.1))
