use Rattle.snb_completion.specs.Progress.{flag}
use Rattle.snb_completion.proofs.law.times_decide.Goals as goal
use Rattle.snb_history.proofs.Laws.{decides_where}

pub returns : goal.returns
returns c p op dependent small =
    let d = decides_where p.schedule (flag p.finished) op small in
    (λ all. d.0 (λ is. all) dependent, λ le. d.1 (λ is. le) dependent)
