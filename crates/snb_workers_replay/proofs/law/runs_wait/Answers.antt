use Rattle.snb_workers_replay.proofs.Waiting.{runs_wait}
use Rattle.snb_workers_replay.proofs.law.runs_wait.Goals as goal

pub returns : goal.returns
returns c = runs_wait c.completion_waits.ensures
