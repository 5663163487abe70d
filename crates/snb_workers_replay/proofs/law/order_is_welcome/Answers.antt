use Rattle.snb_workers_replay.proofs.InOrder.{welcome_in_order}
use Rattle.snb_workers_replay.proofs.law.order_is_welcome.Goals as goal

pub returns : goal.returns
returns c = welcome_in_order
