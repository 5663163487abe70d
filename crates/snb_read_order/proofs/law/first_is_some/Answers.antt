use Rattle.snb_read_order.proofs.SomeFacts.{some_first}
use Rattle.snb_read_order.proofs.law.first_is_some.Goals as goal

pub returns : goal.returns
returns g c order cut rows total = some_first order total cut rows
