use Rattle.snb_read_order.proofs.OneFacts.{one_first}
use Rattle.snb_read_order.proofs.law.first_is_one.Goals as goal

pub returns : goal.returns
returns g c order cut rows a b total one first second = one_first order total cut rows a b one first second
