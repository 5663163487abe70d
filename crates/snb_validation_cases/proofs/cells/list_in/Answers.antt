use Rattle.serde_json.specs.View.{view}
use Rattle.snb_validation_cases.proofs.ReplyFacts.{no_list}
use Rattle.snb_validation_cases.proofs.cells.list_in.Goals as goal

pub returns-in-None : goal.returns-in-None
returns-in-None c x h = no_list (view c.args.value.now) (rw c.in-None.is at c.in_ok-texts.ensures) x h
