use Rattle.serde_json.specs.View.{view}
use Rattle.snb_validation_cases.proofs.CaseFacts.{no_header}
use Rattle.snb_validation_cases.proofs.lines.is_header.Goals as goal

pub returns-in-None : goal.returns-in-None
returns-in-None c = no_header (view c.args.value.now) c.in-None.ensures
