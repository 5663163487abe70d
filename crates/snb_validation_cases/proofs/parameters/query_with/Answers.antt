use Rattle.std.proofs.Common.{rules}
use Rattle.snb_validation_cases.proofs.KindFacts.{stops_along}
use Rattle.snb_validation_cases.proofs.parameters.query_with.Goals as goal

pub returns-in-Err-Bad : goal.returns-in-Err-Bad
returns-in-Err-Bad c query h = search (stops_along, rules)
