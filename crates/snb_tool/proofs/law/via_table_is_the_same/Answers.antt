use Rattle.snb_tool.proofs.ViaLemmas.{via_table_is_the_same}
use Rattle.snb_tool.proofs.law.via_table_is_the_same.Goals as goal

pub returns : goal.returns
returns c = via_table_is_the_same c.one_command.ensures c.refusal_is_one.ensures.one c.refusal_is_one.ensures.or_not c.one_dataset.ensures.one c.one_cases_refusal.ensures.tally
