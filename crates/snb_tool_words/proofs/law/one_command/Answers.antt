use Rattle.snb_tool_words.proofs.CommandLemmas.{one_command}
use Rattle.snb_tool_words.proofs.law.one_command.Goals as goal

pub returns : goal.returns
returns c = one_command c.one_ratio.ensures c.one_chance.ensures c.frequencies_are_one.ensures c.one_value.ensures.list
