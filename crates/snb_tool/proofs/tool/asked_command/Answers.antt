use Rattle.snb_tool_outcome.specs.Endings.{asked_by}
use Rattle.snb_tool.specs.Connectors.{given_by}
use Rattle.snb_tool.proofs.AskedLemmas.{asked_of, asked_still, no_table}
use Rattle.snb_tool.proofs.tool.asked_command.Goals as goal

pub returns-then-lacks_table-clause-is : goal.returns-then-lacks_table-clause-is
returns-then-lacks_table-clause-is g c = no_table c.one_command.ensures (asked_by c.args.words.now (given_by c.args.given)) (c.lacks_table.ensures.lacks c.if-lacks_table.true)

pub returns-clause-is : goal.returns-clause-is
returns-clause-is g c = asked_of (asked_by c.args.words.now (given_by c.args.given)) (c.lacks_table.ensures.has c.if-lacks_table.false) c.command_of.result c.command_of.ensures.is_line

pub returns-clause-memory : goal.returns-clause-memory
returns-clause-memory g c = asked_still (asked_by c.args.words.now (given_by c.args.given)) (c.lacks_table.ensures.has c.if-lacks_table.false) c.command_of.result c.command_of.ensures.memory
