use Rattle.std.proofs.Common.{◌∙◌, sym}
use Rattle.snb_tool_words.specs.Words.{texts_of}
use Rattle.snb_tool.proofs.AskedLemmas.{asks_none}
use Rattle.snb_tool.proofs.tool.lacks_table.Goals as goal

pub returns-in-None-clause-has : goal.returns-in-None-clause-has
returns-in-None-clause-has g c = λ none command line asked. absurd (asks_none c.one_command.ensures (texts_of c.args.words.now) c.asks_table.result c.asks_table.ensures (sym c.unwrap_or.ensures ∙ none) command line asked)
