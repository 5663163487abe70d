use Rattle.snb_tool_words.specs.Words.{texts_of}
use Rattle.snb_tool_words.proofs.ReadLemmas.{read_is}
use Rattle.snb_tool_words.proofs.reads.is_read.Goals as goal

pub returns-in-Some : goal.returns-in-Some
returns-in-Some c = read_is c.in-Some.kind c.args.kind.now (texts_of c.args.parameters.now) c.columns.result.now c.are_spelled.result c.in-Some.ensures c.columns.ensures c.are_spelled.ensures
