use Rattle.snb_tool_words.proofs.options.chance_of.Goals as goal

pub returns : goal.returns
returns c = rw c.as_bytes.ensures.value at c.read.ensures
