-- The words so far are the texts so far.
use Rattle.std.proofs.Common.{◌≡◌, take}
use Rattle.snb_tool_words.specs.Words.{texts_of}
use Rattle.snb_edge.proofs.program.lend.Given as goal

abbrev pub invariant-loop-text : goal.invariant-loop-text
invariant-loop-text l = texts_of l.words.items ≡ take l.text-index l.text-items
