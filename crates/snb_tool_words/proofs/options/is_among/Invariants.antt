-- The option isn't one of those so far.
use Rattle.std.proofs.Common.{Contains, take}
use Rattle.snb_tool_words.proofs.options.is_among.Given as goal

abbrev pub invariant-loop-one : goal.invariant-loop-one
invariant-loop-one l = ¬ Contains (take l.one-index l.options) l.option
