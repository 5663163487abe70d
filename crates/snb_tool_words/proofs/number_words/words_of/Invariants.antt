-- The numbers so far, and those that what is left of the text spells, are those of the text.
use Rattle.std.proofs.Common.{◌++◌}
use Rattle.snb_tool_words.specs.Options.{SpellsWords}
use Rattle.snb_tool_words.proofs.NumberLemmas.{AreAfter}
use Rattle.snb_tool_words.proofs.number_words.words_of.Given as goal

abbrev pub invariant-loop-i : goal.invariant-loop-i
invariant-loop-i l = (more : AreAfter l._i l.rest) × SpellsWords l.text (l.words ++ more.0)
