-- The text is numbers where what is left of it is.
use Rattle.std.proofs.Common.{◌↔◌, List, ℕ}
use Rattle.snb_tool_words.specs.Options.{SpellsWords}
use Rattle.snb_tool_words.proofs.NumberLemmas.{AreAfter}
use Rattle.snb_tool_words.proofs.number_words.are_words.Given as goal

abbrev pub invariant-loop-i : goal.invariant-loop-i
invariant-loop-i l = ((words : List ℕ) × SpellsWords l.text words) ↔ AreAfter l._i l.rest
