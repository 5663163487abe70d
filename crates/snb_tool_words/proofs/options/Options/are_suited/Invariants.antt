-- The options so far are suited.
use Rattle.std.proofs.Common.{◌<◌, get_or, ℕ}
use Rattle.snb_tool_words.specs.declared.options.OptionName.TheVariants.{Workers}
use Rattle.snb_tool_words.specs.Options.{IsSuited}
use Rattle.snb_tool_words.specs.Taken.{given_of}
use Rattle.snb_tool_words.proofs.options.Options.are_suited.Given as goal

abbrev pub invariant-loop-option : goal.invariant-loop-option
invariant-loop-option l = (k : ℕ) → k < l.option-index → IsSuited l.admitted l.needed (given_of l.self) (get_or l.option-items k Workers)
