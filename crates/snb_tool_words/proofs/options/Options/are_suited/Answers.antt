use Rattle.std.proofs.Common.{arith, refl}
use Rattle.snb_tool_words.specs.Options.{IsSuited}
use Rattle.snb_tool_words.specs.Taken.{given_of}
use Rattle.snb_tool_words.proofs.OptionLemmas.{each_option}
use Rattle.snb_tool_words.proofs.options.Options.are_suited.Goals as goal

pub returns : goal.returns
returns c = (
  λ _. each_option (IsSuited c.args.admitted.now c.args.needed.now (given_of c.args.self.now)) (c.loop-option.invariant 0 (omega arith)) (c.loop-option.invariant 1 (omega arith))
      (c.loop-option.invariant 2 (omega arith)) (c.loop-option.invariant 3 (omega arith))
      (c.loop-option.invariant 4 (omega arith)) (c.loop-option.invariant 5 (omega arith)),
  λ _. refl,
)
