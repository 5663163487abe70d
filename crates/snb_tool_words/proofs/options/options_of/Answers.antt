use Rattle.std.proofs.Common.{subst}
use Rattle.std.specs.Option.{MatchOption}
use Rattle.snb_tool_words.specs.Options.{OptionWords, Say}
use Rattle.snb_tool_words.specs.Taken.{given_of}
use Rattle.snb_tool_words.specs.Words.{texts_of}
use Rattle.snb_tool_words.proofs.options.options_of.Goals as goal

pub returns : goal.returns
returns c =
    subst (λ (g : OptionWords). MatchOption c.with_options.result ((given : OptionWords) → ¬ Say g (texts_of c.args.words.now) given) (λ options. Say g (texts_of c.args.words.now) (given_of options)))
    c.none.ensures c.with_options.ensures
