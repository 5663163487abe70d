use Rattle.snb_ratio.specs.Chances.{SpellsChance}
use Rattle.snb_ratio.specs.Ratios.{SpellsRatio}
use Rattle.snb_tool_words.specs.Options.{SaysFrequencies}
use Rattle.snb_tool_words.proofs.OptionLemmas.{tells}
use Rattle.snb_tool_words.proofs.options.is_value.Goals as goal

pub returns-in-Ratio : goal.returns-in-Ratio
returns-in-Ratio c = rw (c.in-Ratio.is, c.is_some-in-Ratio.ensures) (tells SpellsRatio c.args.word.now c.ratio_of.result c.ratio_of.ensures)

pub returns-in-Frequencies : goal.returns-in-Frequencies
returns-in-Frequencies c =
    rw (c.in-Frequencies.is, c.is_some-in-Frequencies.ensures) (tells SaysFrequencies c.args.word.now c.frequencies_of.result c.frequencies_of.ensures)

pub returns-in-Chance : goal.returns-in-Chance
returns-in-Chance c = rw (c.in-Chance.is, c.is_some-in-Chance.ensures) (tells SpellsChance c.args.word.now c.chance_of.result c.chance_of.ensures)
