use Rattle.snb_ratio.specs.Ratios.{SpellsRatio}
use Rattle.snb_tool_words.proofs.FoundLemmas.{none_says}
use Rattle.snb_tool_words.proofs.taken.ratio_in.Goals as goal

pub unreachable-requires : goal.unreachable-requires
unreachable-requires c = none_says SpellsRatio 1000000 c.in-Some.word.now _ c.in-Some.ensures c.in-None.ensures c.requires
