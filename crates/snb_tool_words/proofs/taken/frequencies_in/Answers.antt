use Rattle.clap.specs.Words.{first_value, found_of}
use Rattle.std.proofs.Common.{codes}
use Rattle.snb_tool_words.specs.Options.{SaysFrequencies, no_frequencies}
use Rattle.snb_tool_words.proofs.FoundLemmas.{none_says, unfound_says}
use Rattle.snb_tool_words.proofs.OptionLemmas.{no_table}
use Rattle.snb_tool_words.proofs.taken.frequencies_in.Goals as goal

pub returns-in_default : goal.returns-in_default
returns-in_default c =
    unfound_says SaysFrequencies no_frequencies c.none.result (first_value (found_of c.args.matches.now) (codes "freq")) c.in_default.ensures (no_table c.none.result c.none.ensures)

pub unreachable-requires : goal.unreachable-requires
unreachable-requires c = none_says SaysFrequencies no_frequencies c.in-Some.word.now _ c.in-Some.ensures c.in-None.ensures c.requires
