use Rattle.snb_tool_words.specs.Taken.{given_of}
use Rattle.snb_tool_words.specs.Options.{no_options}
use Rattle.snb_tool_words.specs.Words.{texts_of}
use Rattle.snb_tool_words.proofs.CommandLemmas.{no_parts}
use Rattle.snb_tool_words.proofs.OptionLemmas.{not_true, say_values}
use Rattle.snb_tool_words.proofs.command.asks_table.Goals as goal

pub is_command-requires : goal.is_command-requires
is_command-requires c = let line = c.in-Some.ensures in say_values no_options line.options _ line.say (λ o. tt)

pub returns-in_default : goal.returns-in_default
returns-in_default c = λ command other. c.in_default.ensures other.name other.plain other.given other.line

pub returns-then-not-is_command : goal.returns-then-not-is_command
returns-then-not-is_command c =
    no_parts (texts_of c.args.words.now) c.in-Some.line.name.now (texts_of c.in-Some.line.plain.now) (given_of c.in-Some.line.given) c.in-Some.ensures
    (λ command are. not_true (c.if-not-is_command.ensures.1 (command, are)))
