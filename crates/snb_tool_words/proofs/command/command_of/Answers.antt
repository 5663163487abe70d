use Rattle.std.proofs.Common.{refl}
use Rattle.snb_tool_words.specs.Taken.{given_of}
use Rattle.snb_tool_words.specs.Options.{no_options}
use Rattle.snb_tool_words.specs.Words.{texts_of}
use Rattle.snb_tool_words.proofs.CommandLemmas.{no_parts, not_other, runnable}
use Rattle.snb_tool_words.proofs.OptionLemmas.{not_true, say_values}
use Rattle.snb_tool_words.proofs.command.command_of.Goals as goal
use Rattle.snb_base.proofs.Laws.{on_any_err}

pub is_command-requires : goal.is_command-requires
is_command-requires c = let line = c.in-Some.ensures in say_values no_options line.options _ line.say (λ o. tt)

pub returns-in_default-clause-is_line : goal.returns-in_default-clause-is_line
returns-in_default-clause-is_line c = λ command other. c.in_default.ensures other.name other.plain other.given other.line

pub returns-then-not-is_command-clause-is_line : goal.returns-then-not-is_command-clause-is_line
returns-then-not-is_command-clause-is_line c =
    no_parts (texts_of c.args.words.now) c.in-Some.line.name.now (texts_of c.in-Some.line.plain.now) (given_of c.in-Some.line.given) c.in-Some.ensures
    (λ command are. not_true (c.if-not-is_command.ensures.1 (command, are)))

pub returns-in_err-take-clause-memory : goal.returns-in_err-take-clause-memory
returns-in_err-take-clause-memory c = on_any_err c.from_residual.result
    (not_other (texts_of c.args.words.now) c.in-Some.line.name.now (texts_of c.in-Some.line.plain.now) (given_of c.in-Some.line.given) c.in-Some.ensures (c.if-not-is_command.ensures.0 refl))

pub returns-clause-runnable : goal.returns-clause-runnable
returns-clause-runnable c = runnable (texts_of c.args.words.now) c.in_ok-take.field-0 c.in_ok-take.ensures
