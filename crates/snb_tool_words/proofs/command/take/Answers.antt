use Rattle.snb_tool_words.specs.Words.{texts_of}
use Rattle.snb_tool_words.proofs.CommandLemmas.{ok_then}
use Rattle.snb_tool_words.proofs.TakenLines.{found_line, line_found, line_taken}
use Rattle.snb_tool_words.proofs.command.take.Goals as goal

pub matches_in-requires : goal.matches_in-requires
matches_in-requires c = (line_taken c.args.name.now (texts_of c.args.words.now) c.requires).takes

pub command_in-requires : goal.command_in-requires
command_in-requires c = line_found c.args.name.now (texts_of c.args.words.now) c.requires _ c.in_ok-matches.ensures

pub returns : goal.returns
returns c = ok_then _ _ c.command_in.result (found_line c.args.name.now (texts_of c.args.words.now) c.requires _ c.in_ok-matches.ensures) c.command_in.ensures
