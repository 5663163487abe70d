-- The command has the places so far.
use Rattle.std.proofs.Common.{◌≡◌, [], take}
use Rattle.clap.specs.Words.{app_of}
use Rattle.snb_tool_words.specs.Taken.{app_with}
use Rattle.snb_tool_words.specs.Words.{texts_of}
use Rattle.snb_tool_words.proofs.taken.places_command.Given as goal

abbrev pub invariant-loop-place : goal.invariant-loop-place
invariant-loop-place l = app_of l.command ≡ app_with (texts_of (take l.place-index l.places)) []
