use Rattle.std.proofs.Common.{refl}
use Rattle.clap.specs.Words.{first_value, found_of}
use Rattle.snb_tool_words.proofs.FoundLemmas.{expect_found, has_first, with_first}
use Rattle.snb_tool_words.proofs.command.expect_in.Goals as goal

pub text_at-requires : goal.text_at-requires
text_at-requires c =
    let f = first_value (found_of c.args.matches.now) in
    let is = expect_found f c.requires in has_first f is.0 _ is.2.is_said.0

pub frequencies_in-frequencies-requires : goal.frequencies_in-frequencies-requires
frequencies_in-frequencies-requires c =
    let f = first_value (found_of c.args.matches.now) in
    let is = expect_found f c.requires in (is.1, is.2.is_said.1)

pub returns : goal.returns
returns c =
    let f = first_value (found_of c.args.matches.now) in
    let is = expect_found f c.requires in
    record { named = refl; suited = is.2.suited; is_said = (with_first f is.0 _ is.2.is_said.0 _ c.in_ok-folder.ensures, c.frequencies_in-frequencies.ensures) }
