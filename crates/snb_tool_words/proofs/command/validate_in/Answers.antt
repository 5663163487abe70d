use Rattle.std.proofs.Common.{refl}
use Rattle.clap.specs.Words.{first_value, found_of}
use Rattle.snb_tool_words.proofs.FoundLemmas.{has_first, has_second, validate_found, with_both}
use Rattle.snb_tool_words.proofs.command.validate_in.Goals as goal

pub text_at-requires : goal.text_at-requires
text_at-requires c =
    let f = first_value (found_of c.args.matches.now) in
    let is = validate_found f c.requires in has_first f is.0 _ is.3.is_said.0

pub text_at-requires-2 : goal.text_at-requires-2
text_at-requires-2 c =
    let f = first_value (found_of c.args.matches.now) in
    let is = validate_found f c.requires in has_second f is.0 is.1 _ is.3.is_said.0

pub via_in-via-requires : goal.via_in-via-requires
via_in-via-requires c =
    let f = first_value (found_of c.args.matches.now) in
    let is = validate_found f c.requires in (is.2, is.3.is_said.1)

pub returns : goal.returns
returns c =
    let f = first_value (found_of c.args.matches.now) in
    let is = validate_found f c.requires in
    record { named = refl; suited = is.3.suited; is_said = (with_both f is.0 is.1 _ is.3.is_said.0 _ _ c.in_ok-folder.ensures c.in_ok-cases.ensures, c.via_in-via.ensures) }
