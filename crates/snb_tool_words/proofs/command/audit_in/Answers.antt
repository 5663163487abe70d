use Rattle.std.proofs.Common.{refl}
use Rattle.clap.specs.Words.{first_value, found_of}
use Rattle.snb_tool_words.proofs.FoundLemmas.{audit_found, has_first, has_second, with_both}
use Rattle.snb_tool_words.proofs.command.audit_in.Goals as goal

pub text_at-requires : goal.text_at-requires
text_at-requires c =
    let f = first_value (found_of c.args.matches.now) in
    let is = audit_found f c.requires in has_first f is.0 _ is.4.is_said.0

pub text_at-requires-2 : goal.text_at-requires-2
text_at-requires-2 c =
    let f = first_value (found_of c.args.matches.now) in
    let is = audit_found f c.requires in has_second f is.0 is.1 _ is.4.is_said.0

pub ratio_in-ratio-requires : goal.ratio_in-ratio-requires
ratio_in-ratio-requires c =
    let f = first_value (found_of c.args.matches.now) in
    let is = audit_found f c.requires in (is.2, is.4.is_said.1)

pub frequencies_in-frequencies-requires : goal.frequencies_in-frequencies-requires
frequencies_in-frequencies-requires c =
    let f = first_value (found_of c.args.matches.now) in
    let is = audit_found f c.requires in (is.3, is.4.is_said.2)

pub returns : goal.returns
returns c =
    let f = first_value (found_of c.args.matches.now) in
    let is = audit_found f c.requires in
    record {
      named = refl;
      suited = is.4.suited;
      is_said = (with_both f is.0 is.1 _ is.4.is_said.0 _ _ c.in_ok-folder.ensures c.in_ok-log.ensures, c.ratio_in-ratio.ensures, c.frequencies_in-frequencies.ensures);
    }
