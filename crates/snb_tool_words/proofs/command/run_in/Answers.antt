use Rattle.std.proofs.Common.{refl}
use Rattle.clap.specs.Words.{first_value, found_of}
use Rattle.snb_tool_words.proofs.FoundLemmas.{has_first, run_found, with_first}
use Rattle.snb_tool_words.proofs.command.run_in.Goals as goal

pub text_at-requires : goal.text_at-requires
text_at-requires c =
    let f = first_value (found_of c.args.matches.now) in
    let is = run_found f c.requires in has_first f is.0 _ is.4.is_said.0

pub workers_in-workers-requires : goal.workers_in-workers-requires
workers_in-workers-requires c =
    let f = first_value (found_of c.args.matches.now) in
    let is = run_found f c.requires in (is.1, is.4.is_said.1)

pub ratio_in-ratio-requires : goal.ratio_in-ratio-requires
ratio_in-ratio-requires c =
    let f = first_value (found_of c.args.matches.now) in
    let is = run_found f c.requires in (is.2, is.4.is_said.2)

pub frequencies_in-frequencies-requires : goal.frequencies_in-frequencies-requires
frequencies_in-frequencies-requires c =
    let f = first_value (found_of c.args.matches.now) in
    let is = run_found f c.requires in (is.3, is.4.is_said.3)

pub returns : goal.returns
returns c =
    let f = first_value (found_of c.args.matches.now) in
    let is = run_found f c.requires in
    record {
      named = refl;
      suited = is.4.suited;
      is_said = (with_first f is.0 _ is.4.is_said.0 _ c.in_ok-folder.ensures, c.workers_in-workers.ensures, c.ratio_in-ratio.ensures, c.frequencies_in-frequencies.ensures);
    }
