use Rattle.std.proofs.Common.{refl}
use Rattle.clap.specs.Words.{first_value, found_of}
use Rattle.snb_tool_words.specs.Options.{SaysWorkers}
use Rattle.snb_tool_words.specs.Taken.{SaysSize}
use Rattle.snb_tool_words.proofs.FoundLemmas.{as_must, at_first, at_second, of_must, trial_found}
use Rattle.snb_tool_words.proofs.command.trial_in.Goals as goal

pub size_in-size-requires : goal.size_in-size-requires
size_in-size-requires c =
    let f = first_value (found_of c.args.matches.now) in
    let is = trial_found f c.requires in
    let said = is.2.is_said in
    (is.0, as_must SaysSize _ said.0 is.0 (at_first f said.0 _ said.2) said.3.0)

pub workers_in-workers-requires : goal.workers_in-workers-requires
workers_in-workers-requires c =
    let f = first_value (found_of c.args.matches.now) in
    let is = trial_found f c.requires in
    let said = is.2.is_said in
    (is.1, as_must SaysWorkers _ said.1 is.1 (at_second f said.0 said.1 _ said.2) said.3.1)

pub returns : goal.returns
returns c =
    let f = first_value (found_of c.args.matches.now) in
    let is = trial_found f c.requires in
    let said = is.2.is_said in
    let size = of_must SaysSize _ said.0 _ (at_first f said.0 _ said.2) c.size_in-size.ensures in
    let workers = of_must SaysWorkers _ said.1 _ (at_second f said.0 said.1 _ said.2) c.workers_in-workers.ensures in
    record { named = refl; suited = is.2.suited; is_said = (said.0, said.1, said.2, (size, workers)) }
