use Rattle.std.proofs.Common.{subst, sym}
use Rattle.snb_schema.specs.Frequencies.{HasFrequencies}
use Rattle.snb_trial.specs.Laws.{NamesTwo}
use Rattle.snb_trial.proofs.Said.{frequencies_said, names_two, pairs, table_is}
use Rattle.snb_trial.proofs.terms.trial_frequencies.Goals as goal

pub unreachable-requires : goal.unreachable-requires
unreachable-requires c = c.in-None.ensures pairs frequencies_said

pub returns : goal.returns
returns c =
    let said = c.in-Some.ensures in
    let is = table_is c.in-Some.read (subst (HasFrequencies c.in-Some.read) (c.frequencies_are_one.ensures _ said.0 pairs said.1 frequencies_said) said.2) in
    record { value = is; names = subst NamesTwo (sym is) names_two }
