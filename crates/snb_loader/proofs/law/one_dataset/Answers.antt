use Rattle.std.proofs.Common.{[]}
use Rattle.snb_loader.proofs.LawFacts.{dataset_once, dataset_one}
use Rattle.snb_loader.proofs.law.one_dataset.Goals as goal

pub returns-clause-one : goal.returns-clause-one
returns-clause-one c = dataset_one (c.one_saying.ensures []) c.graphs_are_their_rows.ensures

pub returns-clause-refusal : goal.returns-clause-refusal
returns-clause-refusal c = dataset_once (c.one_saying.ensures []) c.graphs_are_their_rows.ensures (c.one_refusal.ensures.one []) (c.one_refusal.ensures.or_not [])
