use Rattle.snb_complex_persons.proofs.JobLemmas.{in_country, more_seen}
use Rattle.snb_complex_persons.proofs.jobs.is_there.Goals as goal

pub returns-clause-there : goal.returns-clause-there
returns-clause-there c = in_country c.args.graph.now c.args.country.now _ c.args.organisation _ _ c.eq-there.result c.located.ensures c.as_str.ensures c.eq-there.ensures

pub returns-clause-seen : goal.returns-clause-seen
returns-clause-seen c =
    more_seen c.args.graph.now c.args.country.now c.args.organisation c.eq-there.result _ _ c.in_ok-insert.ensures.updates.0
    (in_country c.args.graph.now c.args.country.now _ c.args.organisation _ _ c.eq-there.result c.located.ensures c.as_str.ensures c.eq-there.ensures) c.requires.seen
