use Rattle.std.proofs.Common.{rules}
use Rattle.snb_complex_persons.proofs.jobs.job_row.Goals as goal

pub returns : goal.returns
returns c = record {
  person = c.known-person.result.now;
  held = c.known-person.ensures.only;
  organisation = c.requires.organisation;
  at = c.requires.at;
  is = search rules;
}
