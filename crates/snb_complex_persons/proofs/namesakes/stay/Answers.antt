use Rattle.std.proofs.Common.{rules}
use Rattle.snb_complex_persons.proofs.namesakes.stay.Goals as goal

pub returns : goal.returns
returns c = record {
  organisation = c.located.result.0.now;
  place = c.located.result.1.now;
  at = c.located.ensures;
  is = first_of (cc, search rules);
}
