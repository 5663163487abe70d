use Rattle.snb_book.proofs.SomeClaim.{claim_exists}
use Rattle.snb_book.proofs.law.claim_exists.Goals as goal

pub returns : goal.returns
returns c = claim_exists
