use Rattle.snb_book.proofs.OneClaim.{claim_is_one}
use Rattle.snb_book.proofs.law.claim_is_one.Goals as goal

pub returns : goal.returns
returns c = claim_is_one
