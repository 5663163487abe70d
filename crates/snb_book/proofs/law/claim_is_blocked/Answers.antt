use Rattle.snb_book.proofs.Claiming.{claim_is_blocked}
use Rattle.snb_book.proofs.law.claim_is_blocked.Goals as goal

pub returns : goal.returns
returns c = claim_is_blocked
