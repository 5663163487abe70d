use Rattle.snb_book.proofs.Claiming.{claim_is_not_stuck}
use Rattle.snb_book.proofs.law.claim_is_not_stuck.Goals as goal

pub returns : goal.returns
returns c = claim_is_not_stuck
