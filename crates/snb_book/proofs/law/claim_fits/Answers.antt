use Rattle.snb_book.proofs.Claiming.{claim_fits}
use Rattle.snb_book.proofs.law.claim_fits.Goals as goal

pub returns : goal.returns
returns c = claim_fits
