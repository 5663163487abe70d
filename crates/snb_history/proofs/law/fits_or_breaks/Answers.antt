use Rattle.snb_history.proofs.Deciding.{fits_or_breaks}
use Rattle.snb_history.proofs.law.fits_or_breaks.Goals as goal

pub returns : goal.returns
returns c = fits_or_breaks
