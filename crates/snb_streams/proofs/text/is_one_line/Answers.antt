use Rattle.snb_streams.proofs.LineFacts.{cut_ends}
use Rattle.snb_streams.proofs.text.is_one_line.Goals as goal

pub returns-in-Some : goal.returns-in-Some
returns-in-Some c = (λ t. absurd cc, λ both. absurd (cut_ends c.in-Some.ensures both.1))
