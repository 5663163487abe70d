use Rattle.std.proofs.Common.{rules, ◌∙◌}
use Rattle.snb_read_order.proofs.Laws.{compares}
use Rattle.snb_complex_messages.proofs.SentLemmas.{sent_total}
use Rattle.snb_complex_messages.specs.Found.{sent_first}
use Rattle.snb_complex_messages.proofs.sent.offer.Goals as goal

pub returns : goal.returns
returns c found is = (c.in_ok-offer.ensures.top sent_first found sent_total (compares _ _ sent_first (λ a r q k. search rules)) is.0, c.in_ok-offer.ensures.most ∙ is.1)
