use Rattle.std.proofs.Common.{[], refl, sym, subst}
use Rattle.snb_read_order.proofs.Laws.{top_begins}
use Rattle.snb_complex_messages.specs.Found.{IsLatest, sent_first}
use Rattle.snb_complex_messages.proofs.sent.none_yet.Goals as goal

pub returns : goal.returns
returns c = subst (IsLatest []) (sym c.new.ensures) (top_begins sent_first 20, refl)
