use Rattle.snb_complex_messages.proofs.Heads.{IsChoosing}
use Rattle.snb_complex_messages.proofs.liked.best_of.Given as goal

abbrev pub invariant-loop-like : goal.invariant-loop-like
invariant-loop-like l = IsChoosing l.likes l.like-index l.head l.best.items
