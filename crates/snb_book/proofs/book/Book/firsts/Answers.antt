use Rattle.std.proofs.Common.{◌≡◌, ℕ, List, Bool, length, sym, subst}
use Rattle.snb_history.specs.Schedule.{Schedule}
use Rattle.snb_history.specs.Completion.{is_awaited, least_t}
use Rattle.snb_book.specs.declared.book.Firsts.{Firsts}
use Rattle.snb_book.specs.Kept.{Kept}
use Rattle.snb_book.specs.Heads.{AreFirsts, AreFirstsBelow}
use Rattle.snb_book.proofs.Answering.{firsts_told}
use Rattle.snb_book.proofs.book.Book.firsts.Goals as goal

-- the same, by what is read of the fields
AreFirstsBelow-same : (s s' : Schedule) (heads heads' : List ℕ) (finished finished' : List Bool) (least least' : ℕ) (firsts : Firsts) → s ≡ s' → heads ≡ heads' → finished ≡ finished' → least ≡ least'
    → AreFirstsBelow s heads finished least (length s.kinds) firsts → AreFirstsBelow s' heads' finished' least' (length s'.kinds) firsts
AreFirstsBelow-same s s' heads heads' finished finished' least least' firsts p q r t is =
    subst (λ (x : Schedule). AreFirstsBelow x heads' finished' least' (length x.kinds) firsts) p
    (subst (λ (x : List ℕ). AreFirstsBelow s x finished' least' (length s.kinds) firsts) q
    (subst (λ (x : List Bool). AreFirstsBelow s heads x least' (length s.kinds) firsts) r
    (subst (λ (x : ℕ). AreFirstsBelow s heads finished x (length s.kinds) firsts) t is)))

pub returns : goal.returns
returns c =
    subst (λ (b : Kept). AreFirsts b.schedule b.history c.first_heads.result) c.self.view_is
    (firsts_told _ _ _ _ _ _ _ c.first_heads.result c.self.invariant.0 c.self.invariant.1
    (AreFirstsBelow-same _ _ _ _ _ _ _ _ c.first_heads.result c.schedule-schedule.ensures c.deref.ensures.value c.finished.ensures
    (subst (λ (b : Kept). c.least.result ≡ least_t b.schedule (is_awaited b.schedule b.history)) (sym c.self.view_is) c.least.ensures)
    c.first_heads.ensures))
