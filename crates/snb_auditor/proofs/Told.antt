-- What an auditor has been told once it refuses an event.
use Rattle.std.proofs.Common.{◌≡◌, ℕ, ◌+◌, ◌<◌, List, length, get_or, take, drop, inl, inr, subst, Some, None}
use Rattle.std.proofs.lemmas.List.{get_or_default}
use Rattle.snb_base.proofs.Laws.{split_here}
use Rattle.snb_history.specs.declared.event.Event.{Event}
use Rattle.snb_history.specs.Schedule.{Schedule}
use Rattle.snb_auditor.specs.declared.verdict.Violation.{Violation}
use Rattle.snb_auditor.specs.declared.verdict.Verdict.{Verdict}
use Rattle.snb_auditor.specs.Verdicts.{IsVerdict, IsViolation}
use Rattle.snb_auditor.specs.Audits.{Audit, HasHeard, IsRefused}

-- the verdict of an auditor that refuses a history's event is that on the whole history
pub refused_told : (s : Schedule) (workers : ℕ) (h : List Event) (i : ℕ) (d : Event) (old new : Audit) (v : Violation) (verdict : Verdict)
    → old ≡ record { schedule = s; workers = workers; fitted = take i h; kept = None } → i < length h → IsRefused old (get_or h i d) v new
    → ((g : List Event) → HasHeard new g → IsVerdict new.schedule new.workers g verdict) → IsVerdict s workers h verdict
refused_told s workers h i d old new v verdict was lt refused claim =
    elim (subst (λ (o : Audit). IsRefused o (get_or h i d) v new) was refused) [
      | inl again ↦ absurd (let kept = again.0 in cc)
      | inr first ↦ by_new first.2 first.1
    ]
  where
    by_new : new ≡ record { schedule = s; workers = workers; fitted = take i h; kept = Some v } → IsViolation s workers (take i h) (get_or h i d) v → IsVerdict s workers h verdict
    by_new keeps violation =
        (subst (λ (a : Audit). (g : List Event) → HasHeard a g → IsVerdict a.schedule a.workers g verdict) keeps claim)
        h (get_or h i d, drop (i + 1) h, split_here h i (get_or h i d) lt (get_or_default h i d (get_or h i d) lt), violation)
