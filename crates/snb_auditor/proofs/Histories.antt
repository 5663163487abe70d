-- What is read of a history from its front.
use Rattle.std.proofs.Common.{◌≡◌, ℕ, zero, suc, ◌+◌, ◌*◌, ◌<◌, ◌≤◌, List, [], ◌∷◌, ◌++◌, length, get_or, take, drop, false, add-one, refl, sym, ap, ◌∙◌, subst, arith}
use Rattle.std.specs.Prelude.{All}
use Rattle.std.proofs.lemmas.List.{get_or_default}
use Rattle.snb_base.proofs.Laws.{split_here}
use Rattle.snb_history.specs.declared.event.Event.{Event}
use Rattle.snb_history.specs.declared.event.Event.TheVariants.{Start, Finish, Halt}
use Rattle.snb_history.specs.declared.step.Step.{Step}
use Rattle.snb_history.specs.Schedule.{Schedule}
use Rattle.snb_history.specs.History.{halts, halted}
use Rattle.snb_history.specs.Rules.{V1, Fits, IsLegal}
use Rattle.snb_history.proofs.Laws.{halted-push}
use Rattle.snb_book.specs.Kept.{Kept}
use Rattle.snb_book.specs.Asked.{AllFinished}
use Rattle.snb_auditor.specs.declared.verdict.Verdict.TheVariants.{TooLate, Accepted}
use Rattle.snb_auditor.specs.Verdicts.{IsFirstHalt, IsVerdict, NobodyHalted, on_time}
use Rattle.snb_auditor.specs.Judging.{IsStartWithin}

take_next : {X : Type 0} (xs : List X) (i : ℕ) (d : X) → i < length xs → take (suc i) xs ≡ take i xs ++ get_or xs i d ∷ []
take_next [] i d lt = absurd (omega arith)
take_next (x ∷ xs) zero d lt = refl
take_next (x ∷ xs) (suc i) d lt = ap (λ ys. x ∷ ys) (take_next xs i d (omega arith))

-- one more element is taken
pub take_more : {X : Type 0} (xs : List X) (i : ℕ) (d : X) → i < length xs → take (i + 1) xs ≡ take i xs ++ get_or xs i d ∷ []
take_more xs i d lt = rw add-one (take_next xs i d lt)

-- the event is no Halt
abbrev pub IsNoHalt : Event → Type 0
IsNoHalt e = (w : ℕ) → e ≡ Halt w → ⊥

stops_nobody : (e : Event) → IsNoHalt e → (w : ℕ) → halts w e ≡ false
stops_nobody (Start op worker at) none w = refl
stops_nobody (Finish op worker at front) none w = refl
stops_nobody (Halt worker) none w = absurd (none worker refl)

-- nobody has halted after an event that is no Halt, where nobody had
pub nobody_more : (h : List Event) (i : ℕ) (d : Event) → i < length h → IsNoHalt (get_or h i d) → NobodyHalted (take i h) → NobodyHalted (take (i + 1) h)
nobody_more h i d lt none nobody w =
    ap (λ (g : List Event). halted g w) (take_more h i d lt)
    ∙ (halted-push (take i h) (get_or h i d) w ∙ rw (stops_nobody (get_or h i d) none w) (nobody w))

-- the first Halt
pub halts_first : (h : List Event) (i : ℕ) (d : Event) (worker : ℕ) → i < length h → get_or h i d ≡ Halt worker → NobodyHalted (take i h) → IsFirstHalt h worker
halts_first h i d worker lt is nobody = (
  take i h,
  drop (i + 1) h,
  subst (λ (e : Event). take i h ++ e ∷ drop (i + 1) h ≡ h) is (split_here h i (get_or h i d) lt (get_or_default h i d (get_or h i d) lt)),
  nobody,
)

start_within : (s : Schedule) (workers : ℕ) (g : List Event) (e : Event) → Fits s workers g e → IsStartWithin s e
start_within s workers g (Start op worker at) fits = (fits.obeys V1).0
start_within s workers g (Finish op worker at front) fits = tt
start_within s workers g (Halt worker) fits = tt

-- in a legal history each Start is that of an operation
pub starts_within : (s : Schedule) (workers : ℕ) (h : List Event) → IsLegal s workers h → All (IsStartWithin s) h
starts_within s workers h legal k d lt =
    start_within s workers (take k h) (get_or h k d)
    (legal.fits (take k h) (get_or h k d) (drop (k + 1) h) (split_here h k (get_or h k d) lt (get_or_default h k d (get_or h k d) lt)))

-- the verdict by the counts
pub late_told : (b : Kept) (h : List Event) (steps : List Step) (these all : ℕ) → h ≡ b.history → steps ≡ b.schedule.steps → IsLegal b.schedule b.workers h → NobodyHalted h
    → AllFinished b.schedule b.history → these ≡ on_time b.schedule h → all ≡ length steps → 100 * these < 95 * all → IsVerdict b.schedule b.workers h (TooLate these all)
late_told b h steps these all same of_plan legal nobody over counted size late =
    let whole : all ≡ length b.schedule.steps = size ∙ ap length of_plan in (
      legal,
      record { all_finished = subst (λ (g : List Event). AllFinished b.schedule g) (sym same) over; none_halted = nobody },
      counted,
      whole,
      omega arith,
    )

pub accepted_told : (b : Kept) (h : List Event) (steps : List Step) (these all : ℕ) → h ≡ b.history → steps ≡ b.schedule.steps → IsLegal b.schedule b.workers h → NobodyHalted h
    → AllFinished b.schedule b.history → these ≡ on_time b.schedule h → all ≡ length steps → 95 * all ≤ 100 * these → IsVerdict b.schedule b.workers h (Accepted these all)
accepted_told b h steps these all same of_plan legal nobody over counted size enough =
    let whole : all ≡ length b.schedule.steps = size ∙ ap length of_plan in (
      legal,
      record { all_finished = subst (λ (g : List Event). AllFinished b.schedule g) (sym same) over; none_halted = nobody },
      counted,
      whole,
      omega arith,
    )
