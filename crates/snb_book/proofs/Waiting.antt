-- Whether a head waits for the operation before it in its forum lane, and who has that in hand.
use Rattle.std.proofs.Common.{◌≡◌, ℕ, ◌<◌, List, Bool, true, false, inl, inr, sym, ◌∙◌, subst, arith, Some}
use Rattle.std.specs.Prelude.{slice_get}
use Rattle.std.proofs.lemmas.Bool.{cases_Bool, cases_lt}
use Rattle.snb_history.specs.declared.event.Event.{Event}
use Rattle.snb_history.specs.declared.event.Event.TheVariants.{Start}
use Rattle.snb_history.specs.declared.step.LaneKind.TheVariants.{Forum}
use Rattle.snb_history.specs.Schedule.{Schedule, IsOperation, IsPlanned}
use Rattle.snb_history.specs.History.{finished, hand}
use Rattle.snb_history.specs.Rules.{V1, IsLegal, LaneIsFinished}
use Rattle.snb_completion.specs.Progress.{flag}
use Rattle.snb_book.specs.Claims.{HoldsBefore, IsPlanHead}
use Rattle.snb_book.specs.Heads.{IsFree, IsPredecessor}
use Rattle.snb_book.proofs.Places.{has_predecessor}
use Rattle.snb_history.proofs.Laws.{forum_goes_in_turn, hand_has_start, holder_holds, keeps_legal}

-- once the operation before a head is finished, all before it are
pub all_before : (s : Schedule) (workers : ℕ) (h : List Event) → IsLegal s workers h → (op p : ℕ) → IsPlanHead s h op → IsPredecessor s op p → finished h p ≡ true → LaneIsFinished s h op
all_before s workers h legal op p head is over forum j before =
    elim (cases_lt j p) [
      | inl less ↦
          forum_goes_in_turn s workers h legal j p
          (subst (λ (l : ℕ). slice_get s.kinds l ≡ Some Forum) (sym is.before.1) forum)
          (less, before.1 ∙ sym is.before.1) (head.1.led p is.before)
      | inr more ↦
          let e : p ≡ j = (let l = is.last j before in omega arith) in
          subst (λ (i : ℕ). finished h i ≡ true) e over
    ]

-- a head isn't busy exactly where it is free by the flags of what is finished
pub not_busy_where_free : (s : Schedule) (workers : ℕ) (h : List Event) (flags : List Bool) → IsPlanned s → IsLegal s workers h
    → ((k : ℕ) → IsOperation s k → flag flags k ≡ finished h k) → (op : ℕ) → IsPlanHead s h op → IsFree s flags op → LaneIsFinished s h op
not_busy_where_free s workers h flags planned legal over op head free forum j before =
    let p = has_predecessor s planned op j head.0 forum before in
    let within : IsOperation s p.0 = (let w = head.0 in let l = p.1.before.0 in omega arith) in
    all_before s workers h legal op p.0 head p.1 (sym (over p.0 within) ∙ free p.0 p.1) forum j before

pub free_where_not_busy : (s : Schedule) (h : List Event) (flags : List Bool) → ((k : ℕ) → IsOperation s k → flag flags k ≡ finished h k)
    → (op : ℕ) → IsPlanHead s h op → LaneIsFinished s h op → IsFree s flags op
free_where_not_busy s h flags over op head free p is =
    let within : IsOperation s p = (let w = head.0 in let l = is.before.0 in omega arith) in
    over p within ∙ free is.forum p is.before

-- what a busy head waits for isn't finished
pub open_before : (s : Schedule) (workers : ℕ) (h : List Event) → IsLegal s workers h → (op p : ℕ) → IsPlanHead s h op → ¬ LaneIsFinished s h op → IsPredecessor s op p → finished h p ≡ false
open_before s workers h legal op p head busy is =
    elim (cases_Bool (finished h p)) [
      | inl over ↦ absurd (busy (all_before s workers h legal op p head is over))
      | inr open_yet ↦ open_yet
    ]

-- and one of the workers has it in hand
pub held_before : (s : Schedule) (workers : ℕ) (h : List Event) → IsLegal s workers h → (op p : ℕ) → IsPlanHead s h op → ¬ LaneIsFinished s h op → IsPredecessor s op p
    → (w : ℕ) × (w < workers) × (hand h w ≡ Some p)
held_before s workers h legal op p head busy is =
    let w = (keeps_legal s workers h legal).open_held p (head.1.led p is.before) (open_before s workers h legal op p head busy is) in
    let f = hand_has_start w.0 p h w.1 in
    (w.0, ((legal.fits f.0 (Start p w.0 f.2) f.1 f.3).obeys V1).1.known, w.1)

pub holds_before : (s : Schedule) (workers : ℕ) (h : List Event) (op p w : ℕ) → IsLegal s workers h → IsPlanHead s h op → ¬ LaneIsFinished s h op → IsPredecessor s op p
    → hand h w ≡ Some p → HoldsBefore s h op w
holds_before s workers h op p w legal head busy is held =
    (p, is.before, open_before s workers h legal op p head busy is, (holder_holds s workers h legal p w).1 held)
