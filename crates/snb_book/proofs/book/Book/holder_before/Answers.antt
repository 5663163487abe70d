use Rattle.std.proofs.Common.{◌≡◌, ℕ, ◌<◌, List, Bool, length, get_or, ap, sym, subst, ◌∙◌, arith, Option, Some, None}
use Rattle.snb_history.specs.Schedule.{Schedule}
use Rattle.snb_history.specs.History.{hand}
use Rattle.snb_history.specs.Rules.{IsLegal, LaneIsFinished}
use Rattle.snb_completion.specs.Progress.{Progress}
use Rattle.snb_book.specs.Kept.{Kept}
use Rattle.snb_book.specs.Book.{IsSoundBook, IsTold}
use Rattle.snb_book.specs.Claims.{HoldsBefore, IsPlanHead}
use Rattle.snb_book.specs.Heads.{IsPredecessor}
use Rattle.snb_book.proofs.Waiting.{held_before, holds_before}
use Rattle.snb_book.proofs.book.Book.holder_before.Goals as goal

-- some hand has it, by the hands that are kept
kept_before : (now inside : Kept) (capacity : ℕ) (times : Progress) (heads : List ℕ) (held hands : List (Option ℕ)) (latest : ℕ) (stopped : Bool) (s : Schedule) (op p : ℕ)
    → inside ≡ now → IsSoundBook inside capacity → IsTold inside times heads held latest stopped → hands ≡ held → s ≡ now.schedule
    → IsPlanHead now.schedule now.history op → ¬ LaneIsFinished now.schedule now.history op → IsPredecessor s op p
    → (w : ℕ) × (w < length hands) × (get_or hands w None ≡ Some p)
kept_before now inside capacity times heads held hands latest stopped s op p same kept told of_hands of_plan head busy is =
    let w =
    held_before inside.schedule inside.workers inside.history kept.legal op p
    (subst (λ (b : Kept). IsPlanHead b.schedule b.history op) (sym same) head)
    (subst (λ (b : Kept). ¬ LaneIsFinished b.schedule b.history op) (sym same) busy)
    (subst (λ (b : Kept). IsPredecessor b.schedule op p) (sym same) (subst (λ (x : Schedule). IsPredecessor x op p) of_plan is)) in
    (w.0, (let l = w.1 in let e = told.a_hand_each in rw of_hands (omega arith)), rw of_hands (told.hands w.0 w.1 ∙ w.2))

pub holder_of-requires-clause-held : goal.holder_of-requires-clause-held
holder_of-requires-clause-held c =
    kept_before _ _ _ _ _ _ c.deref.result.now _ _ _ c.args.op c.in-Some.before c.self.view_is c.self.invariant.0 c.self.invariant.1 c.deref.ensures.value c.schedule.ensures c.requires.head c.requires.busy c.in-Some.ensures

-- and whoever has it by these hands holds it
kept_holds : (now inside : Kept) (capacity : ℕ) (times : Progress) (heads : List ℕ) (held hands : List (Option ℕ)) (latest : ℕ) (stopped : Bool) (s : Schedule) (op p w : ℕ)
    → inside ≡ now → IsSoundBook inside capacity → IsTold inside times heads held latest stopped → hands ≡ held → s ≡ now.schedule
    → IsPlanHead now.schedule now.history op → ¬ LaneIsFinished now.schedule now.history op → IsPredecessor s op p
    → w < length hands → get_or hands w None ≡ Some p → HoldsBefore now.schedule now.history op w
kept_holds now inside capacity times heads held hands latest stopped s op p w same kept told of_hands of_plan head busy is within has =
    let known : w < inside.workers = (let e = told.a_hand_each in let l = ap length of_hands in omega arith) in
    holds_before now.schedule now.workers now.history op p w
    (subst (λ (b : Kept). IsLegal b.schedule b.workers b.history) same kept.legal)
    head busy (subst (λ (x : Schedule). IsPredecessor x op p) of_plan is)
    (subst (λ (b : Kept). hand b.history w ≡ Some p) same (sym (told.hands w known) ∙ subst (λ (l : List (Option ℕ)). get_or l w None ≡ Some p) of_hands has))

pub returns : goal.returns
returns c =
    kept_holds _ _ _ _ _ _ c.deref.result.now _ _ _ c.args.op c.in-Some.before c.holder_of.result c.self.view_is c.self.invariant.0 c.self.invariant.1 c.deref.ensures.value c.schedule.ensures
    c.requires.head c.requires.busy c.in-Some.ensures c.holder_of.ensures.within c.holder_of.ensures.holds
