-- Who holds what, in a legal history.
use Rattle.std.proofs.Common.{◌≡◌, ℕ, List, [], ◌∷◌, ◌++◌, true, cond, inl, inr, refl, sym, ap, ◌∙◌, subst, arith, Option, Some, None, eqb}
use Rattle.std.specs.Prelude.{◌↔◌}
use Rattle.std.proofs.lemmas.Bool.{cases_eq, eq-eqb, ne_eqb}
use Rattle.std.proofs.lemmas.Bool.Decides.{nat_tests}
use Rattle.std.proofs.lemmas.List.Folds.{list_any-append}
use Rattle.snb_history.specs.declared.event.Event.{Event}
use Rattle.snb_history.specs.declared.event.Event.TheVariants.{Start, Finish, Halt}
use Rattle.snb_history.specs.Schedule.{Schedule}
use Rattle.snb_history.specs.History.{starts, moves, started, hand, holder}
use Rattle.snb_history.specs.Rules.{Fits, IsLegal, V2, V6, V7}
use Rattle.snb_history.specs.Laws.{HandIsTheirs, HolderHolds}
use Rattle.snb_history.proofs.Pushes.{find-reverse_push}
use Rattle.snb_history.proofs.Histories.{IsLegal-front, Fits-last}
use Rattle.snb_history.proofs.Held.{KeepsAt, keeps_legal, hand-push}
use Rattle.snb_history.proofs.Once.{hand_has_start}
use Rattle.snb_base.proofs.Laws.{by_push, same_list_split}

started-mid : (g : List Event) (k w at : ℕ) (r : List Event) → started (g ++ Start k w at ∷ r) k ≡ true
started-mid g k w at r = let a = list_any-append (starts k) g (Start k w at ∷ r) in let e = eq-eqb k k refl in grind arith

-- an operation that starts after it was started breaks V2
starts_late : (s : Schedule) (workers : ℕ) (h g : List Event) (k w v a b : ℕ) (r m : List Event) → IsLegal s workers h → g ++ Start k v b ∷ r ≡ h
    → (d : List Event) → d ++ Start k w a ∷ m ≡ g → ⊥
starts_late s workers h g k w v a b r m legal at_g d at_d =
    let fresh = ((legal.fits g (Start k v b) r at_g).obeys V2).fresh in
    let begun : started g k ≡ true = subst (λ (l : List Event). started l k ≡ true) at_d (started-mid d k w a m) in
    cc

pub hand_is_theirs : HandIsTheirs
hand_is_theirs s workers h legal w k = (
  λ held. (hand_has_start w k h held, keeps.held_open w k held),
  λ theirs.
      let mine = theirs.0 in
      let begun : started h k ≡ true = subst (λ (l : List Event). started l k ≡ true) mine.3 (started-mid mine.0 k w mine.2 mine.1) in
      let v = keeps.open_held k begun theirs.1 in
      let other = hand_has_start v.0 k h v.1 in
      elim (same_list_split mine.0 (Start k w mine.2) mine.1 other.0 (Start k v.0 other.2) other.1 (mine.3 ∙ sym other.3)) [
        | inl p ↦ (let same : Start k w mine.2 ≡ Start k v.0 other.2 = p.1 in let e : v.0 ≡ w = cc in subst (λ (i : ℕ). hand h i ≡ Some k) e v.1)
        | inr apart ↦ elim apart [
          | inl p ↦ absurd (starts_late s workers h other.0 k w v.0 mine.2 other.2 other.1 p.0 legal other.3 mine.0 p.1)
          | inr p ↦ absurd (starts_late s workers h mine.0 k v.0 w other.2 mine.2 mine.1 p.0 legal mine.3 other.0 p.1)
        ]
      ],
)
  where
    keeps : KeepsAt h
    keeps = keeps_legal s workers h legal

-- who holds the operation after one more event
abbrev holder_after : Event → ℕ → Option ℕ → Option ℕ
holder_after (Start op worker at) k by_whom = cond (eqb op k) (Some worker) by_whom
holder_after (Finish op worker at front) k by_whom = cond (eqb op k) None by_whom
holder_after (Halt worker) k by_whom = by_whom

holder-push : (h : List Event) (e : Event) (k : ℕ) → holder (h ++ e ∷ []) k ≡ holder_after e k (holder h k)
holder-push h (Start op worker at) k = let e = find-reverse_push (moves k) h (Start op worker at) in grind (arith, nat_tests)
holder-push h (Finish op worker at front) k = let e = find-reverse_push (moves k) h (Finish op worker at front) in grind (arith, nat_tests)
holder-push h (Halt worker) k = let e = find-reverse_push (moves k) h (Halt worker) in grind (arith, nat_tests)

-- the step, over plain values: what is held by whom, and who holds what
to_start : (op worker k w : ℕ) (held' held held_by' held_by held_worker : Option ℕ) → held_worker ≡ None → (worker ≡ w → held ≡ held_worker)
    → held' ≡ cond (eqb worker w) (Some op) held → held_by' ≡ cond (eqb op k) (Some worker) held_by
    → (held_by ≡ Some w → held ≡ Some k) → held_by' ≡ Some w → held' ≡ Some k
to_start op worker k w held' held held_by' held_by held_worker free same a b ih q = grind (arith, nat_tests)

from_start : (op worker k w : ℕ) (held' held held_by' held_by : Option ℕ) → (held ≡ Some op → ⊥)
    → held' ≡ cond (eqb worker w) (Some op) held → held_by' ≡ cond (eqb op k) (Some worker) held_by
    → (held ≡ Some k → held_by ≡ Some w) → held' ≡ Some k → held_by' ≡ Some w
from_start op worker k w held' held held_by' held_by fresh a b ih q =
    elim (cases_eq op k) [
      | inl same ↦ elim (cases_eq worker w) [ inl mine ↦ grind (arith, nat_tests) | inr other ↦ absurd (fresh (let c = ne_eqb worker w other in grind (arith, nat_tests))) ]
      | inr apart ↦ grind (arith, nat_tests)
    ]

to_finish : (op worker k w : ℕ) (held' held held_by' held_by held_worker : Option ℕ) → held_worker ≡ Some op → (worker ≡ w → held ≡ held_worker)
    → held' ≡ cond (eqb worker w) None held → held_by' ≡ cond (eqb op k) None held_by
    → (held_by ≡ Some w → held ≡ Some k) → held_by' ≡ Some w → held' ≡ Some k
to_finish op worker k w held' held held_by' held_by held_worker has same a b ih q = grind (arith, nat_tests)

from_finish : (op worker k w : ℕ) (held' held held_by' held_by : Option ℕ) → (held ≡ Some op → worker ≡ w)
    → held' ≡ cond (eqb worker w) None held → held_by' ≡ cond (eqb op k) None held_by
    → (held ≡ Some k → held_by ≡ Some w) → held' ≡ Some k → held_by' ≡ Some w
from_finish op worker k w held' held held_by' held_by once a b ih q =
    elim (cases_eq worker w) [
      | inl mine ↦ grind (arith, nat_tests)
      | inr other ↦ elim (cases_eq op k) [
        | inl same ↦ absurd (other (once (let c = ne_eqb worker w other in grind (arith, nat_tests))))
        | inr apart ↦ grind (arith, nat_tests)
      ]
    ]

-- the holder of an operation has it in hand
pub holder_holds : HolderHolds
holder_holds s workers h legal k w =
    by_push (λ g. IsLegal s workers g → (holder g k ≡ Some w) ↔ (hand g w ≡ Some k))
    (λ l. (λ q. absurd cc, λ q. absurd cc))
    (λ g e ih l. more g e (IsLegal-front s workers g (e ∷ []) l) (Fits-last s workers g e l) (ih (IsLegal-front s workers g (e ∷ []) l)))
    h legal
  where
    more : (g : List Event) (e : Event) → IsLegal s workers g → Fits s workers g e → (holder g k ≡ Some w) ↔ (hand g w ≡ Some k)
        → (holder (g ++ e ∷ []) k ≡ Some w) ↔ (hand (g ++ e ∷ []) w ≡ Some k)
    more g (Start op worker at) l fits ih =
        let e : Event = Start op worker at in
        let keeps = keeps_legal s workers g l in (
          to_start op worker k w (hand (g ++ e ∷ []) w) (hand g w) (holder (g ++ e ∷ []) k) (holder g k) (hand g worker) (fits.obeys V6)
              (λ same. ap (hand g) (sym same)) (hand-push g e w) (holder-push g e k) ih.0,
          from_start op worker k w (hand (g ++ e ∷ []) w) (hand g w) (holder (g ++ e ∷ []) k) (holder g k)
              (λ held. let a : started g op ≡ true = keeps.held_begun w op held in let b = (fits.obeys V2).fresh in cc) (hand-push g e w) (holder-push g e k) ih.1,
        )
    more g (Finish op worker at front) l fits ih =
        let e : Event = Finish op worker at front in
        let keeps = keeps_legal s workers g l in (
          to_finish op worker k w (hand (g ++ e ∷ []) w) (hand g w) (holder (g ++ e ∷ []) k) (holder g k) (hand g worker) (fits.obeys V7)
              (λ same. ap (hand g) (sym same)) (hand-push g e w) (holder-push g e k) ih.0,
          from_finish op worker k w (hand (g ++ e ∷ []) w) (hand g w) (holder (g ++ e ∷ []) k) (holder g k)
              (λ held. keeps.held_once worker w op (fits.obeys V7) held) (hand-push g e w) (holder-push g e k) ih.1,
        )
    more g (Halt worker) l fits ih =
        let e : Event = Halt worker in
        (λ q. hand-push g e w ∙ ih.0 (sym (holder-push g e k) ∙ q), λ q. holder-push g e k ∙ ih.1 (sym (hand-push g e w) ∙ q))
