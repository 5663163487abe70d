-- Each operation starts and finishes at most once, and finishes after its start.
use Rattle.std.proofs.Common.{◌≡◌, ℕ, ◌+◌, ◌≤◌, List, [], ◌∷◌, ◌++◌, Bool, true, false, cond, inl, inr, refl, sym, ap, ◌∙◌, subst, append_assoc, arith, Some}
use Rattle.std.specs.List.{list_any, count_by}
use Rattle.std.proofs.lemmas.Bool.{cases_Bool, cases_eq, eqb-true}
use Rattle.std.proofs.lemmas.List.Sums.{sum_by-append}
use Rattle.std.proofs.lemmas.Bool.Decides.{nat_tests}
use Rattle.snb_history.specs.declared.event.Event.{Event}
use Rattle.snb_history.specs.declared.event.Event.TheVariants.{Start, Finish, Halt}
use Rattle.snb_history.specs.Schedule.{Schedule}
use Rattle.snb_history.specs.History.{starts, finishes, started, finished, hand}
use Rattle.snb_history.specs.Rules.{Fits, IsLegal, V2, V7}
use Rattle.snb_history.specs.Laws.{OnceEach, FinishFollows, HandIsOpen}
use Rattle.snb_history.proofs.Histories.{IsLegal-front, Fits-last}
use Rattle.snb_history.proofs.Held.{keeps_legal, hand_after, hand-push}
use Rattle.snb_base.proofs.Laws.{by_push}

count_by-push : (p : Event → Bool) (h : List Event) (e : Event) → count_by p (h ++ e ∷ []) ≡ cond (p e) (1 + count_by p h) (count_by p h)
count_by-push p h e = let a = sum_by-append (λ x. cond (p x) 1 0) h (e ∷ []) in grind arith

count_by-none : (p : Event → Bool) (h : List Event) → list_any p h ≡ false → count_by p h ≡ 0
count_by-none p [] q = refl
count_by-none p (x ∷ h) q = let ih = count_by-none p h in grind arith

-- what is only pushed where there is none stands there at most once
once : (p : Event → Bool) (s : Schedule) (workers : ℕ)
    → ((g : List Event) (e : Event) → IsLegal s workers g → Fits s workers g e → p e ≡ true → list_any p g ≡ false)
    → (h : List Event) → IsLegal s workers h → count_by p h ≤ 1
once p s workers fresh h =
    by_push (λ g. IsLegal s workers g → count_by p g ≤ 1)
    (λ legal. omega arith)
    (λ g e ih legal.
    let before = IsLegal-front s workers g (e ∷ []) legal in
    let fits = Fits-last s workers g e legal in
    let c = count_by-push p g e in
    elim (cases_Bool (p e)) [
      | inl hit ↦ let z = count_by-none p g (fresh g e before fits hit) in grind arith
      | inr miss ↦ let z = ih before in grind arith
    ])
    h

start_fresh : (k : ℕ) (s : Schedule) (workers : ℕ) (g : List Event) (e : Event) → IsLegal s workers g → Fits s workers g e → starts k e ≡ true → started g k ≡ false
start_fresh k s workers g (Start op worker at) legal fits hit = subst (λ (i : ℕ). started g i ≡ false) (eqb-true op k hit) (fits.obeys V2).fresh
start_fresh k s workers g (Finish op worker at front) legal fits hit = absurd cc
start_fresh k s workers g (Halt worker) legal fits hit = absurd cc

finish_fresh : (k : ℕ) (s : Schedule) (workers : ℕ) (g : List Event) (e : Event) → IsLegal s workers g → Fits s workers g e → finishes k e ≡ true → finished g k ≡ false
finish_fresh k s workers g (Finish op worker at front) legal fits hit =
    subst (λ (i : ℕ). finished g i ≡ false) (eqb-true op k hit) ((keeps_legal s workers g legal).held_open worker op (fits.obeys V7))
finish_fresh k s workers g (Start op worker at) legal fits hit = absurd cc
finish_fresh k s workers g (Halt worker) legal fits hit = absurd cc

pub once_each : OnceEach
once_each s workers h legal k = (
  once (starts k) s workers (start_fresh k s workers) h legal,
  once (finishes k) s workers (finish_fresh k s workers) h legal,
)

pub hand_is_open : HandIsOpen
hand_is_open s workers h legal k =
    let keeps = keeps_legal s workers h legal in
    ((λ p. keeps.open_held k p.0 p.1), (λ q. (keeps.held_begun q.0 k q.1, keeps.held_open q.0 k q.1)))

-- the worker's Start of the operation stands in the list
abbrev pub HasStart : List Event → ℕ → ℕ → Type 0
HasStart g k w = (before : List Event) × (between : List Event) × (moment : ℕ) × (before ++ Start k w moment ∷ between ≡ g)

HasStart-push : (g : List Event) (e : Event) (k w : ℕ) → HasStart g k w → HasStart (g ++ e ∷ []) k w
HasStart-push g e k w p =
    (p.0, p.1 ++ e ∷ [], p.2, sym (append_assoc p.0 (Start k w p.2 ∷ p.1) (e ∷ [])) ∙ ap (λ x. x ++ e ∷ []) p.3)

-- what a worker has in hand it has started
pub hand_has_start : (w k : ℕ) (h : List Event) → hand h w ≡ Some k → HasStart h k w
hand_has_start w k h = by_push (λ g. hand g w ≡ Some k → HasStart g k w) (λ q. absurd cc) more h
  where
    more : (g : List Event) (e : Event) → (hand g w ≡ Some k → HasStart g k w) → hand (g ++ e ∷ []) w ≡ Some k → HasStart (g ++ e ∷ []) k w
    more g (Start op worker at) ih q =
        let e : Event = Start op worker at in
        let a : hand_after e w (hand g w) ≡ Some k = sym (hand-push g e w) ∙ q in
        elim (cases_eq worker w) [
          | inl mine ↦ (g, [], at, let b : op ≡ k = grind (arith, nat_tests) in let v : Start k w at ≡ Start op worker at = cc in ap (λ x. g ++ x ∷ []) v)
          | inr other ↦ HasStart-push g e k w (ih (grind (arith, nat_tests)))
        ]
    more g (Finish op worker at front) ih q =
        let e : Event = Finish op worker at front in
        let a : hand_after e w (hand g w) ≡ Some k = sym (hand-push g e w) ∙ q in
        HasStart-push g e k w (ih (grind (arith, nat_tests)))
    more g (Halt worker) ih q = HasStart-push g (Halt worker) k w (ih (sym (hand-push g (Halt worker) w) ∙ q))

pub finish_follows : FinishFollows
finish_follows s workers h legal g rest op worker at front q =
    hand_has_start worker op g ((legal.fits g (Finish op worker at front) rest q).obeys V7)
