-- What other workers' events leave as it is.
use Rattle.std.proofs.Common.{◌≡◌, ℕ, List, [], ◌∷◌, ◌++◌, Bool, true, false, refl, sym, ap, ◌∙◌, subst, append-nil, length-append, arith, Some}
use Rattle.std.specs.List.{filter, list_any, position_or_len}
use Rattle.std.proofs.lemmas.Bool.{eq-eqb}
use Rattle.std.proofs.lemmas.List.Elements.{filter-append}
use Rattle.std.proofs.lemmas.List.Folds.{list_any-append}
use Rattle.snb_history.specs.declared.event.Event.{Event}
use Rattle.snb_history.specs.declared.event.Event.TheVariants.{Start, Finish}
use Rattle.snb_history.specs.History.{starts, is_by, started, halted, hand}
use Rattle.snb_history.specs.Rules.{Rule, V1, V2, V3, V4, V5, V6, V7, V8, V9, MayAct, IsFront, Obeys}
use Rattle.snb_history.specs.Laws.{FinishStays}
use Rattle.snb_history.proofs.Times.{start_stays}
use Rattle.snb_history.proofs.Once.{hand_has_start}
use Rattle.snb_history.proofs.Own.{hand_is_own}

filter-none : (p : Event → Bool) (h : List Event) → list_any p h ≡ false → filter p h ≡ []
filter-none p [] q = refl
filter-none p (x ∷ h) q = let ih = filter-none p h in grind arith

own_same : (g more : List Event) (w : ℕ) → list_any (is_by w) more ≡ false → filter (is_by w) (g ++ more) ≡ filter (is_by w) g
own_same g more w q = filter-append (is_by w) g more ∙ ap (λ x. filter (is_by w) g ++ x) (filter-none (is_by w) more q) ∙ append-nil (filter (is_by w) g)

hand_stays : (g more : List Event) (w : ℕ) → list_any (is_by w) more ≡ false → hand (g ++ more) w ≡ hand g w
hand_stays g more w q = sym (hand_is_own (g ++ more) w).0 ∙ ap (λ l. hand l w) (own_same g more w q) ∙ (hand_is_own g w).0

halted_stays : (g more : List Event) (w : ℕ) → list_any (is_by w) more ≡ false → halted (g ++ more) w ≡ halted g w
halted_stays g more w q = sym (hand_is_own (g ++ more) w).1 ∙ ap (λ l. halted l w) (own_same g more w q) ∙ (hand_is_own g w).1

-- what is in a worker's hand is started
pub hand_started : (g : List Event) (w k : ℕ) → hand g w ≡ Some k → started g k ≡ true
hand_started g w k q =
    let p = hand_has_start w k g q in
    let a = list_any-append (starts k) p.0 (Start k w p.2 ∷ p.1) in
    let e = eq-eqb k k refl in
    let hit : list_any (starts k) (p.0 ++ Start k w p.2 ∷ p.1) ≡ true = grind arith in
    subst (λ (l : List Event). started l k ≡ true) p.3 hit

pub finish_stays : FinishStays
finish_stays s workers g more op worker at later front fits others moment = record { obeys = by_rule }
  where
    may : MayAct workers g worker
    may = (fits.obeys V1).1

    f : IsFront s g op front
    f = fits.obeys V8

    number : position_or_len (starts op) (g ++ more) ≡ position_or_len (starts op) g
    number = start_stays g more op (hand_started g worker op (fits.obeys V7))

    by_rule : (r : Rule) → Obeys s workers (g ++ more) (Finish op worker later front) r
    by_rule V1 = ((fits.obeys V1).0, record { known = may.known; running = halted_stays g more worker others ∙ may.running })
    by_rule V7 = hand_stays g more worker others ∙ fits.obeys V7
    by_rule V8 = record {
      of_read = λ q. (let a = (f.of_read q).0 in let n = number in omega arith, let b = (f.of_read q).1 in omega (arith, length-append g more));
      of_insert = f.of_insert;
    }
    by_rule V9 = moment
    by_rule V2 = tt
    by_rule V3 = tt
    by_rule V4 = tt
    by_rule V5 = tt
    by_rule V6 = tt
