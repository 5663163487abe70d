-- Facts on the events of a run.
use Rattle.std.proofs.Common.{◌≡◌, ◌∙◌, ℕ, ◌+◌, ◌-◌, ◌≤◌, List, ◌++◌, length, take, drop, true, false, None, inl, inr, refl, sym, ap, subst, arith, length-take, length-drop}
use Rattle.std.specs.Prelude.{Contains}
use Rattle.std.proofs.lemmas.Bool.{cases_Bool, eq-eqb}
use Rattle.std.proofs.lemmas.List.{take_all}
use Rattle.std.proofs.lemmas.List.Folds.{list_any-from_Any}
use Rattle.std.proofs.Math.Seq.{drop-append_seam}
use Rattle.snb_base.proofs.Laws.{split_here}
use Rattle.snb_history.specs.declared.event.Event.{Event}
use Rattle.snb_history.specs.declared.event.Event.TheVariants.{Start, Finish, Halt}
use Rattle.snb_schema.specs.declared.row.Row.{Row}
use Rattle.snb_history.specs.History.{started, finished, finishes, halted, hand}
use Rattle.snb_history.specs.Rules.{IsComplete, IsFront, IsLegal, MayAct, Obeys, Rule, V1, V8}
use Rattle.snb_history.specs.Schedule.{Schedule, IsOperation, step_of}
use Rattle.snb_history.proofs.Laws.{keeps_legal}
use Rattle.snb_plan.specs.Plans.{Plan}
use Rattle.snb_replica.specs.Replicas.{HasTaken, MayTake, StandsFor, Taken}
use Rattle.snb_workers.specs.Turns.{IsBehind}

-- ---- replicas

-- what is taken of a list from a place on
rest_taken : (all h : List Event) (front : ℕ) → all ≡ h → take (length all - front) (drop front all) ≡ drop front h
rest_taken all h front is = take_all (length all - front) (drop front all) (omega (arith, length-drop front all)) ∙ ap (drop front) is

-- with the events past its front it stands for the history
pub caught_up : (base : List Row) (plan : Plan) (all h : List Event) (old new : Taken) (front : ℕ) → front ≡ old.front → all ≡ h → IsBehind plan h old base →
    HasTaken plan (take (length all - front) (drop front all)) old new → StandsFor base plan h new
caught_up base plan all h old new front is whole behind taken =
    let g : List Event = behind.0 in
    let may : MayTake plan behind.1 old base g = behind.3 in
    let size : front ≡ length g = is ∙ may.stands.front in
    let rest : take (length all - front) (drop front all) ≡ behind.1 = rest_taken all h front whole ∙ ap (λ (n : ℕ). drop n h) size ∙ (ap (drop (length g)) (sym behind.2) ∙ drop-append_seam g behind.1) in
    subst (λ (x : List Event). StandsFor base plan x new) (ap (λ (x : List Event). g ++ x) rest ∙ behind.2)
    (taken base g (subst (λ (x : List Event). MayTake plan x old base g) (sym rest) may))

-- ---- legal histories

module _ (s : Schedule) (workers : ℕ) (h : List Event) (legal : IsLegal s workers h) where
  -- what has finished had started
  pub was_started : (op worker at front : ℕ) → Contains h (Finish op worker at front) → started h op ≡ true
  was_started op worker at front c =
      (keeps_legal s workers h legal).begun_first op (list_any-from_Any (finishes op) h (c.0, Finish op worker at front, c.1, c.2, eq-eqb op op refl))

  -- where all is started, nobody has anything in hand and nobody has halted, all is done
  pub all_done : ((w : ℕ) → hand h w ≡ None) → ((w : ℕ) → halted h w ≡ false) → ((k : ℕ) → IsOperation s k → started h k ≡ true) → IsComplete s h
  all_done free running begun = record { all_finished = λ k within. done k within; none_halted = running }
    where
      done : (k : ℕ) → IsOperation s k → finished h k ≡ true
      done k within = elim (cases_Bool (finished h k)) [
        | inl over ↦ over
        | inr left ↦ absurd (
            let held = (keeps_legal s workers h legal).open_held k (begun k within) left in
            let none = free held.0 in
            let some = held.1 in
            cc)
      ]

-- a history of one worker is one of any number of them
pub of_more : (s : Schedule) (workers : ℕ) (h : List Event) → 1 ≤ workers → IsLegal s 1 h → IsLegal s workers h
of_more s workers h some legal = record { bounded = legal.bounded; fits = λ g e rest q. record { obeys = λ r. more g e r ((legal.fits g e rest q).obeys r) } }
  where
    may : (g : List Event) (w : ℕ) → MayAct 1 g w → MayAct workers g w
    may g w m = record { known = (let k = m.known in omega (arith, k, some)); running = m.running }

    more : (g : List Event) (e : Event) (r : Rule) → Obeys s 1 g e r → Obeys s workers g e r
    more g (Start op w at) V1 o = (o.0, may g w o.1)
    more g (Start op w at) r o = o
    more g (Finish op w at front) V1 o = (o.0, may g w o.1)
    more g (Finish op w at front) r o = o
    more g (Halt w) V1 o = may g w o
    more g (Halt w) r o = o
