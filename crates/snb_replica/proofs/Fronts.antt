-- The front of a Finish.
use Rattle.std.proofs.Common.{◌≡◌, ℕ, ◌+◌, ◌≤◌, List, length, take, drop, inl, inr, sym, arith, length-take}
use Rattle.std.specs.Prelude.{Contains}
use Rattle.std.proofs.lemmas.Bool.{cases_Bool}
use Rattle.snb_base.proofs.Laws.{split_here}
use Rattle.snb_history.specs.declared.event.Event.{Event}
use Rattle.snb_history.specs.declared.event.Event.TheVariants.{Finish}
use Rattle.snb_history.specs.Rules.{IsFront, IsLegal, V8}
use Rattle.snb_history.specs.Schedule.{Schedule, step_of}

module _ (s : Schedule) (workers : ℕ) (h : List Event) (legal : IsLegal s workers h) where
  -- the front of a Finish lies within the history
  pub front_within : (op worker at front : ℕ) → Contains h (Finish op worker at front) → front ≤ length h
  front_within op worker at front c =
      let k : ℕ = c.0 in
      let e : Event = Finish op worker at front in
      let is : IsFront s (take k h) op front = (legal.fits (take k h) e (drop (k + 1) h) (split_here h k e c.1 (sym c.2))).obeys V8 in
      let size = length-take k h in
      elim (cases_Bool (step_of s op).query) [
        | inl read ↦ (let within = (is.of_read read).1 in omega (arith, within, size))
        | inr insert ↦ (let none = is.of_insert insert in omega (arith, none))
      ]
