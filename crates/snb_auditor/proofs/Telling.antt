-- What an auditor keeps beside its book, after one more event.
use Rattle.std.proofs.Common.{◌≡◌, ℕ, ◌<◌, List, [], ◌∷◌, ◌++◌, length, get_or, set, replicate, Bool, true, false, cond, inl, inr, sym, ap, ◌∙◌, subst, arith, Option, Some, None, eqb}
use Rattle.std.specs.Prelude.{slice_index}
use Rattle.std.specs.List.{list_any, position_or_len}
use Rattle.std.proofs.lemmas.Bool.{cases_eq, eq-eqb, ne_eqb}
use Rattle.std.proofs.lemmas.List.{get_or-replicate, length-replicate}
use Rattle.std.proofs.Math.ListN.{length-set}
use Rattle.snb_history.specs.declared.event.Event.{Event}
use Rattle.snb_history.specs.declared.event.Event.TheVariants.{Start, Finish, Halt}
use Rattle.snb_history.specs.Schedule.{Schedule}
use Rattle.snb_history.specs.History.{starts, started, hand}
use Rattle.snb_history.specs.Rules.{V1, V2, Fits}
use Rattle.snb_book.specs.Kept.{Kept}
use Rattle.snb_auditor.specs.declared.verdict.Violation.{Violation}
use Rattle.snb_auditor.specs.Audits.{Audit}
use Rattle.snb_auditor.specs.Judging.{AreStopped, AreBegun}
use Rattle.snb_history.proofs.Laws.{halted-push, hand-push, hand_started}
use Rattle.snb_base.proofs.Laws.{get_or-set}

-- the book with one more event
abbrev pub and_then : Kept → Event → Kept
and_then b e = record { schedule = b.schedule; workers = b.workers; history = b.history ++ e ∷ [] }

-- nothing has happened
pub AreStopped-none : (s : Schedule) (workers : ℕ) → AreStopped (record { schedule = s; workers = workers; history = [] }) (replicate workers false)
AreStopped-none s workers = record { each = length-replicate workers false; flags = λ w lt. get_or-replicate workers w false false lt }

pub AreBegun-none : (s : Schedule) (workers : ℕ) → AreBegun (record { schedule = s; workers = workers; history = [] }) (replicate workers 0)
AreBegun-none s workers = record { each = length-replicate workers 0; numbers = λ w k lt q. absurd cc }

-- only a Halt stops anybody
pub AreStopped-halt : (b : Kept) (stopped : List Bool) (worker : ℕ) → AreStopped b stopped → worker < b.workers → AreStopped (and_then b (Halt worker)) (set stopped worker true)
AreStopped-halt b stopped worker are known = record {
  each = length-set stopped worker true ∙ are.each;
  flags = λ w lt.
      get_or-set stopped worker w true false (let e = are.each in omega arith) ∙ ap (cond (eqb worker w) true) (are.flags w lt)
      ∙ sym (halted-push b.history (Halt worker) w);
}

pub AreStopped-start : (b : Kept) (stopped : List Bool) (op worker at : ℕ) → AreStopped b stopped → AreStopped (and_then b (Start op worker at)) stopped
AreStopped-start b stopped op worker at are = record { each = are.each; flags = λ w lt. are.flags w lt ∙ sym (halted-push b.history (Start op worker at) w) }

pub AreStopped-finish : (b : Kept) (stopped : List Bool) (op worker at front : ℕ) → AreStopped b stopped → AreStopped (and_then b (Finish op worker at front)) stopped
AreStopped-finish b stopped op worker at front are =
    record { each = are.each; flags = λ w lt. are.flags w lt ∙ sym (halted-push b.history (Finish op worker at front) w) }

-- the place of the first that passes, where one does, stays
position-stays : (p : Event → Bool) (g h : List Event) → list_any p g ≡ true → position_or_len p (g ++ h) ≡ position_or_len p g
position-stays p [] h some = absurd cc
position-stays p (x ∷ g) h some = let ih = position-stays p g h in grind arith

-- and where none does it is the end
position-end : (p : Event → Bool) (g : List Event) (e : Event) → list_any p g ≡ false → p e ≡ true → position_or_len p (g ++ e ∷ []) ≡ length g
position-end p [] e none hit = grind arith
position-end p (x ∷ g) e none hit = let ih = position-end p g e in grind arith

starts_in : (k : ℕ) (g : List Event) (e : Event) (rest : List Event) → starts k e ≡ true → list_any (starts k) (g ++ e ∷ rest) ≡ true
starts_in k [] e rest hit = grind arith
starts_in k (x ∷ g) e rest hit = let ih = starts_in k g e rest hit in grind arith

-- the number of a Start stays while others follow
number-stays : (b : Kept) (e : Event) (begun : List ℕ) → AreBegun b begun → (w k : ℕ) → w < b.workers → hand b.history w ≡ Some k
    → slice_index begun w ≡ position_or_len (starts k) (b.history ++ e ∷ [])
number-stays b e begun are w k lt held =
    are.numbers w k lt held ∙ sym (position-stays (starts k) b.history (e ∷ []) (hand_started b.history w k held))

pub AreBegun-halt : (b : Kept) (begun : List ℕ) (worker : ℕ) → AreBegun b begun → AreBegun (and_then b (Halt worker)) begun
AreBegun-halt b begun worker are = record {
  each = are.each;
  numbers = λ w k lt held. number-stays b (Halt worker) begun are w k lt (sym (hand-push b.history (Halt worker) w) ∙ held);
}

pub AreBegun-finish : (b : Kept) (begun : List ℕ) (op worker at front : ℕ) → AreBegun b begun → AreBegun (and_then b (Finish op worker at front)) begun
AreBegun-finish b begun op worker at front are = record {
  each = are.each;
  numbers = λ w k lt held.
      let after : cond (eqb worker w) None (hand b.history w) ≡ Some k = sym (hand-push b.history (Finish op worker at front) w) ∙ held in
      number-stays b (Finish op worker at front) begun are w k lt (others (eqb worker w) (hand b.history w) k after);
}
  where
    others : (own : Bool) (o : Option ℕ) (k : ℕ) → cond own None o ≡ Some k → o ≡ Some k
    others true o k q = absurd cc
    others false o k q = q

pub AreBegun-start : (b : Kept) (begun : List ℕ) (op worker at : ℕ) → AreBegun b begun → Fits b.schedule b.workers b.history (Start op worker at)
    → AreBegun (and_then b (Start op worker at)) (set begun worker (length b.history))
AreBegun-start b begun op worker at are fits = record {
  each = length-set begun worker (length b.history) ∙ are.each;
  numbers = λ w k lt held.
      let after : cond (eqb worker w) (Some op) (hand b.history w) ≡ Some k = sym (hand-push b.history e w) ∙ held in
      get_or-set begun worker w (length b.history) 0 (let a = are.each in let n = known in omega arith) ∙ by_worker w k lt after;
}
  where
    e : Event
    e = Start op worker at

    known : worker < b.workers
    known = (fits.obeys V1).1.known

    one_more : (k : ℕ) → op ≡ k → length b.history ≡ position_or_len (starts k) (b.history ++ Start op worker at ∷ [])
    one_more k same =
        sym (position-end (starts k) b.history (Start op worker at)
        (subst (λ (i : ℕ). started b.history i ≡ false) same (fits.obeys V2).fresh) (eq-eqb op k same))

    by_worker : (w k : ℕ) → w < b.workers → cond (eqb worker w) (Some op) (hand b.history w) ≡ Some k
        → cond (eqb worker w) (length b.history) (slice_index begun w) ≡ position_or_len (starts k) (b.history ++ Start op worker at ∷ [])
    by_worker w k lt after =
        elim (cases_eq worker w) [
          | inl same ↦
              let own : op ≡ k = (let y = eq-eqb worker w same in cc) in
              rw (eq-eqb worker w same) (one_more k own)
          | inr other ↦
              let theirs : hand b.history w ≡ Some k = (let n = ne_eqb worker w other in cc) in
              rw (ne_eqb worker w other) (number-stays b (Start op worker at) begun are w k lt theirs)
        ]

-- what is kept beside the book after the call that appends an event
pub beside_start : (book new : Kept) (e : Event) (events : List Event) (stopped : List Bool) (begun : List ℕ) (op worker at : ℕ) → new ≡ and_then book e → events ≡ book.history
    → e ≡ Start op worker at → Fits book.schedule book.workers book.history (Start op worker at) → AreStopped book stopped × AreBegun book begun
    → AreStopped new stopped × AreBegun new (set begun worker (length events))
beside_start book new e events stopped begun op worker at is read same fits kept =
    rw (is, read, same) (AreStopped-start book stopped op worker at kept.0, AreBegun-start book begun op worker at kept.1 fits)

pub beside_finish : (book new : Kept) (e : Event) (stopped : List Bool) (begun : List ℕ) (op worker at front : ℕ) → new ≡ and_then book e
    → e ≡ Finish op worker at front → AreStopped book stopped × AreBegun book begun → AreStopped new stopped × AreBegun new begun
beside_finish book new e stopped begun op worker at front is same kept =
    rw (is, same) (AreStopped-finish book stopped op worker at front kept.0, AreBegun-finish book begun op worker at front kept.1)

pub beside_halt : (book new : Kept) (e : Event) (stopped : List Bool) (begun : List ℕ) (worker : ℕ) → new ≡ and_then book e → e ≡ Halt worker → worker < book.workers
    → AreStopped book stopped × AreBegun book begun → AreStopped new (set stopped worker true) × AreBegun new begun
beside_halt book new e stopped begun worker is same known kept =
    rw (is, same) (AreStopped-halt book stopped worker kept.0 known, AreBegun-halt book begun worker kept.1)

-- what fits the value fits the fields
pub fits_fields : (now : Audit) (book : Kept) (kept : Option Violation) (given e : Event)
    → record { schedule = book.schedule; workers = book.workers; fitted = book.history; kept = kept } ≡ now
    → Fits now.schedule now.workers now.fitted given → given ≡ e → Fits book.schedule book.workers book.history e
fits_fields now book kept given e same fits is =
    subst (λ (x : Event). Fits book.schedule book.workers book.history x) is
    (subst (λ (a : Audit). Fits a.schedule a.workers a.fitted given) (sym same) fits)
