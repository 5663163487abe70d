-- What the histories of all seats tell of the board's.
use Rattle.std.proofs.Common.{◌≡◌, ◌≢◌, ◌∙◌, ℕ, suc, ◌+◌, ◌<◌, ◌≤◌, ◌⊎◌, min, max, List, [], ◌∷◌, ◌++◌, length, get_or, Bool, true, false, inl, inr, refl, sym, ap, subst, arith, append_assoc, append-nil, length-append}
use Rattle.std.specs.Prelude.{All}
use Rattle.std.specs.List.{filter, list_any}
use Rattle.std.proofs.Math.Nat.{eq-or-lt_of_le, le-max_left}
use Rattle.std.proofs.lemmas.Bool.{eqb-true}
use Rattle.std.proofs.lemmas.Bool.Decides.{nat_tests}
use Rattle.std.proofs.lemmas.List.Elements.{All-push, All-weaker, filter-append}
use Rattle.std.proofs.lemmas.List.Folds.{list_any-append}
use mathlib.Core.List.{IsPrefix}
use Rattle.snb_base.proofs.Laws.{by_push}
use Rattle.snb_base.specs.Moments.{Moments, only}
use Rattle.snb_history.specs.declared.event.Event.{Event}
use Rattle.snb_history.specs.declared.event.Event.TheVariants.{Start, Finish, Halt}
use Rattle.snb_schema.specs.declared.limits.TheConstants.{MAX_AT}
use Rattle.snb_history.specs.History.{has_moment, is_by, last, moment}
use Rattle.snb_history.proofs.Laws.{last-push}
use Rattle.snb_book.specs.Kept.{moment_after}
use Rattle.snb_board.specs.Boards.{events_of}
use Rattle.snb_workers.specs.Laws.{OneMoment}
use Rattle.snb_replica.specs.Runs.{AreByClock, IsAt, IsByClock, IsOfClock}
use Rattle.snb_workers.specs.Works.{IsTimely}
use Rattle.snb_workers.proofs.WorkEvents.{split_cases}

-- an event of one worker is of no other
is_by-other : (s w : ℕ) (e : Event) → is_by s e ≡ true → s ≢ w → is_by w e ≡ false
is_by-other s w (Start op worker at) is off = grind (arith, nat_tests)
is_by-other s w (Finish op worker at front) is off = grind (arith, nat_tests)
is_by-other s w (Halt worker) is off = grind (arith, nat_tests)

-- where each event is of a worker below the count, there is none of another
pub none_of : (workers w : ℕ) (h : List Event) → ((k : ℕ) (d : Event) → k < length h → (s : ℕ) × (s < workers) × (is_by s (get_or h k d) ≡ true)) → workers ≤ w → events_of w h ≡ []
none_of workers w [] made high = refl
none_of workers w (e ∷ h) made high =
    let first = made 0 e (omega arith) in
    let off : is_by w e ≡ false = is_by-other first.0 w e first.2 (λ same. let lt : first.0 < workers = first.1 in omega arith) in
    let rest : events_of w h ≡ [] = none_of workers w h (λ k d lt. made (suc k) d (omega arith)) high in
    rw off rest

-- what a prefix has the whole has
pub any_prefix : (p : Event → Bool) (g h : List Event) → IsPrefix g h → list_any p g ≡ true → list_any p h ≡ true
any_prefix p g h pre is = subst (λ (l : List Event). list_any p l ≡ true) pre.1 (let a = list_any-append p g pre.0 in grind arith)

length-filter : (p : Event → Bool) (g : List Event) (e : Event) (rest : List Event) → p e ≡ true → length (filter p g) + 1 ≤ length (filter p (g ++ e ∷ rest))
length-filter p g e rest is =
    let a : filter p (g ++ e ∷ rest) ≡ filter p g ++ filter p (e ∷ rest) = filter-append p g (e ∷ rest) in
    let b : filter p (e ∷ rest) ≡ e ∷ filter p rest = rw is refl in
    let c : length (filter p (g ++ e ∷ rest)) ≡ length (filter p g ++ e ∷ filter p rest) = ap length (a ∙ ap (λ l. filter p g ++ l) b) in
    omega (arith, length-append (filter p g) (e ∷ filter p rest))

length-filter_less : (p : Event → Bool) (seen g' : List Event) → length (filter p seen) ≤ length (filter p (seen ++ g'))
length-filter_less p seen g' =
    let a : length (filter p (seen ++ g')) ≡ length (filter p seen ++ filter p g') = ap length (filter-append p seen g') in
    omega (arith, length-append (filter p seen) (filter p g'))

-- an event of a worker stands in what the worker's seat has seen, where the whole has no other events of the worker
pub seen_there : (w : ℕ) (seen h g : List Event) (e : Event) (rest : List Event) → IsPrefix seen h → events_of w h ≡ events_of w seen → is_by w e ≡ true → g ++ e ∷ rest ≡ h → (rest' : List Event) × (g ++ e ∷ rest' ≡ seen)
seen_there w seen h g e rest pre same is at =
    elim (split_cases g e rest seen pre.0 (at ∙ sym pre.1)) [
      | inl there ↦ there
      | inr p ↦ absurd (
          let before : seen ++ p.0 ≡ g = sym p.1 in
          let more : length (events_of w g) + 1 ≤ length (events_of w h) = subst (λ (l : List Event). length (events_of w g) + 1 ≤ length (events_of w l)) at (length-filter (is_by w) g e rest is) in
          let less : length (events_of w seen) ≤ length (events_of w g) = subst (λ (l : List Event). length (events_of w seen) ≤ length (events_of w l)) before (length-filter_less (is_by w) seen p.0) in
          let equal : length (events_of w h) ≡ length (events_of w seen) = ap length same in
          omega arith)
    ]

-- the last moment of some events, which is 0 where none has one, is at a moment of the clock
abbrev IsLast : Moments → ℕ → Type 0
IsLast moments low = (low ≡ 0) ⊎ IsOfClock moments low

-- so is the next one
of_next : (moments : Moments) (low reading : ℕ) → IsLast moments low → moments.tells reading ≡ true → IsOfClock moments (max low (min reading MAX_AT))
of_next moments low reading (inl none) tells = record { reading = reading; tells = tells; is = omega arith }
of_next moments low reading (inr before) tells = elim (eq-or-lt_of_le (le-max_left low (min reading MAX_AT))) [
  | inl same ↦ record { reading = before.reading; tells = before.tells; is = sym same ∙ before.is }
  | inr later ↦ record { reading = reading; tells = tells; is = omega arith }
]

-- where each Start and Finish is at a moment of the clock, or at the last before it, all are at moments of the clock
by_clock_next : (moments : Moments) (g : List Event) (e : Event) → IsLast moments (last g) → (has_moment e ≡ true → IsTimely moments g e) → IsByClock moments e
by_clock_next moments g (Start op worker at) before timely =
    let t : IsTimely moments g (Start op worker at) = timely refl in subst (IsOfClock moments) (sym t.is) (of_next moments (last g) t.reading before t.tells)
by_clock_next moments g (Finish op worker at front) before timely =
    let t : IsTimely moments g (Finish op worker at front) = timely refl in subst (IsOfClock moments) (sym t.is) (of_next moments (last g) t.reading before t.tells)
by_clock_next moments g (Halt worker) before timely = tt

last_next : (moments : Moments) (g : List Event) (e : Event) → IsByClock moments e → IsLast moments (last g) → IsLast moments (last (g ++ e ∷ []))
last_next moments g (Start op worker at) is before = subst (IsLast moments) (sym (last-push g (Start op worker at))) (inr is)
last_next moments g (Finish op worker at front) is before = subst (IsLast moments) (sym (last-push g (Finish op worker at front))) (inr is)
last_next moments g (Halt worker) is before = subst (IsLast moments) (sym (last-push g (Halt worker))) before

pub all_by_clock : (moments : Moments) (h : List Event) → ((g rest : List Event) (e : Event) → g ++ e ∷ rest ≡ h → has_moment e ≡ true → IsTimely moments g e) → AreByClock moments h
all_by_clock moments h timely =
    (by_push (λ g. (rest : List Event) → g ++ rest ≡ h → All (IsByClock moments) g × IsLast moments (last g)) (λ rest same. ((λ k d lt. absurd (omega arith)), inl refl)) more h [] (append-nil h)).0
  where
    more : (g : List Event) (e : Event) → ((rest : List Event) → g ++ rest ≡ h → All (IsByClock moments) g × IsLast moments (last g)) → (rest : List Event) → (g ++ e ∷ []) ++ rest ≡ h
        → All (IsByClock moments) (g ++ e ∷ []) × IsLast moments (last (g ++ e ∷ []))
    more g e ih rest same =
        let at : g ++ e ∷ rest ≡ h = sym (append_assoc g (e ∷ []) rest) ∙ same in
        let before = ih (e ∷ rest) at in
        let is : IsByClock moments e = by_clock_next moments g e before.1 (timely g rest e at) in
        (All-push (IsByClock moments) g e before.0 is, last_next moments g e is before.1)

-- a clock that can answer one moment alone
one_of_clock : (at moment : ℕ) → IsOfClock (only at) moment → moment ≡ min at MAX_AT
one_of_clock at moment is = is.is ∙ ap (λ (n : ℕ). min n MAX_AT) (eqb-true is.reading at is.tells)

one_event : (at : ℕ) (e : Event) → IsByClock (only at) e → IsAt (min at MAX_AT) e
one_event at (Start op worker moment) is = one_of_clock at moment is
one_event at (Finish op worker moment front) is = one_of_clock at moment is
one_event at (Halt worker) is = tt

pub one_moment : OneMoment
one_moment at h all = All-weaker (IsByClock (only at)) (IsAt (min at MAX_AT)) (one_event at) h all
