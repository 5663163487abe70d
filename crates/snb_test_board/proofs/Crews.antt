-- Seats that are all seats of a board, and events that are all bounded.
use Rattle.std.proofs.Common.{◌≡◌, ℕ, zero, suc, ◌<◌, ◌≤◌, List, [], ◌∷◌, ◌++◌, length, get_or, sym, refl, ap, subst, arith}
use Rattle.std.specs.Prelude.{All}
use Rattle.snb_history.specs.declared.event.Event.{Event}
use Rattle.snb_schema.specs.declared.limits.TheConstants.{MAX_AT}
use Rattle.snb_history.specs.History.{moment}
use Rattle.snb_history.specs.Rules.{IsLegal}
use Rattle.snb_history.specs.Schedule.{Schedule}
use Rattle.snb_board.specs.Boards.{Site, Sitting, sitting, time_below, AreAll}
use Rattle.snb_test_board.specs.Crews.{AreInOrder}

same_at : (xs : List Sitting) (k : ℕ) (d e : Sitting) → k < length xs → get_or xs k d ≡ get_or xs k e
same_at [] k d e lt = absurd (omega arith)
same_at (x ∷ xs) zero d e lt = refl
same_at (x ∷ xs) (suc k) d e lt = same_at xs k d e (omega arith)

-- one seat for each worker, in order, are all seats
pub all_in_order : (z : Site) (seats : List Sitting) → AreInOrder z seats → AreAll z seats
all_in_order z seats placed =
    let first = sitting z 0 [] (time_below 0) in
    record {
      theirs = λ k d lt. (placed.1 k d (let n : length seats ≡ z.workers = placed.0 in omega arith)).0;
      each = λ k low.
          let y = get_or seats k first in
          let lt : k < length seats = (let n : length seats ≡ z.workers = placed.0 in omega arith) in
          (k, y, lt, same_at seats k y first lt, (placed.1 k first low).1);
    }

-- two seats are all seats of a board of two workers
pub all_of_two : (z : Site) (seats : List Sitting) (a b : Sitting) → seats ≡ a ∷ b ∷ [] → a.site ≡ z → b.site ≡ z → z.workers ≡ 2 → a.worker ≡ 0 → b.worker ≡ 1 → AreAll z seats
all_of_two z seats a b is at at' two first second =
    subst (AreAll z) (sym is) (record { theirs = sites; each = λ k low. workers k (let t : z.workers ≡ 2 = two in omega arith) })
  where
    sites : (k : ℕ) (d : Sitting) → k < 2 → (get_or (a ∷ b ∷ []) k d).site ≡ z
    sites zero d lt = at
    sites (suc zero) d lt = at'
    sites (suc (suc k)) d lt = absurd (omega arith)

    workers : (k : ℕ) → k < 2 → (i : ℕ) × (y : Sitting) × (i < 2) × (get_or (a ∷ b ∷ []) i y ≡ y) × (y.worker ≡ k)
    workers zero lt = (0, a, omega arith, refl, first)
    workers (suc zero) lt = (1, b, omega arith, refl, second)
    workers (suc (suc k)) lt = absurd (omega arith)

-- a list is cut at each place
cut_at : {X : Type 0} (xs : List X) (k : ℕ) (d : X) → k < length xs → (before : List X) × (after : List X) × (before ++ get_or xs k d ∷ after ≡ xs)
cut_at [] k d lt = absurd (omega arith)
cut_at (x ∷ xs) zero d lt = ([], xs, refl)
cut_at (x ∷ xs) (suc k) d lt = let r = cut_at xs k d (omega arith) in (x ∷ r.0, r.1, ap (λ l. x ∷ l) r.2)

-- no moment of a legal history is above the greatest
pub all_bounded : (s : Schedule) (workers : ℕ) (h events : List Event) → events ≡ h → IsLegal s workers h → All (λ e. moment e ≤ MAX_AT) events
all_bounded s workers h events same legal =
    subst (All (λ (e : Event). moment e ≤ MAX_AT)) (sym same) (λ k d lt. let cut = cut_at h k d lt in legal.bounded cut.0 (get_or h k d) cut.1 cut.2)
