-- What closing a board shows of its seats.
use Rattle.std.proofs.Common.{◌≡◌, ◌⊎◌, ℕ, zero, suc, ◌<◌, List, [], ◌∷◌, ◌++◌, map, length, get_or, sym, ap, refl, ◌∙◌, subst, ⊎_elim, inl, inr, arith, Some, true}
use Rattle.std.specs.Prelude.{All, Any, slice_get, ℤ, ◌≤ℤ◌}
use Rattle.std.proofs.lemmas.Int.{ints}
use mathlib.Core.Option.{some}
use lib.ListN.{get_elem?}
use Rattle.atomic_table.specs.Table.{Final, Seen}
use Rattle.snb_history.specs.declared.event.Event.{Event}
use Rattle.snb_history.specs.declared.event.Event.TheVariants.{Start, Finish, Halt}
use Rattle.snb_history.specs.History.{is_by}
use Rattle.snb_history.specs.Schedule.{Schedule}
use Rattle.snb_history.specs.Completion.{completion}
use Rattle.snb_history.specs.Rules.{Fits, IsLegal, V1}
use Rattle.snb_book.specs.Kept.{Kept}
use Rattle.snb_board.specs.declared.view.Part.{Part}
use Rattle.snb_board.specs.declared.view.View.{View}
use Rattle.std.specs.Prelude.{Ok}
use Rattle.snb_board.specs.Boards.{Site, Sitting, AreAll, AreMadeBy, AreSeats, IsPartOf, events_of, sitting, time_below}
use Rattle.snb_board.specs.Views.{Home, Sat, Each, HasWorker, IsRuled}
use Rattle.snb_board.specs.Parts.{author, part, seen_of, number_of, told_of}
use Rattle.snb_board.specs.Steps.{IsKnown, Place, IsResting, part_of, with_parts, number_after, sitting_of}
use Rattle.snb_board.proofs.Events.{below-number, is_by-author, number-below, reached-told}
use Rattle.snb_board.proofs.Joins.{closes}

part_known : (schedule : Schedule) (history : List Event) (s : Sitting) → IsKnown schedule history (part_of s) → IsPartOf schedule history s
part_known schedule history s h = record {
  seen = h.0;
  mine = h.1;
  told = at_most_later s.told (time_below (number_after s.told)) (completion schedule history) (below-number s.told) (reached-told schedule history (number_after s.told) h.2);
}
  where
    at_most_later : (a b c : ℤ) → a ≤ℤ b → b ≤ℤ c → a ≤ℤ c
    at_most_later a b c le le' = omega (arith, ints)

-- of the parts, the last seat's first
all_parts : (schedule : Schedule) (history : List Event) (ss : List Sitting) (x : Sitting) → Each (IsKnown schedule history) (map part_of ss) → IsKnown schedule history (part_of x) → All (IsPartOf schedule history) (ss ++ x ∷ [])
all_parts schedule history [] x h last zero d lt = part_known schedule history x last
all_parts schedule history [] x h last (suc k) d lt = absurd (omega arith)
all_parts schedule history (s ∷ ss) x h last zero d lt = part_known schedule history s h.0
all_parts schedule history (s ∷ ss) x h last (suc k) d lt = all_parts schedule history ss x h.1 last k d (omega arith)

last_of : (P : Sitting → Type 0) (ss : List Sitting) (x : Sitting) → All P (ss ++ x ∷ []) → P x
last_of P [] x h = h 0 x (omega arith)
last_of P (s ∷ ss) x h = last_of P ss x (λ k d lt. h (suc k) d (omega arith))

worker_at : (w : ℕ) (ss : List Sitting) (x : Sitting) (k : ℕ) (y : Sitting) → k < length (ss ++ x ∷ []) → get_or (ss ++ x ∷ []) k y ≡ y → y.worker ≡ w → (x.worker ≡ w) ⊎ HasWorker w (map part_of ss)
worker_at w [] x zero y lt e is = inl (ap (λ (s : Sitting). s.worker) e ∙ is)
worker_at w [] x (suc k) y lt e is = absurd (omega arith)
worker_at w (s ∷ ss) x zero y lt e is = inr (inl (ap (λ (t : Sitting). t.worker) e ∙ is))
worker_at w (s ∷ ss) x (suc k) y lt e is = ⊎_elim inl (λ (t : HasWorker w (map part_of ss)). inr (inr t)) (worker_at w ss x k y (omega arith) e is)

pub board_closes : (about : Kept) (p q : Place) (z : Site) (x : Sitting) (ss all : List Sitting) (ws : List ℕ) (xs : List Home) → sitting_of p ≡ x → IsResting p → q.me ≡ (with_parts p.me.0 q.me.0.made (map part_of ss), []) → all ≡ ss ++ x ∷ [] → AreAll z all
    → Final (Seen (IsRuled about) q.id q.me.0) ws xs → (a : Kept) × (get_elem? xs 0 ≡ some (Ok a)) × (a.schedule ≡ z.schedule) × (a.workers ≡ z.workers) × IsLegal a.schedule a.workers a.history × All (IsPartOf z.schedule a.history) all
board_closes about p q z x ss all ws xs is rest now listed each final =
    let theirs = subst (All (λ (s : Sitting). s.site ≡ z)) listed each.theirs in
    let at : x.site ≡ z = last_of (λ s. s.site ≡ z) ss x theirs in
    let here : (sitting_of p).site ≡ z = ap (λ (s : Sitting). s.site) is ∙ at in
    let v = q.me.0 in
    let view : v ≡ with_parts p.me.0 q.me.0.made (map part_of ss) = ap (λ (m : Sat). m.0) now in
    let own : part (number_of p.me.0.parts) (seen_of p.me.0.parts) (told_of p.me.0.parts) ≡ part_of x = (λ i. part (number_of p.me.0.parts) (seen_of p.me.0.parts) (sym (number-below (told_of p.me.0.parts)) i)) ∙ ap part_of is in
    let parts : v.parts ≡ part_of x ∷ map part_of ss = ap (λ (u : View). u.parts) view ∙ (ap (λ (l : List Part). l ++ map part_of ss) rest.1.0 ∙ ap (λ (y : Part). y ∷ map part_of ss) own) in
    let workers : v.workers ≡ z.workers = ap (λ (u : View). u.workers) view ∙ ap (λ (s : Site). s.workers) here in
    let schedule : v.schedule ≡ z.schedule = ap (λ (u : View). u.schedule) view ∙ ap (λ (s : Site). s.schedule) here in
    let c = closes about q.id v ws xs (ap (λ (u : View). u.phase) view ∙ rest.0) (subst (λ (n : ℕ). 0 < n) (sym (ap (λ (u : View). u.workers) view)) rest.1.1)
    (λ k low. subst (HasWorker k) (sym parts)
    (let h = subst (Any (λ (s : Sitting). s.worker ≡ k)) listed (each.each k (subst (λ (n : ℕ). k < n) workers low)) in worker_at k ss x h.0 h.1 h.2 h.3 h.4)) final in
    let known = subst (Each (IsKnown c.0.schedule c.0.history)) parts c.5 in
    let of_all : All (IsPartOf c.0.schedule c.0.history) all = subst (All (IsPartOf c.0.schedule c.0.history)) (sym listed) (all_parts c.0.schedule c.0.history ss x known.1 known.0) in
    (c.0, c.1, c.2 ∙ schedule, c.3 ∙ workers, c.4, subst (λ (t : Schedule). All (IsPartOf t c.0.history) all) (c.2 ∙ schedule) of_all)

split_at : (h : List Event) (k : ℕ) (d : Event) → k < length h → (g : List Event) × (rest : List Event) × (g ++ get_or h k d ∷ rest ≡ h)
split_at [] k d lt = absurd (omega arith)
split_at (x ∷ h) zero d lt = ([], h, refl)
split_at (x ∷ h) (suc k) d lt = let s = split_at h k d (omega arith) in (x ∷ s.0, s.1, ap (λ (l : List Event). x ∷ l) s.2)

-- each event of a legal history is of a worker below the count
author_low : (schedule : Schedule) (workers : ℕ) (g : List Event) (e : Event) → Fits schedule workers g e → author e < workers
author_low schedule workers g (Start op worker at) f = (f.obeys V1).1.known
author_low schedule workers g (Finish op worker at front) f = (f.obeys V1).1.known
author_low schedule workers g (Halt worker) f = (f.obeys V1).known

pub made_by : (z : Site) (seats : List Sitting) (schedule : Schedule) (workers : ℕ) (h : List Event) → AreAll z seats → workers ≡ z.workers → IsLegal schedule workers h → AreMadeBy seats h
made_by z seats schedule workers h all same legal k d lt =
    let e = get_or h k d in
    let s = split_at h k d lt in
    let low : author e < z.workers = subst (λ (n : ℕ). author e < n) same (author_low schedule workers s.0 e (legal.fits s.0 e s.1 s.2)) in
    let found = all.each (author e) low in
    (found.0, found.1, found.2, found.3, is_by-author found.1.worker e (sym found.4))

-- an event of a worker comes first among that worker's
first_of : (w : ℕ) (e : Event) (h : List Event) → is_by w e ≡ true → events_of w (e ∷ h) ≡ e ∷ events_of w h
first_of w e h is = let t = is in rw t refl

get_is : (xs : List Sitting) (k : ℕ) (x y : Sitting) → slice_get xs k ≡ Some x → get_or xs k y ≡ x
get_is [] k x y is = absurd (cc)
get_is (a ∷ xs) zero x y is = cc
get_is (a ∷ xs) (suc k) x y is = get_is xs k x y is

-- seats that have seen nothing, one of each worker, leave no event
pub empty_yet : (schedule : Schedule) (z : Site) (seats : List Sitting) → AreSeats z seats → (h : List Event) → All (IsPartOf schedule h) seats → AreMadeBy seats h → h ≡ []
empty_yet schedule z seats are [] parts made = refl
empty_yet schedule z seats are (e ∷ h) parts made =
    let by = made 0 e (omega arith) in
    let k = by.0 in
    let y = by.1 in
    let low : k < z.workers = subst (λ (n : ℕ). k < n) are.0 by.2 in
    let is : y ≡ sitting z k [] (time_below 0) = sym by.3 ∙ get_is seats k (sitting z k [] (time_below 0)) y (are.1 k low) in
    let part_is = subst (IsPartOf schedule (e ∷ h)) by.3 (parts k y by.2) in
    let own : e ∷ events_of y.worker h ≡ [] = sym (first_of y.worker e h by.4) ∙ (part_is.mine ∙ ap (λ (s : Sitting). events_of y.worker s.seen) is) in
    absurd (cc)
