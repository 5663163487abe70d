-- Facts on lists of events, on beginnings of them, and on how far a history has come.
use Rattle.std.proofs.Common.{◌≡◌, ◌≢◌, ℕ, zero, suc, ◌+◌, ◌≤◌, List, [], ◌∷◌, ◌++◌, length, get_or, ◌<◌, true, false, refl, sym, ap, ◌∙◌, subst, append_assoc, append-nil, length-append, arith, Some}
use Rattle.std.specs.Prelude.{slice_get, ℤ, pos, ◌-ℤ◌, ◌≤ℤ◌}
use lib.IntN.{negsuc}
use Rattle.std.proofs.lemmas.Bool.{eq-eqb, ne_eqb}
use Rattle.std.proofs.lemmas.Int.{ints}
use Rattle.std.proofs.lemmas.List.Elements.{filter-append}
use mathlib.Core.List.{IsPrefix}
use Rattle.snb_history.specs.declared.event.Event.{Event}
use Rattle.snb_history.specs.declared.event.Event.TheVariants.{Start, Finish, Halt}
use Rattle.snb_history.specs.History.{is_by, started, hand, halted}
use Rattle.snb_history.specs.Rules.{IsFront}
use Rattle.snb_history.specs.Laws.{HandIsOwn, StartStays}
use Rattle.snb_book.specs.declared.claim.Ticket.{Ticket}
use Rattle.snb_book.specs.Kept.{IsInHand}
use Rattle.snb_schema.specs.declared.limits.TheConstants.{MAX_TIME}
use Rattle.snb_history.specs.Schedule.{Schedule, step_of}
use Rattle.snb_history.specs.Completion.{completion, is_awaited, least_of}
use Rattle.snb_history.proofs.Laws.{completion_rises, least_of-top}
use Rattle.snb_board.specs.Boards.{events_of, time_below}
use Rattle.snb_board.specs.Parts.{author, reached}
use Rattle.snb_board.specs.Steps.{number_after}
use Rattle.snb_base.proofs.Laws.{slice_get-prefix}

pub is_by-author : (w : ℕ) (e : Event) → author e ≡ w → is_by w e ≡ true
is_by-author w (Start op worker at) is = eq-eqb worker w is
is_by-author w (Finish op worker at front) is = eq-eqb worker w is
is_by-author w (Halt worker) is = eq-eqb worker w is

is_by-other : (w : ℕ) (e : Event) → author e ≢ w → is_by w e ≡ false
is_by-other w (Start op worker at) is = ne_eqb worker w is
is_by-other w (Finish op worker at front) is = ne_eqb worker w is
is_by-other w (Halt worker) is = ne_eqb worker w is

pub events_of-append : (w : ℕ) (xs ys : List Event) → events_of w (xs ++ ys) ≡ events_of w xs ++ events_of w ys
events_of-append w xs ys = filter-append (is_by w) xs ys

pub events_of-mine : (w : ℕ) (e : Event) → author e ≡ w → events_of w (e ∷ []) ≡ e ∷ []
events_of-mine w e is = let t = is_by-author w e is in rw t refl

events_of-other : (w : ℕ) (e : Event) → author e ≢ w → events_of w (e ∷ []) ≡ []
events_of-other w e is = let t = is_by-other w e is in rw t refl

pub events_of-push_other : (w : ℕ) (h : List Event) (e : Event) → author e ≢ w → events_of w (h ++ e ∷ []) ≡ events_of w h
events_of-push_other w h e is = events_of-append w h (e ∷ []) ∙ (ap (λ (l : List Event). events_of w h ++ l) (events_of-other w e is) ∙ append-nil (events_of w h))

pub prefix-push : (xs ys : List Event) (e : Event) → IsPrefix xs ys → IsPrefix xs (ys ++ e ∷ [])
prefix-push xs ys e p = (p.0 ++ e ∷ [], sym (append_assoc (xs) (p.0) (e ∷ [])) ∙ ap (λ (l : List Event). l ++ e ∷ []) p.1)

pub slice_get-push : (xs : List Event) (e : Event) → slice_get (xs ++ e ∷ []) (length xs) ≡ Some e
slice_get-push [] e = refl
slice_get-push (x ∷ xs) e = slice_get-push xs e

pub some_event : (xs : List Event) (e : Event) → 0 < length (xs ++ e ∷ [])
some_event [] e = omega arith
some_event (x ∷ xs) e = omega arith

-- the last one, by its number
pub last_is : (h xs : List Event) (e : Event) (d x : Event) (n : ℕ) → h ≡ xs ++ e ∷ [] → n + 1 ≡ length h → x ≡ get_or h n d → x ≡ e
last_is h xs e d x n is len found = found ∙ (ap (λ (l : List Event). get_or l n d) is ∙ at xs n (len ∙ ap length is))
  where
    at : (xs : List Event) (n : ℕ) → n + 1 ≡ length (xs ++ e ∷ []) → get_or (xs ++ e ∷ []) n d ≡ e
    at [] zero len = refl
    at [] (suc n) len = absurd (omega arith)
    at (y ∷ ys) zero len = absurd (let some = some_event ys e in omega arith)
    at (y ∷ ys) (suc n) len = at ys n (omega arith)

below_same : (a b : ℕ) → (pos a -ℤ pos 1) ≤ℤ (pos b -ℤ pos 1) → a ≤ b
below_same a b le = omega (arith, ints)

-- more events never lower how far a history has come
pub reached-append : (s : Schedule) (g h : List Event) → reached s g ≤ reached s (g ++ h)
reached-append s g h = below_same (reached s g) (reached s (g ++ h)) (completion_rises s g h)

-- and the completion time is one less
pub reached-told : (s : Schedule) (h : List Event) (n : ℕ) → n ≤ reached s h → time_below n ≤ℤ completion s h
reached-told s h n le = at_most n (reached s h) le
  where
    at_most : (a b : ℕ) → a ≤ b → (pos a -ℤ pos 1) ≤ℤ (pos b -ℤ pos 1)
    at_most a b le = omega (arith, ints)

-- it is at most one more than the greatest time
pub reached-small : (s : Schedule) (h : List Event) → reached s h ≤ MAX_TIME + 1
reached-small s h = least_of-top (λ k. (step_of s k).t) (MAX_TIME + 1) (is_awaited s h) (length s.steps)

pub number-below : (n : ℕ) → number_after (time_below n) ≡ n
number-below zero = refl
number-below (suc n) = ap number_after (before n)
  where
    before : (n : ℕ) → (pos (suc n) -ℤ pos 1) ≡ pos n
    before n = omega (arith, ints)

pub below-number : (z : ℤ) → z ≤ℤ time_below (number_after z)
below-number (pos n) = omega (arith, ints)
below-number (negsuc n) = omega (arith, ints)

-- an operation whose Start stands at a number is started
started_there : (g : List Event) (k op w at : ℕ) → slice_get g k ≡ Some (Start op w at) → started g op ≡ true
started_there [] k op w at is = absurd (cc)
started_there (x ∷ g) zero op w at is = let e = eq-eqb op op refl in grind arith
started_there (x ∷ g) (suc k) op w at is = let ih = started_there g k op w at is in grind arith

-- who has an operation in hand still has it where only others' events follow
pub in_hand_later : HandIsOwn → (g h : List Event) (t : Ticket) → IsPrefix g h → events_of t.worker h ≡ events_of t.worker g → IsInHand g t → IsInHand h t
in_hand_later own g h t begins same is = record {
  held = sym (own h t.worker).0 ∙ (ap (λ (l : List Event). hand l t.worker) same ∙ ((own g t.worker).0 ∙ is.held));
  since = (is.since.0, subst (λ (l : List Event). slice_get l t.start ≡ Some (Start t.op t.worker is.since.0)) begins.1 (slice_get-prefix g begins.0 t.start (Start t.op t.worker is.since.0) is.since.1));
}

-- who hasn't halted still hasn't
pub running_later : HandIsOwn → (g h : List Event) (w : ℕ) → events_of w h ≡ events_of w g → halted (events_of w g) w ≡ false → halted h w ≡ false
running_later own g h w same runs = sym (own h w).1 ∙ (ap (λ (l : List Event). halted l w) same ∙ runs)

-- a front that was right still is
pub front_later : StartStays → (s : Schedule) (g h : List Event) (t : Ticket) (front : ℕ) → IsPrefix g h → IsInHand g t → IsFront s g t.op front → IsFront s h t.op front
front_later stays s g h t front begins is f =
    subst (λ (l : List Event). IsFront s l t.op front) begins.1 record {
      of_read = λ q.
          let number = stays g begins.0 t.op (started_there g t.start t.op t.worker is.since.0 is.since.1) in
          let both = f.of_read q in
          let low = both.0 in
          let high = both.1 in
          let e = length-append g begins.0 in
          (omega arith, omega arith);
      of_insert = f.of_insert;
    }
