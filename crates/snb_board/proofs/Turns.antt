-- What a turn's steps come to, one after another.
use Rattle.std.proofs.Common.{◌≡◌, ℕ, ◌<◌, List, [], ◌∷◌, ◌++◌, ◌≤◌, sym, refl, ap, ◌∙◌, subst}
use mathlib.Core.Option.{none}
use Rattle.atomic_table.specs.Table.{step, rest}
use Rattle.snb_history.specs.declared.event.Event.{Event}
use mathlib.Core.List.{IsPrefix}
use Rattle.snb_history.specs.Rules.{IsLegal}
use Rattle.snb_book.specs.Kept.{Kept}
use Rattle.snb_board.specs.Boards.{events_of}
use Rattle.snb_board.specs.declared.view.View.{View}
use Rattle.std.specs.Prelude.{Err, None, Ok}
use Rattle.snb_board.specs.declared.view.Phase.TheVariants.{Idle, Holding, Counted, Raised}
use Rattle.snb_board.specs.Views.{Home, Sat, At}
use Rattle.snb_board.specs.ViewSteps.{noted, noted_in, took}
use Rattle.snb_board.specs.Parts.{kept, reached, IsOut, part, viewing, seeing, posed, seen_of, number_of, told_of, first_view, IsShown}
use Rattle.snb_board.specs.Steps.{IsSingle}
use Rattle.snb_board.proofs.Parts.{single-seeing, single-posed}

-- what is told does not depend on the step
abbrev pub any_step : At
any_step = step 0 0 0 0 none

pub full_kept : (a b : Kept) → ◌≡◌ {A = Home} (Ok a) (Ok b) → a ≡ b
full_kept a b e = cc

-- the slot that a won turn brings
pub slot_taken : (p l m : Sat) (n : ℕ) → l ≡ p → p.1 ≡ [] → took any_step l n m → n ≡ 0 → (b : Home) × (m.1 ≡ (0, b) ∷ rest m.1)
slot_taken p l m n same no_slot t hit =
    let won = t.0 hit in
    let b = Ok (kept l.0.schedule l.0.workers won.0) in
    let has : m.1 ≡ (0, b) ∷ l.1 = ap (λ (x : Sat). x.1) won.5 in
    (b, has ∙ ap (λ (x : List (ℕ × Home)). (0, b) ∷ rest x) (sym has))

abbrev first_home : Home → List (ℕ × Home) → Home
first_home d [] = d
first_home d (x ∷ xs) = x.1

-- it has a book
pub book_taken : (l m : Sat) (n : ℕ) (b : Home) → took any_step l n m → n ≡ 0 → m.1 ≡ (0, b) ∷ rest m.1 → (a : Kept) × (b ≡ Ok a)
book_taken l m n b t hit is =
    let won = t.0 hit in
    let a = kept l.0.schedule l.0.workers won.0 in
    let has : m.1 ≡ (0, Ok a) ∷ l.1 = ap (λ (x : Sat). x.1) won.5 in
    let both : (0, b) ∷ rest m.1 ≡ (0, Ok a) ∷ l.1 = sym is ∙ has in
    (a, ap (λ (x : List (ℕ × Home)). first_home b x) both)

-- the turn was won, and the book moved out of the slot
pub turn_taken : (p l m q : Sat) (n : ℕ) (b : Home) (a : Kept) → l ≡ p → p.1 ≡ [] → took any_step l n m → n ≡ 0 → m.1 ≡ (0, b) ∷ rest m.1 → q ≡ (m.0, (0, Err None) ∷ rest m.1) → b ≡ Ok a
    → (q ≡ (posed Holding a.history p.0, (0, Err None) ∷ [])) × IsPrefix (seen_of p.0.parts) a.history × (events_of (number_of p.0.parts) a.history ≡ events_of (number_of p.0.parts) (seen_of p.0.parts))
    × (a ≡ kept p.0.schedule p.0.workers a.history) × IsLegal a.schedule a.workers a.history × (told_of p.0.parts ≤ reached a.schedule a.history)
unfolding book_taken
turn_taken p l m q n b a same no_slot t hit is next book =
    let won = subst (λ x. took any_step x n m) same t in
    let h = (won.0 hit).0 in
    let it : kept p.0.schedule p.0.workers h ≡ a = full_kept _ _ (sym (book_taken p m n b won hit is).1 ∙ book) in
    let history : h ≡ a.history = ap (λ (x : Kept). x.history) it in
    let has : m.1 ≡ (0, Ok (kept p.0.schedule p.0.workers h)) ∷ p.1 = ap (λ (x : Sat). x.1) (won.0 hit).5 in
    let left : rest m.1 ≡ [] = ap rest has ∙ no_slot in
    let view : m.0 ≡ posed Holding h p.0 = ap (λ (x : Sat). x.0) (won.0 hit).5 in (
      next ∙ (λ k. ((view ∙ ap (λ (x : List Event). posed Holding x p.0) history) k, (0, Err None) ∷ left k)),
      subst (IsPrefix (seen_of p.0.parts)) history (won.0 hit).1,
      subst (λ x. events_of (number_of p.0.parts) x ≡ events_of (number_of p.0.parts) (seen_of p.0.parts)) history (won.0 hit).2,
      sym it ∙ ap (kept p.0.schedule p.0.workers) history,
      subst (λ (x : Kept). IsLegal x.schedule x.workers x.history) it (won.0 hit).3,
      subst (λ (x : Kept). told_of p.0.parts ≤ reached x.schedule x.history) it (won.0 hit).4,
    )

-- the seat has seen the history of the book, of which the word says all; its slot has something
abbrev pub Told : Sat → Kept → Sat → Type 0
Told p a y = IsOut y.0.phase × IsShown y.0.phase × ((x : Home) × (y ≡ (posed y.0.phase a.history p.0, (0, x) ∷ [])))

-- and then the book, so that it may pass the turn
abbrev pub Ready : Sat → Kept → Sat → Type 0
Ready p a y = IsOut y.0.phase × IsShown y.0.phase × (y ≡ (posed y.0.phase a.history p.0, (0, Ok a) ∷ []))

-- it has the slot
pub told_slot : (p y : Sat) (a : Kept) → Told p a y → (x : Home) × (y.1 ≡ (0, x) ∷ rest y.1)
told_slot p y a told = (told.2.0, subst (λ (m : Sat). m.1 ≡ (0, told.2.0) ∷ rest m.1) (sym told.2.1) refl)

-- the book is put back
pub ready_filled : (p y z : Sat) (a : Kept) → Told p a y → z ≡ (y.0, (0, Ok a) ∷ rest y.1) → Ready p a z
ready_filled p y z a told is =
    let x = told.2.0 in
    let now : z ≡ (posed y.0.phase a.history p.0, (0, Ok a) ∷ []) = is ∙ ap (λ (m : Sat). (m.0, (0, Ok a) ∷ rest m.1)) told.2.1 in
    let phase : z.0.phase ≡ y.0.phase = ap (λ (m : Sat). m.0.phase) is in
    (subst IsOut (sym phase) told.0, subst IsShown (sym phase) told.1, now ∙ (λ i. (posed (sym phase i) a.history p.0, (0, Ok a) ∷ [])))

pub put_back_is : (p x : Sat) (b : Home) → p.1 ≡ (0, Err None) ∷ [] → x ≡ (p.0, (0, b) ∷ rest p.1) → x ≡ (p.0, (0, b) ∷ [])
put_back_is p x b empty is = is ∙ ap (λ (c : List (ℕ × Home)). (p.0, (0, b) ∷ rest c)) empty

seen_posed : (h : List Event) (v : View) → IsSingle v → seen_of (seeing h v.parts) ≡ h
seen_posed h v one = ap seen_of (single-seeing h v one)

seeing_twice : (h : List Event) (v : View) → IsSingle v → seeing h (seeing h v.parts) ≡ seeing h v.parts
seeing_twice h v one = ap (seeing h) (single-seeing h v one) ∙ sym (single-seeing h v one)

-- after the event was counted
pub counted_is : (p x y : Sat) (b : Home) (e : Event) (a : Kept) → x ≡ (p.0, (0, b) ∷ []) → noted b ≡ e ∷ [] → a.history ≡ seen_of p.0.parts ++ e ∷ [] → y ≡ (posed Counted (seen_of x.0.parts ++ noted_in x.1) x.0, x.1) → y ≡ (posed Counted a.history p.0, (0, b) ∷ [])
counted_is p x y b e a is event more next =
    next ∙ (ap (λ (m : Sat). (posed Counted (seen_of m.0.parts ++ noted_in m.1) m.0, m.1)) is ∙ (λ i. (posed Counted ((ap (λ (l : List Event). seen_of p.0.parts ++ l) event ∙ sym more) i) p.0, (0, b) ∷ [])))

pub counted_single : (p y : Sat) (b : Home) (a : Kept) → IsSingle p.0 → y ≡ (posed Counted a.history p.0, (0, b) ∷ []) → (y.0.phase ≡ Counted) × IsSingle y.0 × (seen_of y.0.parts ≡ a.history)
counted_single p y b a one is = (
  ap (λ (m : Sat). m.0.phase) is,
  subst (λ (m : Sat). IsSingle m.0) (sym is) (single-posed Counted a.history p.0 one),
  ap (λ (m : Sat). seen_of m.0.parts) is ∙ seen_posed a.history p.0 one,
)

-- and the word raised
pub raised_is : (p y z : Sat) (b : Home) (a : Kept) → IsSingle p.0 → y ≡ (posed Counted a.history p.0, (0, b) ∷ []) → z ≡ (posed Raised (seen_of y.0.parts) y.0, y.1) → z ≡ (posed Raised a.history p.0, (0, b) ∷ [])
raised_is p y z b a one is next =
    let v = p.0 in
    let again : seeing a.history (seeing a.history v.parts) ≡ seeing a.history v.parts = seeing_twice a.history v one in
    next ∙ (ap (λ (m : Sat). (posed Raised (seen_of m.0.parts) m.0, m.1)) is
    ∙ (λ k. (viewing Raised v.schedule v.workers v.made ((ap (λ (h : List Event). seeing h (seeing a.history v.parts)) (seen_posed a.history v one) ∙ again) k), (0, b) ∷ [])))

pub told_raised : (p z : Sat) (b : Home) (a : Kept) → z ≡ (posed Raised a.history p.0, (0, b) ∷ []) → Told p a z
told_raised p z b a now = subst (λ (m : Sat). Told p a m) (sym now) (tt, tt, (b, refl))

-- where no event was added
pub told_plain : (p : Sat) (a : Kept) → p.0.phase ≡ Holding → IsSingle p.0 → a.history ≡ seen_of p.0.parts → p.1 ≡ (0, Err None) ∷ [] → Told p a p
told_plain p a holding one same empty =
    let v = p.0 in
    let parts : v.parts ≡ seeing a.history v.parts = one.0 ∙ (ap (λ (h : List Event). part (number_of v.parts) h (told_of v.parts) ∷ []) (sym same) ∙ sym (single-seeing a.history v one)) in
    let view : v ≡ posed v.phase a.history v = λ k. viewing v.phase v.schedule v.workers v.made (parts k) in
    (subst IsOut (sym holding) tt, subst IsShown (sym holding) tt, (Err None, λ k. (view k, empty k)))

-- what passing the turn asks
pub ready_single : (p y : Sat) (a : Kept) → IsSingle p.0 → Ready p a y → IsSingle y.0
ready_single p y a one ready = subst (λ (m : Sat). IsSingle m.0) (sym ready.2) (single-posed y.0.phase a.history p.0 one)

pub ready_slot : (p y : Sat) (a : Kept) → IsSingle p.0 → a ≡ kept p.0.schedule p.0.workers a.history → Ready p a y
    → y.1 ≡ (0, Ok (kept y.0.schedule y.0.workers (seen_of y.0.parts))) ∷ []
ready_slot p y a one it ready =
    subst
    (λ (m : Sat). m.1 ≡ (0, Ok (kept m.0.schedule m.0.workers (seen_of m.0.parts))) ∷ [])
    (sym ready.2)
    (λ k. (0, Ok ((it ∙ ap (kept p.0.schedule p.0.workers) (sym (seen_posed a.history p.0 one))) k)) ∷ [])

-- and what it comes to
pub ready_passed : (p y q : Sat) (a : Kept) → IsSingle p.0 → Ready p a y → q ≡ (posed Idle (seen_of y.0.parts) y.0, rest y.1) → q ≡ (posed Idle a.history p.0, [])
ready_passed p y q a one ready is =
    let v = p.0 in
    let w = posed y.0.phase a.history v in
    let again = seeing_twice a.history v one in
    is ∙ (ap (λ (m : Sat). (posed Idle (seen_of m.0.parts) m.0, rest m.1)) ready.2
    ∙ (λ k. (viewing Idle v.schedule v.workers v.made ((ap (λ (h : List Event). seeing h (seeing a.history v.parts)) (seen_posed a.history v one) ∙ again) k), [])))

-- after the first turn was taken
pub begun_is : (a : Kept) (p y : Sat) → p ≡ (first_view a, []) → y ≡ (posed Holding [] p.0, (0, Ok (kept p.0.schedule p.0.workers [])) ∷ p.1)
    → IsOut y.0.phase × IsShown y.0.phase × (0 < a.workers → IsSingle y.0) × (y.1 ≡ (0, Ok (kept y.0.schedule y.0.workers (seen_of y.0.parts))) ∷ [])
    × (y ≡ (viewing Holding a.schedule a.workers 1 (part 0 [] 0 ∷ []), (0, Ok (kept a.schedule a.workers [])) ∷ []))
begun_is a p y first is =
    let now : y ≡ (viewing Holding a.schedule a.workers 1 (part 0 [] 0 ∷ []), (0, Ok (kept a.schedule a.workers [])) ∷ []) = is ∙ ap (λ (m : Sat). (posed Holding [] m.0, (0, Ok (kept m.0.schedule m.0.workers [])) ∷ m.1)) first in
    subst
    (λ (m : Sat). IsOut m.0.phase × IsShown m.0.phase × (0 < a.workers → IsSingle m.0) × (m.1 ≡ (0, Ok (kept m.0.schedule m.0.workers (seen_of m.0.parts))) ∷ []) × (m ≡ (viewing Holding a.schedule a.workers 1 (part 0 [] 0 ∷ []), (0, Ok (kept a.schedule a.workers [])) ∷ [])))
    (sym now)
    (tt, tt, (λ low. (refl, low)), refl, refl)

-- and passed
pub begun_passed : (a : Kept) (p y z : Sat) → p ≡ (first_view a, []) → y ≡ (viewing Holding a.schedule a.workers 1 (part 0 [] 0 ∷ []), (0, Ok (kept a.schedule a.workers [])) ∷ []) → z ≡ (posed Idle (seen_of y.0.parts) y.0, rest y.1) → z ≡ p
begun_passed a p y z first is next = next ∙ (ap (λ (m : Sat). (posed Idle (seen_of m.0.parts) m.0, rest m.1)) is ∙ sym first)
