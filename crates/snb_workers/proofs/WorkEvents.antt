-- Facts on beginnings of histories, and on the events of one worker.
use Rattle.std.proofs.Common.{◌≡◌, ◌∙◌, ℕ, zero, suc, ◌+◌, ◌<◌, ◌⊎◌, List, [], ◌∷◌, ◌++◌, length, drop, Bool, true, false, cond, not, Some, inl, inr, refl, sym, ap, arith, append_assoc}
use Rattle.std.specs.Prelude.{Contains, slice_get}
use Rattle.std.specs.List.{position_or_len}
use Rattle.std.proofs.lemmas.Bool.{eq-eqb}
use Rattle.std.proofs.lemmas.List.Elements.{All-contains, All-contains_itself, All-drop, All-filter}
use mathlib.Core.List.{IsPrefix}
use Rattle.snb_history.specs.declared.event.Event.{Event}
use Rattle.snb_history.specs.declared.event.Event.TheVariants.{Start}
use Rattle.snb_history.specs.History.{is_by, starts}
use Rattle.snb_board.specs.Boards.{events_of}

-- ---- beginnings

pub prefix-trans : (xs ys zs : List Event) → IsPrefix xs ys → IsPrefix ys zs → IsPrefix xs zs
prefix-trans xs ys zs p q = (p.0 ++ q.0, sym (append_assoc xs p.0 q.0) ∙ (ap (λ (l : List Event). l ++ q.0) p.1 ∙ q.1))

-- an event of a history that goes on is one of its beginning, or of the rest
pub split_cases : (g : List Event) (e : Event) (rest h more : List Event) → g ++ e ∷ rest ≡ h ++ more →
    ((after : List Event) × (g ++ e ∷ after ≡ h)) ⊎ ((before : List Event) × (g ≡ h ++ before) × (before ++ e ∷ rest ≡ more))
split_cases g e rest [] more q = inr (g, refl, q)
split_cases [] e rest (x ∷ h) more q = inl (h, (let same : e ≡ x = cc in ap (λ (y : Event). y ∷ h) same))
split_cases (y ∷ g) e rest (x ∷ h) more q =
    let same : y ≡ x = cc in
    let deeper : g ++ e ∷ rest ≡ h ++ more = cc in
    elim (split_cases g e rest h more deeper) [
      | inl p ↦ inl (p.0, (let is : g ++ e ∷ p.0 ≡ h = p.1 in cc))
      | inr p ↦ inr (p.0, (let is : g ≡ h ++ p.0 = p.1 in cc), p.2)
    ]

-- ---- where an operation's Start stands

-- an operation whose Start stands in a history starts in it
pub starts_there : (h : List Event) (k op w at : ℕ) → slice_get h k ≡ Some (Start op w at) → position_or_len (starts op) h < length h
starts_there [] k op w at is = absurd (cc)
starts_there (x ∷ h) zero op w at is = here (starts op x) (ap (starts op) (let e : x ≡ Start op w at = cc in e) ∙ eq-eqb op op refl)
  where
    here : (b : Bool) → b ≡ true → cond (not b) (1 + position_or_len (starts op) h) 0 < length (x ∷ h)
    here true e = omega arith
    here false e = absurd cc
starts_there (x ∷ h) (suc k) op w at is = past (starts op x) (starts_there h k op w at is)
  where
    past : (b : Bool) → position_or_len (starts op) h < length h → cond (not b) (1 + position_or_len (starts op) h) 0 < length (x ∷ h)
    past true lt = omega arith
    past false lt = omega arith

-- ---- the events of one worker

-- an event of the worker is kept
pub events_of-own : (w : ℕ) (e : Event) → is_by w e ≡ true → events_of w (e ∷ []) ≡ e ∷ []
events_of-own w e own = ap (λ (b : Bool). cond b (e ∷ []) []) own

kept_none : (b : Bool) (x : Event) (l : List Event) → cond b (x ∷ l) l ≡ [] → (b ≡ false) × (l ≡ [])
kept_none true x l e = absurd cc
kept_none false x l e = (refl, e)

-- where the worker has no events, none is the worker's
pub none_own : (w : ℕ) (g rest : List Event) (e : Event) → is_by w e ≡ true → events_of w (g ++ e ∷ rest) ≡ [] → ⊥
none_own w [] rest e own none = (let missing = (kept_none (is_by w e) e (events_of w rest) none).0 in cc)
none_own w (x ∷ g) rest e own none = none_own w g rest e own (kept_none (is_by w x) x (events_of w (g ++ e ∷ rest)) none).1

-- they stand in the history
pub own_contained : (w n : ℕ) (h : List Event) (e : Event) → Contains (drop n (events_of w h)) e → Contains h e
own_contained w n h e = All-contains (Contains h) (drop n (events_of w h)) e (All-drop (Contains h) n (events_of w h) (All-filter (is_by w) (Contains h) h (All-contains_itself h)))
