-- What a Start at a place of a history tells of it.
use Rattle.std.proofs.Common.{◌≡◌, ◌<◌, ◌≤◌, ◌++◌, ◌∷◌, ℕ, zero, suc, Bool, true, false, List, [], Some, inl, inr, refl, sym, ap, ◌∙◌, arith}
use Rattle.std.specs.Prelude.{slice_get}
use Rattle.std.specs.List.{position_or_len}
use Rattle.std.proofs.lemmas.Bool.{cases_lt, eq-eqb}
use Rattle.std.proofs.lemmas.List.Sums.{fails_before_first}
use Rattle.std.proofs.lemmas.Option.{get_or_from_slice_get}
use Rattle.snb_history.specs.declared.event.Event.{Event}
use Rattle.snb_history.specs.declared.event.Event.TheVariants.{Start}
use Rattle.snb_history.specs.History.{finished, starts}
use Rattle.snb_history.specs.Laws.{HandIsTheirs}
use Rattle.snb_history.specs.Rules.{IsLegal}
use Rattle.snb_history.specs.Schedule.{Schedule}
use Rattle.snb_book.specs.declared.claim.Ticket.{Ticket}
use Rattle.snb_book.specs.Kept.{IsInHand}

-- a list is cut at each place
cut_at : {X : Type 0} (xs : List X) (i : ℕ) (x : X) → slice_get xs i ≡ Some x → (before : List X) × (after : List X) × (before ++ x ∷ after ≡ xs)
cut_at [] i x e = absurd cc
cut_at (y ∷ ys) zero x e = (let same : y ≡ x = cc in ([], ys, ap (λ z. z ∷ ys) (sym same)))
cut_at (y ∷ ys) (suc i) x e = let r = cut_at ys i x e in (y ∷ r.0, r.1, ap (λ l. y ∷ l) r.2)

-- the first place is no later than any
not_later : {X : Type 0} (p : X → Bool) (xs : List X) (i : ℕ) (x : X) → slice_get xs i ≡ Some x → p x ≡ true → position_or_len p xs ≤ i
not_later p xs i x e passes =
    elim (cases_lt i (position_or_len p xs)) [
      | inl less ↦ (let wrong : false ≡ true = sym (fails_before_first p xs i x less) ∙ ap p (get_or_from_slice_get xs i x x e) ∙ passes in absurd cc)
      | inr more ↦ more
    ]

-- the worker has in hand what it starts there and nobody finishes
pub in_hand : HandIsTheirs → (s : Schedule) (workers : ℕ) (h : List Event) → IsLegal s workers h → (ticket : Ticket)
    → (at : ℕ) × (slice_get h ticket.start ≡ Some (Start ticket.op ticket.worker at)) → finished h ticket.op ≡ false → IsInHand h ticket
in_hand law s workers h legal ticket since unfinished =
    let cut = cut_at h ticket.start (Start ticket.op ticket.worker since.0) since.1 in
    record {
      held = (law s workers h legal ticket.worker ticket.op).1 ((cut.0, cut.1, since.0, cut.2), unfinished);
      since = since;
    }

-- and its first Start is no later
pub start_before : (h : List Event) (ticket : Ticket) (front : ℕ) → IsInHand h ticket → ticket.start < front → position_or_len (starts ticket.op) h < front
start_before h ticket front held less =
    let at = not_later (starts ticket.op) h ticket.start (Start ticket.op ticket.worker held.since.0) held.since.1 (eq-eqb ticket.op ticket.op refl) in
    omega (arith, at, less)
