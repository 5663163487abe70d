-- What a call of a board leaves of how far a worker has come.
use Rattle.std.proofs.Common.{◌≡◌, ◌∙◌, ℕ, ◌≤◌, ◌⊎◌, List, [], ◌∷◌, ◌++◌, length, drop, Bool, true, false, cond, Option, Some, None, inl, inr, refl, sym, ap, subst, arith, append_assoc, append-nil}
use Rattle.snb_base.specs.Moments.{Moments}
use Rattle.std.proofs.lemmas.List.{append_cancel_left, append_cancel_right}
use Rattle.std.specs.Prelude.{All, Contains}
use Rattle.std.proofs.Math.Seq.{drop-append-le}
use mathlib.Core.List.{IsPrefix}
use Rattle.snb_history.specs.declared.event.Event.{Event}
use Rattle.snb_history.specs.declared.event.Event.TheVariants.{Start, Finish, Halt}
use Rattle.snb_schema.specs.declared.row.Row.{Row}
use Rattle.snb_history.specs.History.{halted, halts, has_moment, is_by, moment}
use Rattle.snb_history.proofs.Laws.{halted-push}
use Rattle.snb_book.specs.Kept.{moment_after}
use Rattle.snb_board.specs.Boards.{HasCalled, Site, Sitting, events_of, mine}
use Rattle.snb_plan.specs.Plans.{Plan}
use Rattle.snb_answered.specs.declared.done.Answered.{Answered}
use Rattle.snb_replica.specs.Replicas.{Taken}
use Rattle.snb_replica.specs.Runs.{AreReplies}
use Rattle.snb_workers.specs.Works.{AreTimely, IsFollowing, IsLater, IsTimely, added}
use Rattle.snb_workers.specs.WorkTurns.{HasCome, HasReplied}
use Rattle.snb_workers.proofs.TurnReplies.{AreWithin, answered_more}
use Rattle.snb_workers.proofs.WorkEvents.{events_of-own, none_own, prefix-trans, split_cases}
use Rattle.snb_base.proofs.Laws.{prefix-length, prefix-refl}
use Rattle.snb_board.proofs.Laws.{events_of-append}

-- at most one event is added, of this worker; if it is a Start or a Finish it is timely
abbrev pub AddsOne : Moments → ℕ → List Event → List Event → Type 0
AddsOne moments w found events = (events ≡ []) ⊎ ((e : Event) × (events ≡ e ∷ []) × (is_by w e ≡ true) × (has_moment e ≡ true → IsTimely moments found e))

-- it is of the worker alone
adds_own : (moments : Moments) (w : ℕ) (found events : List Event) → AddsOne moments w found events → events_of w events ≡ events
adds_own moments w found events (inl none) = ap (events_of w) none ∙ sym none
adds_own moments w found events (inr one) = ap (events_of w) one.1 ∙ (events_of-own w one.0 one.2 ∙ sym one.1)

-- ---- sittings

pub later-refl : (s : Sitting) → IsLater s s
later-refl s = record { site = refl; worker = refl; seen = prefix-refl s.seen; mine = prefix-refl (mine s) }

pub later-trans : (r s t : Sitting) → IsLater r s → IsLater s t → IsLater r t
later-trans r s t p q = record {
  site = q.site ∙ p.site;
  worker = q.worker ∙ p.worker;
  seen = prefix-trans r.seen s.seen t.seen p.seen q.seen;
  mine = prefix-trans (mine r) (mine s) (mine t) p.mine q.mine;
}

-- a replica that follows what was seen follows what is seen later
pub following_later : (base : List Row) (plan : Plan) (g h : List Event) (r : Taken) → IsPrefix g h → IsFollowing base plan g r → IsFollowing base plan h r
following_later base plan g h r begins f = record { closed = f.closed; taken = f.taken; begins = prefix-trans f.taken g h f.begins begins; stands = f.stands }

-- its front lies within what was seen
pub front_follows : (base : List Row) (plan : Plan) (h : List Event) (r : Taken) → IsFollowing base plan h r → r.front ≤ length h
front_follows base plan h r f = (let le = prefix-length f.taken h f.begins in let is = f.stands.front in omega arith)

module _ {P : List Event → List Event → Type 0} (s t : Sitting) (c : HasCalled s t P) where
  -- what is seen after a call, by what was seen
  pub whole : s.seen ++ (c.begins.0 ++ c.added) ≡ t.seen
  whole = sym (append_assoc s.seen c.begins.0 c.added) ∙ (ap (λ (l : List Event). l ++ c.added) c.begins.1 ∙ sym c.seen)

  pub later : IsLater s t
  later = record { site = c.site; worker = c.worker; seen = (c.begins.0 ++ c.added, whole); mine = (c.added, sym c.mine) }

  -- the worker's events that a call adds are added to those that it had added before
  pub added_called : (first : Sitting) → IsPrefix (mine first) (mine s) → added first t ≡ added first s ++ c.added
  added_called first begins = ap (drop (length (mine first))) c.mine ∙ drop-append-le (length (mine first)) (mine s) c.added (prefix-length (mine first) (mine s) begins)

  -- the events of the worker in all that is seen
  own_now : events_of s.worker t.seen ≡ mine s ++ c.added
  own_now = ap (λ (w : ℕ). events_of w t.seen) (sym c.worker) ∙ c.mine

  -- nothing of the worker's has happened in between
  pub quiet : events_of s.worker c.added ≡ c.added → events_of s.worker c.begins.0 ≡ []
  quiet own =
      append_cancel_right (events_of s.worker c.begins.0) [] c.added
      (ap (λ (l : List Event). events_of s.worker c.begins.0 ++ l) (sym own)
      ∙ (sym (events_of-append s.worker c.begins.0 c.added)
      ∙ append_cancel_left (mine s) (events_of s.worker (c.begins.0 ++ c.added)) c.added
      (sym (events_of-append s.worker s.seen (c.begins.0 ++ c.added)) ∙ (ap (events_of s.worker) whole ∙ own_now))))

  -- the worker's events are timely where they were and where the one that is added is
  pub timely_called : (moments : Moments) (n : ℕ) → AddsOne moments s.worker c.found c.added → AreTimely moments s.worker n s.seen → AreTimely moments s.worker n t.seen
  timely_called moments n one were g rest e is low own has = elim (split_cases g e rest s.seen (c.begins.0 ++ c.added) (is ∙ sym whole)) [
    | inl early ↦ were g early.0 e early.1 low own has
    | inr late ↦ elim (split_cases late.0 e rest c.begins.0 c.added late.2) [
      | inl between ↦ absurd (none_own s.worker late.0 between.0 e own (ap (events_of s.worker) between.1 ∙ quiet (adds_own moments s.worker c.found c.added one)))
      | inr last ↦ elim one [
        | inl none ↦ absurd (let q : last.0 ++ e ∷ rest ≡ [] = last.2 ∙ none in nothing last.0 q)
        | inr event ↦ (
            let only = alone last.0 event.0 (last.2 ∙ event.1) in
            let front : g ≡ c.found = late.1 ∙ (ap (λ (l : List Event). s.seen ++ l) (last.1 ∙ (ap (λ (l : List Event). c.begins.0 ++ l) only.0 ∙ append-nil c.begins.0)) ∙ c.begins.1) in
            subst (λ (x : List Event × Event). IsTimely moments x.0 x.1) (λ i. (sym front i, sym only.1 i)) (event.3 (ap has_moment (sym only.1) ∙ has)))
      ]
    ]
  ]
    where
      nothing : (before : List Event) → before ++ e ∷ rest ≡ [] → ⊥
      nothing [] q = cc
      nothing (x ∷ before) q = cc

      alone : (before : List Event) (d : Event) → before ++ e ∷ rest ≡ d ∷ [] → (before ≡ []) × (e ≡ d)
      alone [] d q = (refl, cc)
      alone (x ∷ []) d q = absurd cc
      alone (x ∷ y ∷ before) d q = absurd cc

-- ---- how far the worker has come

-- a call leads on
pub come_called : {P : List Event → List Event → Type 0} (plan : Plan) (moments : Moments) (first : Sitting) (old : Taken) (s t : Sitting) (r new : Taken) (c : HasCalled s t P) →
    HasCome plan moments first old s r → AddsOne moments s.worker c.found c.added → halted (mine t) t.worker ≡ false →
    ((base : List Row) → IsFollowing base plan s.seen r → IsFollowing base plan t.seen new) → HasCome plan moments first old t new
come_called plan moments first old s t r new c come one runs follows = record {
  schedule = ap (λ (z : Site). z.schedule) c.site ∙ come.schedule;
  later = later-trans first s t come.later (later s t c);
  running = runs;
  timely = subst (λ (w : ℕ). AreTimely moments w (length first.seen) t.seen) come.later.worker
      (timely_called s t c moments (length first.seen) one (subst (λ (w : ℕ). AreTimely moments w (length first.seen) s.seen) (sym come.later.worker) come.timely));
  some = come.some;
  follows = λ base f. follows base (come.follows base f);
}

-- who hasn't halted goes on where the event that it adds is no Halt
pub runs_on : {P : List Event → List Event → Type 0} (s t : Sitting) (c : HasCalled s t P) → halted (mine s) s.worker ≡ false → (c.added ≡ []) ⊎ ((e : Event) × (c.added ≡ e ∷ []) × (has_moment e ≡ true)) →
    halted (mine t) t.worker ≡ false
runs_on s t c runs (inl none) = ap (λ (l : List Event). halted l t.worker) (c.mine ∙ (ap (λ (l : List Event). mine s ++ l) none ∙ append-nil (mine s))) ∙ (ap (halted (mine s)) c.worker ∙ runs)
runs_on s t c runs (inr one) =
    ap (λ (l : List Event). halted l t.worker) (c.mine ∙ ap (λ (l : List Event). mine s ++ l) one.1)
    ∙ (halted-push (mine s) one.0 t.worker
    ∙ (ap (λ (b : Bool). cond b true (halted (mine s) t.worker)) (no_halt one.0 one.2) ∙ (ap (halted (mine s)) c.worker ∙ runs)))
  where
    no_halt : (e : Event) → has_moment e ≡ true → halts t.worker e ≡ false
    no_halt (Start op worker at) has = refl
    no_halt (Finish op worker at front) has = refl
    no_halt (Halt worker) has = absurd cc

-- ---- the replies

-- the fronts of the replies lie within what was seen
pub replies_within : (base : List Row) (plan : Plan) (h : List Event) (r : Taken) (replies : List Answered) → IsFollowing base plan h r → All (λ a. a.front ≤ r.front) replies → AreWithin h replies
replies_within base plan h r replies f low k d lt = (let le = low k d lt in let within = front_follows base plan h r f in omega arith)

-- a call that adds no Finish leaves them
pub replied_called : {P : List Event → List Event → Type 0} (plan : Plan) (moments : Moments) (first : Sitting) (old : Taken) (s t : Sitting) (r new : Taken) (replies : List Answered) (c : HasCalled s t P) →
    HasCome plan moments first old s r → HasReplied plan moments first old s r replies → ((k w at front : ℕ) → ¬ Contains c.added (Finish k w at front)) → r.front ≤ new.front → HasReplied plan moments first old t new replies
replied_called plan moments first old s t r new replies c come replied none rise = record {
  answered = λ base f.
      subst (λ (h : List Event). AreReplies base plan moments (added first t) h replies) (whole s t c)
      (subst (λ (events : List Event). AreReplies base plan moments events (s.seen ++ (c.begins.0 ++ c.added)) replies) (sym (added_called s t c first come.later.mine))
      (answered_more base plan moments (added first s) s.seen c.added (c.begins.0 ++ c.added) replies (replies_within base plan s.seen r replies (come.follows base f) replied.fronts) none (replied.answered base f)));
  fronts = λ k d lt. (let le = replied.fronts k d lt in omega arith);
}
