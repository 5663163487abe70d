-- What a call of the board comes to.
use Rattle.std.proofs.Common.{◌≡◌, ℕ, ◌≤◌, ◌<◌, arith, Bool, true, false, List, [], ◌∷◌, ◌++◌, sym, refl, ap, ◌∙◌, subst, append-nil}
use Rattle.std.specs.Prelude.{ℤ, ◌≤ℤ◌}
use Rattle.std.proofs.lemmas.Int.{ints}
use mathlib.Core.List.{IsPrefix}
use Rattle.snb_history.specs.declared.event.Event.{Event}
use Rattle.snb_history.specs.declared.event.Event.TheVariants.{Start, Finish}
use Rattle.snb_history.specs.Schedule.{Schedule}
use Rattle.snb_history.specs.Completion.{completion}
use Rattle.snb_history.specs.History.{halted}
use Rattle.snb_history.specs.Laws.{HandIsOwn, StartStays}
use Rattle.snb_history.specs.Rules.{IsFront, IsLegal, MayAct}
use Rattle.snb_history.proofs.Laws.{completion_rises}
use Rattle.snb_book.specs.declared.claim.Claim.{Claim}
use Rattle.snb_book.specs.declared.claim.Claim.TheVariants.{Halted, AllStarted, Busy, NotDue, Go, Blocked}
use Rattle.snb_book.specs.declared.claim.Ticket.{Ticket}
use Rattle.snb_book.specs.Claims.{IfGo, IfNotGo, IsClaim}
use Rattle.snb_book.specs.Kept.{IsInHand, Kept}
use Rattle.snb_board.specs.declared.view.View.{View}
use Rattle.snb_board.specs.declared.view.Phase.TheVariants.{Idle, Holding}
use Rattle.snb_board.specs.Boards.{Site, Sitting, HasCalled, claimed_events, events_of, mine, site, sitting, time_below}
use Rattle.snb_board.specs.Views.{Sat}
use Rattle.snb_board.specs.Parts.{author, kept, part, posed, reached, seeing, seen_of, number_of, told_of}
use Rattle.snb_board.specs.Steps.{Place, IsSeated, IsSingle, IsResting, HoldsTurn, HasTurn, Grew, is_go, sitting_of}
use Rattle.snb_board.proofs.Events.{events_of-append, events_of-mine, front_later, in_hand_later, reached-told, running_later}
use Rattle.snb_board.proofs.Parts.{single-seeing, single-posed}

-- the book changes by its history alone
pub record Effect (w : ℕ) (a b : Kept) (events : List Event) (grew : Bool) : Type 0 where
  pub schedule : b.schedule ≡ a.schedule
  pub workers : b.workers ≡ a.workers
  pub history : b.history ≡ a.history ++ events
  pub own : events_of w events ≡ events
  pub grows : Grew w a.history grew b.history

pub none_effect : (w : ℕ) (a b : Kept) → b ≡ a → Effect w a b [] false
none_effect w a b e = record { schedule = ap (λ (x : Kept). x.schedule) e; workers = ap (λ (x : Kept). x.workers) e; history = ap (λ (x : Kept). x.history) e ∙ sym (append-nil a.history); own = refl; grows = ap (λ (x : Kept). x.history) e }

pub one_effect : (w : ℕ) (a b : Kept) (e : Event) → author e ≡ w → b ≡ record a { history = a.history ++ e ∷ [] } → Effect w a b (e ∷ []) true
one_effect w a b e own is = record { schedule = ap (λ (x : Kept). x.schedule) is; workers = ap (λ (x : Kept). x.workers) is; history = ap (λ (x : Kept). x.history) is; own = events_of-mine w e own; grows = (e, own, ap (λ (x : Kept). x.history) is) }

pub claim_effect : (w at : ℕ) (a b : Kept) (c : Claim) → IfGo c (λ ticket. b ≡ record a { history = a.history ++ Start ticket.op w at ∷ [] }) → IfNotGo c (b ≡ a) → Effect w a b (claimed_events w at c) (is_go c)
claim_effect w at a b Halted go same = none_effect w a b same
claim_effect w at a b AllStarted go same = none_effect w a b same
claim_effect w at a b (Busy op holder) go same = none_effect w a b same
claim_effect w at a b (NotDue until) go same = none_effect w a b same
claim_effect w at a b (Go ticket) go same = one_effect w a b (Start ticket.op w at) refl go
claim_effect w at a b (Blocked op needs time) go same = none_effect w a b same

-- the seat that has the turn, for `give`
pub turn_view : (p q : Place) (h : List Event) → IsSingle p.me.0 → HoldsTurn p q h
    → (q.me.0.phase ≡ Holding) × IsSingle q.me.0 × (number_of q.me.0.parts ≡ number_of p.me.0.parts) × (seen_of q.me.0.parts ≡ h) × (q.me.0.schedule ≡ p.me.0.schedule) × (q.me.0.workers ≡ p.me.0.workers) × (told_of q.me.0.parts ≡ told_of p.me.0.parts)
turn_view p q h one turn =
    let view : q.me.0 ≡ posed Holding h p.me.0 = ap (λ (m : Sat). m.0) turn.0 in
    let seeing_is : seeing h p.me.0.parts ≡ part (number_of p.me.0.parts) h (told_of p.me.0.parts) ∷ [] = single-seeing h p.me.0 one in (
      ap (λ (v : View). v.phase) view,
      subst IsSingle (sym view) (single-posed Holding h p.me.0 one),
      ap (λ (v : View). number_of v.parts) view ∙ ap number_of seeing_is,
      ap (λ (v : View). seen_of v.parts) view ∙ ap seen_of seeing_is,
      ap (λ (v : View). v.schedule) view,
      ap (λ (v : View). v.workers) view,
      ap (λ (v : View). told_of v.parts) view ∙ ap told_of seeing_is,
    )

-- the seat after the turn
pub sitting_after : (p q r : Place) (h k : List Event) → IsSingle p.me.0 → IsSeated p q → IsSeated q r → HoldsTurn p q h → r.me ≡ (posed Idle k q.me.0, [])
    → (sitting_of r ≡ sitting (sitting_of p).site (sitting_of p).worker k (sitting_of p).told) × IsResting r × (number_of r.me.0.parts ≡ number_of p.me.0.parts) × (r.me.0.workers ≡ p.me.0.workers)
sitting_after p q r h k one s t turn is =
    let v = turn_view p q h one turn in
    let view : r.me.0 ≡ posed Idle k q.me.0 = ap (λ (m : Sat). m.0) is in
    let parts : r.me.0.parts ≡ part (number_of p.me.0.parts) k (told_of p.me.0.parts) ∷ [] = ap (λ (u : View). u.parts) view ∙ (single-seeing k q.me.0 v.1 ∙ (λ i. part (v.2 i) k (v.6 i) ∷ [])) in
    let schedule : r.me.0.schedule ≡ p.me.0.schedule = ap (λ (u : View). u.schedule) view ∙ v.4 in
    let workers : r.me.0.workers ≡ p.me.0.workers = ap (λ (u : View). u.workers) view ∙ v.5 in
    let table = t.0 ∙ s.0 in (
      (λ i. sitting (site (table i) (schedule i) (workers i)) ((ap number_of parts) i) ((ap seen_of parts) i) (time_below ((ap told_of parts) i))),
      (ap (λ (u : View). u.phase) view, (subst (λ ps. ps ≡ part (number_of ps) (seen_of ps) (told_of ps) ∷ []) (sym parts) refl, subst (λ (n : ℕ). 0 < n) (sym workers) one.1), ap (λ (m : Sat). m.1) is),
      ap number_of parts,
      workers,
    )

at_most_later : (a b c : ℤ) → a ≤ℤ b → b ≤ℤ c → a ≤ℤ c
at_most_later a b c le le' = omega (arith, ints)

-- a whole call
pub called : (s : Sitting) (p q r : Place) (a b : Kept) (events : List Event) (grew : Bool) (P : List Event → List Event → Type 0) → sitting_of p ≡ s → IsSingle p.me.0 → IsSeated p q → IsSeated q r → HoldsTurn p q a.history
    → r.me ≡ (posed Idle b.history q.me.0, []) → Effect s.worker a b events grew → IsLegal s.site.schedule s.site.workers b.history → s.told ≤ℤ completion s.site.schedule a.history → P a.history events → HasCalled s (sitting_of r) P
called s p q r a b events grew P is one pq qr turn back effect legal told fact =
    let w = s.worker in
    let t = s.site.schedule in
    let after : sitting_of r ≡ sitting s.site s.worker b.history s.told = (sitting_after p q r a.history b.history one pq qr turn back).0 ∙ ap (λ (x : Sitting). sitting x.site x.worker b.history x.told) is in
    let begins : IsPrefix s.seen a.history = subst (λ (x : Sitting). IsPrefix x.seen a.history) is turn.1 in
    let same : events_of w a.history ≡ events_of w s.seen = subst (λ (x : Sitting). events_of x.worker a.history ≡ events_of x.worker x.seen) is turn.2 in
    subst (λ (u : Sitting). HasCalled s u P) (sym after) record {
      site = refl;
      worker = refl;
      found = a.history;
      begins = begins;
      added = events;
      seen = effect.history;
      mine = ap (events_of w) effect.history ∙ (events_of-append w a.history events ∙ (λ k. same k ++ effect.own k));
      legal = legal;
      told = refl;
      known = at_most_later s.told (completion t a.history) (completion t b.history) told (subst (λ (l : List Event). completion t a.history ≤ℤ completion t l) (sym effect.history) (completion_rises t a.history events));
      is_so = fact;
    }

-- what `give` asks
pub giving : (w : ℕ) (p q : Place) (a b : Kept) (events : List Event) (grew : Bool) → w ≡ number_of p.me.0.parts → IsSingle p.me.0 → HoldsTurn p q a.history → a ≡ kept p.me.0.schedule p.me.0.workers a.history
    → Effect w a b events grew → (HasTurn q × (b ≡ kept q.me.0.schedule q.me.0.workers b.history)) × Grew (number_of q.me.0.parts) (seen_of q.me.0.parts) grew b.history
giving w p q a b events grew own one turn it effect =
    let v = turn_view p q a.history one turn in
    let schedule : b.schedule ≡ q.me.0.schedule = effect.schedule ∙ (ap (λ (x : Kept). x.schedule) it ∙ sym v.4) in
    let workers : b.workers ≡ q.me.0.workers = effect.workers ∙ (ap (λ (x : Kept). x.workers) it ∙ sym v.5) in (
      ((v.0, v.1, ap (λ (m : Sat). m.1) turn.0), λ i. kept (schedule i) (workers i) b.history),
      subst (λ (x : ℕ × List Event). Grew x.0 x.1 grew b.history) (λ i. ((own ∙ sym v.2) i, sym v.3 i)) effect.grows,
    )

-- a whole call, by what the book did
pub calling : (z : Site) (s : Sitting) (w : ℕ) (p q r : Place) (a b : Kept) (events : ℕ → List Event) (grew : Bool) (P : Schedule → ℕ → List Event → List Event → Type 0) → s.site ≡ z → sitting_of p ≡ s → w ≡ number_of p.me.0.parts
    → IsSingle p.me.0 → IsSeated p q → IsSeated q r → HoldsTurn p q a.history → a ≡ kept p.me.0.schedule p.me.0.workers a.history → r.me ≡ (posed Idle b.history q.me.0, []) → Effect w a b (events w) grew
    → IsLegal b.schedule b.workers b.history → told_of p.me.0.parts ≤ reached a.schedule a.history → P a.schedule w a.history (events w) → HasCalled s (sitting_of r) (λ h added. P s.site.schedule s.worker h added)
calling z s w p q r a b events grew P at is own one pq qr turn it back effect legal told fact =
    let who : w ≡ s.worker = own ∙ ap (λ (x : Sitting). x.worker) is in
    let here : (sitting_of p).site ≡ s.site = ap (λ (x : Sitting). x.site) is in
    let schedule : a.schedule ≡ s.site.schedule = ap (λ (x : Kept). x.schedule) it ∙ ap (λ (x : Site). x.schedule) here in
    let workers : a.workers ≡ s.site.workers = ap (λ (x : Kept). x.workers) it ∙ ap (λ (x : Site). x.workers) here in
    let legal' : IsLegal s.site.schedule s.site.workers b.history = subst (λ (x : Schedule × ℕ). IsLegal x.0 x.1 b.history) (λ i. ((effect.schedule ∙ schedule) i, (effect.workers ∙ workers) i)) legal in
    let time : s.told ≤ℤ completion s.site.schedule a.history = subst (λ (x : ℤ × Schedule). x.0 ≤ℤ completion x.1 a.history) (λ i. ((ap (λ (x : Sitting). x.told) is) i, schedule i)) (reached-told a.schedule a.history (told_of p.me.0.parts) told) in
    called s p q r a b (events w) grew (λ h added. P s.site.schedule s.worker h added) is one pq qr turn back
    (subst (λ (x : ℕ). Effect x a b (events w) grew) who effect)
    legal'
    time
    (subst (λ (x : Schedule × ℕ). P x.0 x.1 a.history (events w)) (λ i. (schedule i, who i)) fact)

pub same_table : (p : Place) (s : Sitting) (z t : Site) → sitting_of p ≡ s → s.site ≡ z → t ≡ z → p.table_id ≡ t.table_id
same_table p s z t is at here = ap (λ (x : Sitting). x.site.table_id) is ∙ (ap (λ (x : Site). x.table_id) at ∙ sym (ap (λ (x : Site). x.table_id) here))

-- the worker's number, by the seat
pub worker_is : (s : Sitting) (p : Place) (w : ℕ) → sitting_of p ≡ s → w ≡ number_of p.me.0.parts → w ≡ s.worker
worker_is s p w is own = own ∙ ap (λ (x : Sitting). x.worker) is

-- what a Go gave is in the worker's hand
pub claim_held : (s : Sitting) (p q r : Place) (a b : Kept) (w at : ℕ) (c : Claim) → sitting_of p ≡ s → w ≡ number_of p.me.0.parts → IsSingle p.me.0 → IsSeated p q → IsSeated q r → HoldsTurn p q a.history
    → r.me ≡ (posed Idle b.history q.me.0, []) → IsClaim a.schedule a.history w at c → IfGo c (λ ticket. IsInHand b.history ticket) → IfGo c (λ ticket. (ticket.worker ≡ s.worker) × IsInHand (sitting_of r).seen ticket)
claim_held s p q r a b w at c is own one pq qr turn back answer held = by_case c answer held
  where
    seen : (sitting_of r).seen ≡ b.history
    seen = ap (λ (x : Sitting). x.seen) (sitting_after p q r a.history b.history one pq qr turn back).0

    by_case : (c : Claim) → IsClaim a.schedule a.history w at c → IfGo c (λ ticket. IsInHand b.history ticket) → IfGo c (λ ticket. (ticket.worker ≡ s.worker) × IsInHand (sitting_of r).seen ticket)
    by_case Halted answer held = tt
    by_case AllStarted answer held = tt
    by_case (Busy op holder) answer held = tt
    by_case (NotDue until) answer held = tt
    by_case (Go ticket) answer held = (answer.2 ∙ worker_is s p w is own, subst (λ (l : List Event). IsInHand l ticket) (sym seen) held)
    by_case (Blocked op needs time) answer held = tt

-- and the worker hasn't halted
pub claim_acts : HandIsOwn → (p q r : Place) (a b : Kept) (w at : ℕ) (c : Claim) → w ≡ number_of p.me.0.parts → IsSingle p.me.0 → IsSeated p q → IsSeated q r → HoldsTurn p q a.history → r.me ≡ (posed Idle b.history q.me.0, [])
    → IsClaim a.schedule a.history w at c → IfGo c (λ ticket. MayAct b.workers b.history ticket.worker) → IfGo c (λ ticket. halted (mine (sitting_of r)) ticket.worker ≡ false)
claim_acts hand_own p q r a b w at c own one pq qr turn back answer acts = by_case c answer acts
  where
    seen : (sitting_of r).seen ≡ b.history
    seen = ap (λ (x : Sitting). x.seen) (sitting_after p q r a.history b.history one pq qr turn back).0

    number : number_of r.me.0.parts ≡ w
    number = (sitting_after p q r a.history b.history one pq qr turn back).2 ∙ sym own

    by_case : (c : Claim) → IsClaim a.schedule a.history w at c → IfGo c (λ ticket. MayAct b.workers b.history ticket.worker) → IfGo c (λ ticket. halted (mine (sitting_of r)) ticket.worker ≡ false)
    by_case Halted answer acts = tt
    by_case AllStarted answer acts = tt
    by_case (Busy op holder) answer acts = tt
    by_case (NotDue until) answer acts = tt
    by_case (Go ticket) answer acts =
        let same : number_of r.me.0.parts ≡ ticket.worker = number ∙ sym answer.2 in
        (λ i. halted (events_of (same i) (seen i)) ticket.worker) ∙ ((hand_own b.history ticket.worker).1 ∙ acts.running)
    by_case (Blocked op needs time) answer acts = tt

-- what the seat's worker has in hand is so at the history that is found
pub found_in_hand : HandIsOwn → (s : Sitting) (p q : Place) (h : List Event) (t : Ticket) → sitting_of p ≡ s → HoldsTurn p q h → t.worker ≡ s.worker → IsInHand s.seen t → IsInHand h t
found_in_hand hand_own s p q h t is turn who held =
    let begins : IsPrefix s.seen h = subst (λ (x : Sitting). IsPrefix x.seen h) is turn.1 in
    let same : events_of s.worker h ≡ events_of s.worker s.seen = subst (λ (x : Sitting). events_of x.worker h ≡ events_of x.worker x.seen) is turn.2 in
    in_hand_later hand_own s.seen h t begins (subst (λ (w : ℕ). events_of w h ≡ events_of w s.seen) (sym who) same) held

pub found_may : HandIsOwn → (s : Sitting) (p q : Place) (a : Kept) (w : ℕ) → sitting_of p ≡ s → HoldsTurn p q a.history → a ≡ kept p.me.0.schedule p.me.0.workers a.history → number_of p.me.0.parts < p.me.0.workers → w ≡ s.worker
    → halted (mine s) w ≡ false → MayAct a.workers a.history w
found_may hand_own s p q a w is turn it low who runs =
    let same : events_of s.worker a.history ≡ events_of s.worker s.seen = subst (λ (x : Sitting). events_of x.worker a.history ≡ events_of x.worker x.seen) is turn.2 in
    let number : number_of p.me.0.parts ≡ w = ap (λ (x : Sitting). x.worker) is ∙ sym who in
    let workers : p.me.0.workers ≡ a.workers = sym (ap (λ (x : Kept). x.workers) it) in
    record {
      known = subst (λ (x : ℕ × ℕ). x.0 < x.1) (λ i. (number i, workers i)) low;
      running = running_later hand_own s.seen a.history w (subst (λ (n : ℕ). events_of n a.history ≡ events_of n s.seen) (sym who) same) (subst (λ (n : ℕ). halted (events_of n s.seen) w ≡ false) (sym who) runs);
    }

pub found_front : StartStays → (z : Site) (s : Sitting) (p q : Place) (a : Kept) (t : Ticket) (front : ℕ) → s.site ≡ z → sitting_of p ≡ s → HoldsTurn p q a.history → a ≡ kept p.me.0.schedule p.me.0.workers a.history → IsInHand s.seen t
    → IsFront z.schedule s.seen t.op front → IsFront a.schedule a.history t.op front
found_front stays z s p q a t front at is turn it held f =
    let begins : IsPrefix s.seen a.history = subst (λ (x : Sitting). IsPrefix x.seen a.history) is turn.1 in
    let schedule : z.schedule ≡ a.schedule = sym (ap (λ (x : Site). x.schedule) at) ∙ (sym (ap (λ (x : Sitting). x.site.schedule) is) ∙ sym (ap (λ (x : Kept). x.schedule) it)) in
    subst (λ (x : Schedule). IsFront x a.history t.op front) schedule (front_later stays z.schedule s.seen a.history t front begins held f)

pub finish_effect : (w at front : ℕ) (t : Ticket) (a b : Kept) → t.worker ≡ w → b ≡ record a { history = a.history ++ Finish t.op t.worker at front ∷ [] } → Effect w a b (Finish t.op w at front ∷ []) true
finish_effect w at front t a b who is = one_effect w a b (Finish t.op w at front) refl (subst (λ (n : ℕ). b ≡ record a { history = a.history ++ Finish t.op n at front ∷ [] }) who is)
