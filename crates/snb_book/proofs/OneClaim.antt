-- A claim has one answer.
use Rattle.std.proofs.Common.{◌≡◌, ℕ, ◌≤◌, List, true, false, inl, inr, refl, sym, ap, ◌∙◌, subst, arith, Some, Option, None}
use Rattle.std.specs.Prelude.{slice_get}
use Rattle.std.proofs.lemmas.Bool.{cases_order}
use Rattle.snb_history.specs.declared.event.Event.{Event}
use Rattle.snb_history.specs.declared.step.LaneKind.{LaneKind}
use Rattle.snb_history.specs.declared.step.LaneKind.TheVariants.{Person, Forum, Query}
use Rattle.snb_history.specs.Schedule.{Schedule, step_of, IsBefore, IsInForum}
use Rattle.snb_history.specs.History.{started, finished, holder}
use Rattle.snb_history.specs.Rules.{IsLegal, LaneIsFinished}
use Rattle.snb_book.specs.declared.claim.Ticket.{Ticket}
use Rattle.snb_book.specs.declared.claim.Claim.{Claim}
use Rattle.snb_book.specs.declared.claim.Claim.TheVariants.{Halted, AllStarted, Busy, NotDue, Go, Blocked}
use Rattle.snb_book.specs.Claims.{IsPlanHead, IsDueHead, ComesFirst, IsFirst, IsOwnBusy, IsLaneBusy, IsClaim}
use Rattle.snb_book.specs.ClaimLaws.{ClaimIsOne}
use Rattle.snb_history.proofs.Laws.{forum_goes_in_turn}

-- of two that each come first both are due at once, in one lane
first_lanes : (s : Schedule) (a b : ℕ) → ComesFirst s a b → ComesFirst s b a → (step_of s a).lane ≡ (step_of s b).lane
first_lanes s a b (inl p) (inl q) = absurd (omega arith)
first_lanes s a b (inl p) (inr q) = absurd (let e = q.0 in omega arith)
first_lanes s a b (inr p) (inl q) = absurd (let e = p.0 in omega arith)
first_lanes s a b (inr p) (inr q) = (let x = p.1 in let y = q.1 in omega arith)

-- two heads in one lane are one
one_head : (s : Schedule) (h : List Event) (a b : ℕ) → IsPlanHead s h a → IsPlanHead s h b → (step_of s a).lane ≡ (step_of s b).lane → a ≡ b
one_head s h a b first second lane =
    elim (cases_order a b) [
      | inl same ↦ same
      | inr apart ↦ elim apart [
        | inl lower ↦ absurd (let x = second.1.led a (lower, lane) in let y = first.1.fresh in cc)
        | inr higher ↦ absurd (let x = first.1.led b (higher, sym lane) in let y = second.1.fresh in cc)
      ]
    ]

-- the first of some heads is one
one_first : (s : Schedule) (h : List Event) (P : ℕ → Type 0) → ((j : ℕ) → P j → IsPlanHead s h j) → (a b : ℕ) → IsFirst s P a → IsFirst s P b → a ≡ b
one_first s h P heads a b x y = one_head s h a b (heads a x.0) (heads b y.0) (first_lanes s a b (x.1 b y.0) (y.1 a x.0))

due_is_head : (s : Schedule) (h : List Event) (at j : ℕ) → IsDueHead s h at j → IsPlanHead s h j
due_is_head s h at j due = (due.0, due.1)

-- what is held before the head of a forum lane is one operation
one_held : (s : Schedule) (workers : ℕ) (h : List Event) (op i j : ℕ) → IsLegal s workers h → IsPlanHead s h op → IsInForum s op
    → IsBefore s i op → finished h i ≡ false → IsBefore s j op → finished h j ≡ false → i ≡ j
one_held s workers h op i j legal head forum i_before i_open j_before j_open =
    elim (cases_order i j) [
      | inl same ↦ same
      | inr apart ↦ elim apart [
        | inl lower ↦ absurd (
            let f = forum_goes_in_turn s workers h legal i j (in_forum j j_before) (lower, i_before.1 ∙ sym j_before.1) (head.1.led j j_before) in cc)
        | inr higher ↦ absurd (
            let f = forum_goes_in_turn s workers h legal j i (in_forum i i_before) (higher, j_before.1 ∙ sym i_before.1) (head.1.led i i_before) in cc)
      ]
    ]
  where
    in_forum : (k : ℕ) → IsBefore s k op → IsInForum s k
    in_forum k before = subst (λ (l : ℕ). slice_get s.kinds l ≡ Some Forum) (sym before.1) forum

-- an operation that is busy stands in a forum lane
busy_in_forum : (s : Schedule) (h : List Event) (op : ℕ) → ¬ LaneIsFinished s h op → (o : Option LaneKind) → slice_get s.kinds (step_of s op).lane ≡ o → IsInForum s op
busy_in_forum s h op busy (Some Forum) q = q
busy_in_forum s h op busy (Some Person) q = absurd (busy (λ forum. absurd cc))
busy_in_forum s h op busy (Some Query) q = absurd (busy (λ forum. absurd cc))
busy_in_forum s h op busy None q = absurd (busy (λ forum. absurd cc))

-- the first of the due heads, where all are busy, and its holder are one
one_lane : (s : Schedule) (workers : ℕ) (h : List Event) (worker at op by_whom op' by_whom' : ℕ) → IsLegal s workers h
    → IsLaneBusy s h worker at op by_whom → IsLaneBusy s h worker at op' by_whom' → (op ≡ op') × (by_whom ≡ by_whom')
one_lane s workers h worker at op by_whom op' by_whom' legal a b = (same, whom)
  where
    same : op ≡ op'
    same = one_first s h (IsDueHead s h at) (due_is_head s h at) op op' a.first b.first

    moved : IsBefore s b.held.0 op
    moved = subst (λ (i : ℕ). IsBefore s b.held.0 i) (sym same) b.held.1

    held : a.held.0 ≡ b.held.0
    held =
        one_held s workers h op a.held.0 b.held.0 legal (due_is_head s h at op a.first.0)
        (busy_in_forum s h op (a.all_busy op a.first.0) (slice_get s.kinds (step_of s op).lane) refl)
        a.held.1 a.held.2 moved b.held.2

    whom : by_whom ≡ by_whom'
    whom =
        let x : holder h a.held.0 ≡ Some by_whom = a.held.3 in
        let y : holder h b.held.0 ≡ Some by_whom' = b.held.3 in
        let e = held in
        cc

make_ticket : ℕ → ℕ → ℕ → Ticket
make_ticket op worker start = record { op = op; worker = worker; start = start }

same_ticket : (a b : Ticket) → a.op ≡ b.op → a.worker ≡ b.worker → a.start ≡ b.start → a ≡ b
unfolding make_ticket
same_ticket a b p q r =
    let e : make_ticket a.op a.worker a.start ≡ make_ticket b.op b.worker b.start = cc in e

-- nobody has halted, unless the answer says so
not_halted : (s : Schedule) (h : List Event) (worker at : ℕ) (c : Claim) → IsClaim s h worker at c → IsClaim s h worker at Halted → Halted ≡ c
not_halted s h worker at Halted is halts = refl
not_halted s h worker at AllStarted is halts = absurd (let a = is.0 halts.0 in let b = halts.1 in cc)
not_halted s h worker at (Busy op by_whom) (inl own) halts = absurd (let a = own.running halts.0 in let b = halts.1 in cc)
not_halted s h worker at (Busy op by_whom) (inr lane) halts = absurd (let a = lane.under_way.running halts.0 in let b = halts.1 in cc)
not_halted s h worker at (NotDue until) is halts = absurd (let a = is.0.running halts.0 in let b = halts.1 in cc)
not_halted s h worker at (Go ticket) is halts = absurd (let a = is.0.running halts.0 in let b = halts.1 in cc)
not_halted s h worker at (Blocked op needs time) is halts = absurd (let a = is.0.running halts.0 in let b = halts.1 in cc)

-- something is left to start, unless the answer says so
not_all : (s : Schedule) (h : List Event) (worker at : ℕ) (c : Claim) → IsClaim s h worker at c → IsClaim s h worker at AllStarted → AllStarted ≡ c
not_all s h worker at Halted is all = absurd (let a = all.0 is.0 in let b = is.1 in cc)
not_all s h worker at AllStarted is all = refl
not_all s h worker at (Busy op by_whom) (inl own) all = absurd (let l = own.left in let a : started h l.0 ≡ true = all.1 l.0 l.1 in let b = l.2 in cc)
not_all s h worker at (Busy op by_whom) (inr lane) all = absurd (let l = lane.under_way.left in let a : started h l.0 ≡ true = all.1 l.0 l.1 in let b = l.2 in cc)
not_all s h worker at (NotDue until) is all = absurd (let l = is.0.left in let a : started h l.0 ≡ true = all.1 l.0 l.1 in let b = l.2 in cc)
not_all s h worker at (Go ticket) is all = absurd (let l = is.0.left in let a : started h l.0 ≡ true = all.1 l.0 l.1 in let b = l.2 in cc)
not_all s h worker at (Blocked op needs time) is all = absurd (let l = is.0.left in let a : started h l.0 ≡ true = all.1 l.0 l.1 in let b = l.2 in cc)

-- the worker has something in hand, and the answer says so
own_busy : (s : Schedule) (h : List Event) (worker at op by_whom : ℕ) (c : Claim) → IsClaim s h worker at c → IsOwnBusy s h worker op by_whom → Busy op by_whom ≡ c
own_busy s h worker at op by_whom Halted is own = sym (not_halted s h worker at (Busy op by_whom) (inl own) is)
own_busy s h worker at op by_whom AllStarted is own = sym (not_all s h worker at (Busy op by_whom) (inl own) is)
own_busy s h worker at op by_whom (Busy op' by_whom') (inl other) own =
    let a = own.held in let b = other.held in let x = own.own in let y = other.own in
    let e : op ≡ op' = cc in let f : by_whom ≡ by_whom' = x ∙ sym y in cc
own_busy s h worker at op by_whom (Busy op' by_whom') (inr lane) own = absurd (let a = own.held in let b = lane.under_way.free in cc)
own_busy s h worker at op by_whom (NotDue until) is own = absurd (let a = own.held in let b = is.0.free in cc)
own_busy s h worker at op by_whom (Go ticket) is own = absurd (let a = own.held in let b = is.0.free in cc)
own_busy s h worker at op by_whom (Blocked o needs time) is own = absurd (let a = own.held in let b = is.0.free in cc)

-- a head that is due isn't one of those that are due later
not_due_later : (s : Schedule) (h : List Event) (worker at until op : ℕ) → IsClaim s h worker at (NotDue until) → IsDueHead s h at op → ⊥
not_due_later s h worker at until op is head = let a = is.1 op (head.0, head.1) in let b = head.2 in omega arith

one_until : (s : Schedule) (h : List Event) (worker at until until' : ℕ) → IsClaim s h worker at (NotDue until) → IsClaim s h worker at (NotDue until') → until ≡ until'
one_until s h worker at until until' a b =
    let x : until ≤ (step_of s b.2.0).due = a.2.3 b.2.0 b.2.1 in
    let y : until' ≤ (step_of s a.2.0).due = b.2.3 a.2.0 a.2.1 in
    let u : until ≡ (step_of s a.2.0).due = a.2.2 in
    let v : until' ≡ (step_of s b.2.0).due = b.2.2 in
    omega arith

pub claim_is_one : ClaimIsOne
claim_is_one s workers h worker at Halted other legal a b = not_halted s h worker at other b a
claim_is_one s workers h worker at AllStarted other legal a b = not_all s h worker at other b a
claim_is_one s workers h worker at (Busy op by_whom) other legal (inl own) b = own_busy s h worker at op by_whom other b own
claim_is_one s workers h worker at (Busy op by_whom) Halted legal (inr lane) b = sym (not_halted s h worker at (Busy op by_whom) (inr lane) b)
claim_is_one s workers h worker at (Busy op by_whom) AllStarted legal (inr lane) b = sym (not_all s h worker at (Busy op by_whom) (inr lane) b)
claim_is_one s workers h worker at (Busy op by_whom) (Busy op' by_whom') legal (inr lane) (inl own) = sym (own_busy s h worker at op' by_whom' (Busy op by_whom) (inr lane) own)
claim_is_one s workers h worker at (Busy op by_whom) (Busy op' by_whom') legal (inr lane) (inr other) =
    let p = one_lane s workers h worker at op by_whom op' by_whom' legal lane other in let e = p.0 in let f = p.1 in cc
claim_is_one s workers h worker at (Busy op by_whom) (NotDue until) legal (inr lane) b = absurd (not_due_later s h worker at until op b lane.first.0)
claim_is_one s workers h worker at (Busy op by_whom) (Go ticket) legal (inr lane) b = absurd (lane.all_busy ticket.op b.1.0.0 b.1.0.1.0)
claim_is_one s workers h worker at (Busy op by_whom) (Blocked o needs time) legal (inr lane) b = absurd (lane.all_busy o b.2.0.0 b.2.0.1)
claim_is_one s workers h worker at (NotDue until) Halted legal a b = sym (not_halted s h worker at (NotDue until) a b)
claim_is_one s workers h worker at (NotDue until) AllStarted legal a b = sym (not_all s h worker at (NotDue until) a b)
claim_is_one s workers h worker at (NotDue until) (Busy op by_whom) legal a (inl own) = sym (own_busy s h worker at op by_whom (NotDue until) a own)
claim_is_one s workers h worker at (NotDue until) (Busy op by_whom) legal a (inr lane) = absurd (not_due_later s h worker at until op a lane.first.0)
claim_is_one s workers h worker at (NotDue until) (NotDue until') legal a b = ap NotDue (one_until s h worker at until until' a b)
claim_is_one s workers h worker at (NotDue until) (Go ticket) legal a b = absurd (not_due_later s h worker at until ticket.op a b.1.0.0)
claim_is_one s workers h worker at (NotDue until) (Blocked o needs time) legal a b = absurd (not_due_later s h worker at until o a b.2.0.0)
claim_is_one s workers h worker at (Go ticket) Halted legal a b = sym (not_halted s h worker at (Go ticket) a b)
claim_is_one s workers h worker at (Go ticket) AllStarted legal a b = sym (not_all s h worker at (Go ticket) a b)
claim_is_one s workers h worker at (Go ticket) (Busy op by_whom) legal a (inl own) = sym (own_busy s h worker at op by_whom (Go ticket) a own)
claim_is_one s workers h worker at (Go ticket) (Busy op by_whom) legal a (inr lane) = absurd (lane.all_busy ticket.op a.1.0.0 a.1.0.1.0)
claim_is_one s workers h worker at (Go ticket) (NotDue until) legal a b = absurd (not_due_later s h worker at until ticket.op b a.1.0.0)
claim_is_one s workers h worker at (Go ticket) (Go other) legal a b =
    ap Go (same_ticket ticket other (one_first s h _ (λ j p. due_is_head s h at j p.0) ticket.op other.op a.1 b.1) (a.2 ∙ sym b.2) (a.3 ∙ sym b.3))
claim_is_one s workers h worker at (Go ticket) (Blocked o needs time) legal a b = absurd (b.1 ticket.op a.1.0.0 a.1.0.1)
claim_is_one s workers h worker at (Blocked op needs time) Halted legal a b = sym (not_halted s h worker at (Blocked op needs time) a b)
claim_is_one s workers h worker at (Blocked op needs time) AllStarted legal a b = sym (not_all s h worker at (Blocked op needs time) a b)
claim_is_one s workers h worker at (Blocked op needs time) (Busy o by_whom) legal a (inl own) = sym (own_busy s h worker at o by_whom (Blocked op needs time) a own)
claim_is_one s workers h worker at (Blocked op needs time) (Busy o by_whom) legal a (inr lane) = absurd (lane.all_busy op a.2.0.0 a.2.0.1)
claim_is_one s workers h worker at (Blocked op needs time) (NotDue until) legal a b = absurd (not_due_later s h worker at until op b a.2.0.0)
claim_is_one s workers h worker at (Blocked op needs time) (Go ticket) legal a b = absurd (a.1 ticket.op b.1.0.0 b.1.0.1)
claim_is_one s workers h worker at (Blocked op needs time) (Blocked op' needs' time') legal a b =
    let e : op ≡ op' = one_first s h _ (λ j p. due_is_head s h at j p.0) op op' a.2 b.2 in
    let f : needs ≡ needs' = a.3 ∙ ap (λ i. (step_of s i).t_d) e ∙ sym b.3 in
    let g : time ≡ time' = a.4 ∙ sym b.4 in
    cc
