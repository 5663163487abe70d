-- What a claim's answer implies.
use Rattle.std.proofs.Common.{◌≡◌, ℕ, ◌<◌, ◌≤◌, List, [], ◌∷◌, ◌++◌, length, length-append, get_or, true, false, ◌⊎◌, inl, inr, refl, sym, ap, ◌∙◌, arith, Some}
use Rattle.std.proofs.lemmas.Bool.{eq-eqb}
use Rattle.std.proofs.lemmas.Option.{slice_get-get_or}
use Rattle.std.proofs.Math.Seq.{get_or-append_seam}
use Rattle.snb_history.specs.declared.event.Event.{Event}
use Rattle.snb_history.specs.declared.event.Event.TheVariants.{Start}
use Rattle.snb_history.specs.Schedule.{Schedule, step_of, IsOperation, IsPlanned}
use Rattle.snb_book.specs.Kept.{IsInHand}
use Rattle.snb_history.specs.History.{started, last}
use Rattle.snb_history.specs.Rules.{Rule, V1, V2, V3, V4, V5, V6, V7, V8, V9, Obeys, Fits, IsLegal, MayAct}
use Rattle.snb_book.specs.declared.claim.Ticket.{Ticket}
use Rattle.snb_book.specs.declared.claim.Claim.{Claim}
use Rattle.snb_book.specs.declared.claim.Claim.TheVariants.{Halted, AllStarted, Busy, NotDue, Go, Blocked}
use Rattle.snb_book.specs.Claims.{IsDueHead, IsAdmitted, IsClaim, IsIdle, MovesOn, NeedsEarlier}
use Rattle.snb_book.specs.ClaimLaws.{ClaimFits, ClaimIsBlocked, ClaimIsNotStuck}
use Rattle.snb_history.proofs.Laws.{halted-push, hand-push, never_stuck, planned_is_timely}

pub claim_fits : ClaimFits
claim_fits s workers h worker at ticket known later claim = record { obeys = by_rule }
  where
    due : IsDueHead s h at ticket.op
    due = claim.1.0.0

    admitted : IsAdmitted s h ticket.op
    admitted = claim.1.0.1

    by_rule : (r : Rule) → Obeys s workers h (Start ticket.op worker at) r
    by_rule V1 = (due.0, record { known = known; running = claim.0.running worker })
    by_rule V2 = due.1
    by_rule V3 = admitted.0
    by_rule V4 = due.2
    by_rule V5 = admitted.1
    by_rule V6 = claim.0.free
    by_rule V7 = tt
    by_rule V8 = tt
    by_rule V9 = later

pub claim_is_blocked : ClaimIsBlocked
claim_is_blocked s h worker at op needs time claim = claim.5

-- where nobody has an operation in hand, nobody has halted and not all is started, a claim answers Go, or NotDue where no head is due
pub claim_is_not_stuck : ClaimIsNotStuck
claim_is_not_stuck s workers h worker at claim timely legal known later idle running k within fresh = by_claim claim
  where
    op : ℕ
    op = (never_stuck s workers h timely legal idle running k within fresh).0

    earliest : (j : ℕ) → IsOperation s j → started h j ≡ false → (step_of s op).due ≤ (step_of s j).due
    earliest = (never_stuck s workers h timely legal idle running k within fresh).3

    fits : (w m : ℕ) → w < workers → (step_of s op).due ≤ m → last h ≤ m → Fits s workers h (Start op w m)
    fits = (never_stuck s workers h timely legal idle running k within fresh).4

    -- where a head is due, one is due that is admitted
    ready : (j : ℕ) → IsDueHead s h at j → IsDueHead s h at op × IsAdmitted s h op
    ready j head =
        let due : (step_of s op).due ≤ at = (let e = earliest j head.0 head.1.fresh in let d = head.2 in omega arith) in
        let f : Fits s workers h (Start op worker at) = fits worker at known due later in
        (((f.obeys V1).0, f.obeys V2, due), (f.obeys V3, f.obeys V5))

    by_claim : (c : Claim) → IsClaim s h worker at c → ((ticket : Ticket) × (c ≡ Go ticket)) ⊎ ((until : ℕ) × (c ≡ NotDue until) × ((j : ℕ) → ¬ IsDueHead s h at j))
    by_claim Halted is = absurd (let a = running is.0 in let b = is.1 in cc)
    by_claim AllStarted is = absurd (let a : started h k ≡ true = is.1 k within in cc)
    by_claim (Busy o by_whom) (inl own) = absurd (let a = idle worker in let b = own.held in cc)
    by_claim (Busy o by_whom) (inr lane) = absurd (let r = ready o lane.first.0 in lane.all_busy op r.0 r.1.0)
    by_claim (NotDue until) is = inr (until, refl, λ j head. let a = is.1 j (head.0, head.1) in let d = head.2 in omega arith)
    by_claim (Go ticket) is = inl (ticket, refl)
    by_claim (Blocked o needs time) is = absurd (let r = ready o is.2.0.0 in is.1 op r.0 r.1)

-- where each dependent needs only what lies before it, a book in which nobody has anything in hand moves on
pub moves_on : (s : Schedule) (workers : ℕ) (h : List Event) (worker at : ℕ) (claim : Claim) → IsPlanned s → IsLegal s workers h → worker < workers → last h ≤ at
    → IsClaim s h worker at claim → NeedsEarlier s → IsIdle s h → MovesOn s h at claim
moves_on s workers h worker at claim planned legal known later is earlier idle =
    elim (claim_is_not_stuck s workers h worker at claim (planned_is_timely s planned earlier) legal known later idle.empty idle.running idle.left.0 idle.left.1 idle.left.2 is) [
      | inl go ↦ record { moves = inl go; starts = λ j due. go }
      | inr rests ↦ record { moves = inr (rests.0, rests.1); starts = λ j due. absurd (rests.2 j due) }
    ]

-- who is given an operation may act once its Start is there
pub go_acts : (workers : ℕ) (h : List Event) (worker at : ℕ) (s : Schedule) (ticket : Ticket) → worker < workers → IsClaim s h worker at (Go ticket)
    → MayAct workers (h ++ Start ticket.op worker at ∷ []) ticket.worker
go_acts workers h worker at s ticket known claim = record {
  known = (let mine : ticket.worker ≡ worker = claim.2 in omega arith);
  running = halted-push h (Start ticket.op worker at) ticket.worker ∙ claim.0.running ticket.worker;
}

-- what a Go gives is in hand once its Start is there
pub go_in_hand : (s : Schedule) (h : List Event) (worker at : ℕ) (ticket : Ticket) → IsClaim s h worker at (Go ticket)
    → IsInHand (h ++ Start ticket.op worker at ∷ []) ticket
go_in_hand s h worker at ticket claim =
    let e : Event = Start ticket.op worker at in
    let mine : ticket.worker ≡ worker = claim.2 in
    let number : ticket.start ≡ length h = claim.3 in
    record {
      held = (let p = hand-push h e ticket.worker in let q = eq-eqb worker ticket.worker (sym mine) in grind arith);
      since = (
        at,
        slice_get-get_or (h ++ e ∷ []) ticket.start e (let size = length-append h (e ∷ []) in omega arith)
            ∙ ap Some (ap (λ i. get_or (h ++ e ∷ []) i e) number ∙ get_or-append_seam h e [] e ∙ ap (λ w. Start ticket.op w at) (sym mine)),
      );
    }
