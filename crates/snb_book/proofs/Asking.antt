-- What the book's fields answer when it is asked.
use Rattle.std.proofs.Common.{◌≡◌, ℕ, ◌<◌, ◌≤◌, List, length, get_or, Bool, true, false, not, inl, inr, refl, sym, ap, ◌∙◌, subst, arith, Option, Some, None}
use Rattle.std.specs.Prelude.{◌==◌, ◌&&◌, nat_lt, ◌↔◌, slice_get, slice_index, MatchOption}
use Rattle.std.proofs.lemmas.Bool.{cases_lt, cases_eq, eq-eqb, ne_eqb}
use Rattle.std.proofs.lemmas.Bool.Decides.{nat_tests}
use Rattle.std.proofs.lemmas.List.{get_or_default}
use Rattle.snb_history.specs.declared.event.Event.{Event}
use Rattle.snb_history.specs.declared.event.Event.TheVariants.{Start}
use Rattle.snb_history.specs.declared.step.Step.{Step}
use Rattle.snb_history.specs.declared.step.LaneKind.TheVariants.{Forum}
use Rattle.snb_history.specs.Schedule.{Schedule, step_of, IsOperation, IsPlanned}
use Rattle.snb_history.specs.History.{started, finished, hand, holder}
use Rattle.snb_history.specs.Completion.{first_op, is_awaited, least_t}
use Rattle.snb_history.specs.Rules.{V1, IsCleared, LeadsLane, IsLegal}
use Rattle.snb_completion.specs.Progress.{Progress, flag}
use Rattle.snb_book.specs.Kept.{Kept}
use Rattle.snb_book.specs.Book.{IsSoundBook, IsTold, IsNext}
use Rattle.snb_book.specs.Claims.{IsPlanHead}
use Rattle.snb_book.specs.Heads.{IsAtPlace, IsPassed, IsPredecessor, AreSet, HasNobody, IsFirstUnset, IsWith}
use Rattle.snb_book.specs.Asked.{AllFinished, IsFirstUnfinished, IsFirstUnstarted, IsWaitedFor}
use Rattle.snb_book.proofs.Heads.{Begins, head_from_next, next_from_head}
use Rattle.snb_book.proofs.Places.{same_place}
use Rattle.snb_book.proofs.Answering.{cleared_within, within_cleared}
use Rattle.snb_history.proofs.Laws.{forum_goes_in_turn, hand_has_start, holder_holds, least_of-le, le-least_of}

-- the first operation that passes a test
first_op_is : (s : Schedule) (p : ℕ → Bool) (k : ℕ) → IsOperation s k → p k ≡ true → ((j : ℕ) → j < k → p j ≡ false) → k ≡ first_op s p
first_op_is s p k within hit before =
    let below : first_op s p ≤ k = least_of-le (λ i. i) (length s.steps) p (length s.steps) k within hit in
    let above : k ≤ first_op s p = le-least_of (λ i. i) (length s.steps) p (length s.steps) k (omega arith) (λ j lt passes. later j passes) in
    omega arith
  where
    later : (j : ℕ) → p j ≡ true → k ≤ j
    later j passes = elim (cases_lt j k) [ inl less ↦ absurd (let f = before j less in cc) | inr more ↦ more ]

-- a lane's operation that isn't done passes, and what is done wherever it stands in the lane doesn't
lane_hit : (lane one : ℕ) (done : Bool) → lane ≡ one → done ≡ false → ((lane == one) && not done) ≡ true
lane_hit lane one done same left = rw (eq-eqb lane one same, left) refl

lane_miss : (lane one : ℕ) (done : Bool) → (lane ≡ one → done ≡ true) → ((lane == one) && not done) ≡ false
lane_miss lane one done covers =
    elim (cases_eq lane one) [
      | inl same ↦ rw (eq-eqb lane one same, covers same) refl
      | inr other ↦ rw (ne_eqb lane one other) refl
    ]

-- what stands at the place that is kept for an unstarted operation's lane
pub first_unstarted_told : (s : Schedule) (h : List Event) (heads : List ℕ) → IsPlanned s → Begins s h heads → (op : ℕ) → IsOperation s op → started h op ≡ false
    → (found : Option ℕ)
    → MatchOption found (IsPassed s (step_of s op).lane (slice_index heads (step_of s op).lane)) (λ k. IsAtPlace s (step_of s op).lane (slice_index heads (step_of s op).lane) k)
    → MatchOption found (started h op ≡ true) (λ first. IsFirstUnstarted s h op first)
first_unstarted_told s h heads planned begins op within fresh None passed =
    let b = begins op within in
    let lt = passed.before op within refl in
    grind (arith, nat_tests)
first_unstarted_told s h heads planned begins op within fresh (Some k) at =
    let next : IsNext s heads k = (at.within, at.placed ∙ ap (λ l. slice_index heads l) (sym at.in_lane)) in
    let head : IsPlanHead s h k = head_from_next s h heads planned begins k next in
    record {
      fresh = fresh;
      value = first_op_is s (λ j. ((step_of s j).lane == (step_of s op).lane) && not (started h j)) k at.within
          (lane_hit (step_of s k).lane (step_of s op).lane (started h k) at.in_lane head.1.fresh)
          (λ j lt. lane_miss (step_of s j).lane (step_of s op).lane (started h j) (λ lane. head.1.led j (lt, lane ∙ sym at.in_lane)));
      head = (
        λ same. subst (λ (i : ℕ). LeadsLane s h i) same head.1,
        λ is. same_place s planned k op at.within within at.in_lane (at.placed ∙ sym (next_from_head s h heads planned begins op (within, is)).1),
      );
    }

-- the unfinished one before a head is the first unfinished of its forum lane
pub waited_told : (s : Schedule) (workers : ℕ) (h : List Event) → IsLegal s workers h → (op p : ℕ) → IsPlanHead s h op → IsPredecessor s op p → finished h p ≡ false
    → IsWaitedFor s h op p
waited_told s workers h legal op p head is left = record {
  busy = λ free. let over = free is.forum p is.before in cc;
  value = first_op_is s (λ j. ((step_of s j).lane == (step_of s op).lane) && not (finished h j)) p (let w = head.0 in let l = is.before.0 in omega arith)
      (lane_hit (step_of s p).lane (step_of s op).lane (finished h p) is.before.1 left)
      (λ j lt. lane_miss (step_of s j).lane (step_of s op).lane (finished h j) (λ lane.
      forum_goes_in_turn s workers h legal j p
      (subst (λ (l : ℕ). slice_get s.kinds l ≡ Some Forum) (sym is.before.1) is.forum)
      (lt, lane ∙ sym is.before.1) (head.1.led p is.before)));
}

-- who has something in hand is one of the workers
known_hand : (s : Schedule) (workers : ℕ) (h : List Event) → IsLegal s workers h → (w k : ℕ) → hand h w ≡ Some k → w < workers
known_hand s workers h legal w k held =
    let f = hand_has_start w k h held in ((legal.fits f.0 (Start k w f.2) f.1 f.3).obeys V1).1.known

-- who has an operation in hand holds it, and nobody does where no hand has it
pub holder_told : (b : Kept) (capacity : ℕ) (times : Progress) (heads : List ℕ) (held : List (Option ℕ)) (latest : ℕ) (stopped : Bool) (op : ℕ) (found : Option ℕ)
    → IsSoundBook b capacity → IsTold b times heads held latest stopped → MatchOption found (HasNobody held op) (λ w. IsWith held op w) → found ≡ holder b.history op
holder_told b capacity times heads held latest stopped op None kept told nobody = by_holder (holder b.history op) refl
  where
    by_holder : (o : Option ℕ) → holder b.history op ≡ o → None ≡ o
    by_holder None q = refl
    by_holder (Some w) q =
        let has : hand b.history w ≡ Some op = (holder_holds b.schedule b.workers b.history kept.legal op w).0 q in
        let known : w < b.workers = known_hand b.schedule b.workers b.history kept.legal w op has in
        absurd (nobody w (let e = told.a_hand_each in omega arith) (told.hands w known ∙ has))
holder_told b capacity times heads held latest stopped op (Some w) kept told is =
    let known : w < b.workers = (let e = told.a_hand_each in let l = is.0 in omega arith) in
    sym ((holder_holds b.schedule b.workers b.history kept.legal op w).1 (sym (told.hands w known) ∙ is.1))

-- the flags tell what isn't finished
pub unfinished_told : (b : Kept) (times : Progress) (heads : List ℕ) (held : List (Option ℕ)) (latest : ℕ) (stopped : Bool) (flags : List Bool) (found : Option ℕ)
    → IsTold b times heads held latest stopped → flags ≡ times.finished → MatchOption found (AreSet flags (length flags)) (λ k. IsFirstUnset flags k)
    → MatchOption found (AllFinished b.schedule b.history) (λ op. IsFirstUnfinished b.schedule b.history op)
unfinished_told b times heads held latest stopped flags None told same set =
    λ k within. sym (told.over k within) ∙ subst (λ (l : List Bool). flag l k ≡ true) same (set k (let e = told.a_finish_each in let l = ap length same in let w = within in omega arith))
unfinished_told b times heads held latest stopped flags (Some op) told same is =
    let within : IsOperation b.schedule op = (let e = told.a_finish_each in let l = ap length same in let lt = is.0 in omega arith) in
    record {
      within = within;
      left = sym (told.over op within) ∙ subst (λ (l : List Bool). flag l op ≡ false) same is.1;
      least = λ k lt.
          let earlier : IsOperation b.schedule k = (let w = within in omega arith) in
          sym (told.over k earlier) ∙ subst (λ (l : List Bool). flag l k ≡ true) same (is.2 k lt);
    }

-- the test of a dependent's t_d decides
pub cleared_told : (s : Schedule) (h : List Event) (op : ℕ) (step : Step) (least : ℕ) → IsPlanned s → IsOperation s op → step ≡ step_of s op → least ≡ least_t s (is_awaited s h)
    → not step.dependent ≡ false → (nat_lt step.t_d least ≡ true) ↔ IsCleared s h op
cleared_told s h op step least planned within same is dependent = (
  λ below. within_cleared s h planned op within (λ d. subst (λ (x : Step). x.t_d < least_t s (is_awaited s h)) same (subst (λ (l : ℕ). step.t_d < l) is (grind (arith, nat_tests)))),
  λ cleared.
      let d : (step_of s op).dependent ≡ true = subst (λ (x : Step). x.dependent ≡ true) same (grind arith) in
      let lt : step.t_d < least = subst (λ (l : ℕ). step.t_d < l) (sym is) (subst (λ (x : Step). x.t_d < least_t s (is_awaited s h)) (sym same) (cleared_within s h planned op within cleared d)) in
      grind (arith, nat_tests),
)

-- a flag before a head tells whether what the head comes after is finished
pub finished_before : (now inside : Kept) (times : Progress) (heads : List ℕ) (held : List (Option ℕ)) (latest : ℕ) (stopped : Bool) (flags : List Bool) (op p : ℕ) (over : Bool)
    → inside ≡ now → IsTold inside times heads held latest stopped → flags ≡ times.finished → IsOperation now.schedule op → IsPredecessor now.schedule op p
    → flag flags p ≡ over → finished now.history p ≡ over
finished_before now inside times heads held latest stopped flags op p over same told of_flags within is told_of =
    let here : p < length inside.schedule.steps = subst (λ (b : Kept). p < length b.schedule.steps) (sym same) (let w = within in let l = is.before.0 in omega arith) in
    subst (λ (b : Kept). finished b.history p ≡ over) same (sym (told.over p here) ∙ subst (λ (l : List Bool). flag l p ≡ over) of_flags told_of)

-- the same as first_unstarted_told, by what is read of the fields
pub first_unstarted_read : (now inside : Kept) (capacity : ℕ) (times : Progress) (heads : List ℕ) (held : List (Option ℕ)) (latest : ℕ) (stopped : Bool) (flags : List Bool)
    (s : Schedule) (op lane place : ℕ) (found : Option ℕ) → inside ≡ now → IsSoundBook inside capacity → IsTold inside times heads held latest stopped
    → flags ≡ times.started → s ≡ now.schedule → lane ≡ (step_of now.schedule op).lane → place ≡ get_or heads lane place → IsOperation now.schedule op → flag flags op ≡ false
    → MatchOption found (IsPassed s lane place) (λ k. IsAtPlace s lane place k)
    → MatchOption found (started now.history op ≡ true) (λ first. IsFirstUnstarted now.schedule now.history op first)
first_unstarted_read now inside capacity times heads held latest stopped flags s op lane place found same kept told of_flags of_plan of_lane of_place within unset is =
    subst (λ (b : Kept). MatchOption found (started b.history op ≡ true) (λ first. IsFirstUnstarted b.schedule b.history op first)) same
    (first_unstarted_told inside.schedule inside.history heads kept.planned told.begun op here
    (sym (told.flags op here) ∙ subst (λ (l : List Bool). flag l op ≡ false) of_flags unset) found
    (subst (λ (b : Kept). MatchOption found (IsPassed b.schedule (step_of b.schedule op).lane (slice_index heads (step_of b.schedule op).lane))
    (λ k. IsAtPlace b.schedule (step_of b.schedule op).lane (slice_index heads (step_of b.schedule op).lane) k)) (sym same)
    (subst (λ (x : Schedule). MatchOption found (IsPassed x (step_of now.schedule op).lane (slice_index heads (step_of now.schedule op).lane))
    (λ k. IsAtPlace x (step_of now.schedule op).lane (slice_index heads (step_of now.schedule op).lane) k)) of_plan
    (subst (λ (l : ℕ). MatchOption found (IsPassed s l (slice_index heads l)) (λ k. IsAtPlace s l (slice_index heads l) k)) of_lane
    (subst (λ (p : ℕ). MatchOption found (IsPassed s lane p) (λ k. IsAtPlace s lane p k)) (of_place ∙ get_or_default heads lane place 0 lane_in) is)))))
  where
    here : op < length inside.schedule.steps
    here = subst (λ (b : Kept). op < length b.schedule.steps) (sym same) within

    lane_in : lane < length heads
    lane_in =
        let l : (step_of now.schedule op).lane < length now.schedule.kinds =
        subst (λ (b : Kept). (step_of b.schedule op).lane < length b.schedule.kinds) same (kept.planned.in_lanes op here) in
        let each : length heads ≡ length now.schedule.kinds = told.a_head_each ∙ ap (λ (b : Kept). length b.schedule.kinds) same in
        omega arith
