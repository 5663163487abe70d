-- Facts on the verdict of an audit.
use Rattle.std.proofs.Common.{◌≡◌, ◌≢◌, ◌∙◌, ◌≤◌, ◌<◌, ◌+◌, ◌*◌, ◌++◌, ◌∷◌, ℕ, zero, suc, true, List, All, Option, Some, None, length, get_or, take, drop, refl, sym, ap, subst, inl, inr, arith}
use Rattle.std.specs.Prelude.{slice_get, IfSome}
use Rattle.std.specs.Option.{IsSome}
use Rattle.std.proofs.lemmas.Bool.{cases_eq, cases_lt}
use Rattle.std.proofs.lemmas.List.{get_or_default, map-append}
use Rattle.std.proofs.lemmas.Option.{get_or_from_slice_get, same_Some, slice_get_within}
use Rattle.snb_base.proofs.Laws.{split_here}
use Rattle.snb_history.specs.declared.event.Event.{Event}
use Rattle.snb_history.specs.declared.logged.Header.{Header}
use Rattle.snb_history.specs.declared.logged.Logged.{Logged}
use Rattle.snb_schema.specs.declared.row.Row.{Row}
use Rattle.snb_history.specs.Rules.{IsComplete, IsLegal}
use Rattle.snb_history.specs.Schedule.{Schedule}
use Rattle.snb_runlog.specs.Columns.{HasCount, HasOperations}
use Rattle.snb_auditor.specs.declared.verdict.Violation.{Violation}
use Rattle.snb_auditor.specs.declared.verdict.Verdict.{Verdict}
use Rattle.snb_auditor.specs.declared.verdict.Verdict.TheVariants.{Violated, Halted, Incomplete, TooLate, Accepted}
use Rattle.snb_auditor.specs.Verdicts.{IsTimelyRun, IsVerdict, IsViolation, on_time}
use Rattle.snb_auditor.specs.VerdictLaws.{AcceptedExactly, VerdictIsOne}
use Rattle.snb_auditor.specs.Audits.{Audit, HasHeard, IsRefused}
use Rattle.snb_graph_model.specs.Graphs.{IsGraph}
use Rattle.snb_graph_model.specs.Soundness.{Sound}
use Rattle.snb_plan.specs.Plans.{Plan, schedule_of}
use Rattle.snb_workers_replay.specs.Laws.{IsReplayed}
use Rattle.snb_replica.specs.Counts.{IsCount}
use Rattle.snb_miscount.specs.Laws.{OneCount}
use Rattle.snb_audit_model.specs.declared.miscount.Miscount.{Miscount}
use Rattle.snb_audit_model.specs.Miscounts.{IsFirstMiscount, IsMiscount, events_of}
use Rattle.snb_audit_model.specs.declared.verdict.AuditVerdict.{AuditVerdict}
use Rattle.snb_audit_model.specs.declared.verdict.AuditVerdict.TheVariants.{Judged, Miscounted, Mismatched}
use Rattle.snb_audit_model.specs.AuditVerdicts.{IsAuditVerdict, IsInOrder, IsMatched, IsMismatched, IsViolated, IsWhole, is_whole}
use Rattle.snb_auditor_log.specs.Laws.{AcceptedInOrder, AuditVerdictIsOne, WholeExactly}
use Rattle.snb_audit_model.specs.VerdictTexts.{audit_status, verdict_status}

-- ---- the events, one by one

-- a list of events, cut at one of them
events_split : (xs : List Logged) (i : ℕ) (d : Logged) → i < length xs → events_of (take i xs) ++ (get_or xs i d).event ∷ events_of (drop (i + 1) xs) ≡ events_of xs
events_split xs i d lt =
    sym (map-append (λ l. l.event) (take i xs) (get_or xs i d ∷ drop (i + 1) xs)) ∙ ap events_of (split_here xs i (get_or xs i d) lt (get_or_default xs i d (get_or xs i d) lt))

-- the verdict of an auditor that refuses an event is that on the whole history
pub refused_told : (s : Schedule) (workers : ℕ) (xs : List Logged) (i : ℕ) (d : Logged) (old new : Audit) (v : Violation) (verdict : Verdict)
    → old ≡ record { schedule = s; workers = workers; fitted = events_of (take i xs); kept = None } → i < length xs → IsRefused old (get_or xs i d).event v new
    → ((g : List Event) → HasHeard new g → IsVerdict new.schedule new.workers g verdict) → IsVerdict s workers (events_of xs) verdict
refused_told s workers xs i d old new v verdict was lt refused claim =
    elim (subst (λ (o : Audit). IsRefused o (get_or xs i d).event v new) was refused) [
      | inl again ↦ absurd (let kept = again.0 in cc)
      | inr first ↦ by_new first.2 first.1
    ]
  where
    by_new : new ≡ record { schedule = s; workers = workers; fitted = events_of (take i xs); kept = Some v } → IsViolation s workers (events_of (take i xs)) (get_or xs i d).event v
        → IsVerdict s workers (events_of xs) verdict
    by_new keeps violation =
        (subst (λ (a : Audit). (g : List Event) → HasHeard a g → IsVerdict a.schedule a.workers g verdict) keeps claim)
        (events_of xs) ((get_or xs i d).event, events_of (drop (i + 1) xs), events_split xs i d lt, violation)

-- ---- the verdict

-- a history without a violation is legal
pub legal_unless : (s : Schedule) (workers : ℕ) (h : List Event) (verdict : Verdict) → IsVerdict s workers h verdict → ((v : Violation) → verdict ≢ Violated v) → IsLegal s workers h
legal_unless s workers h (Violated v) is other = absurd (other v refl)
legal_unless s workers h (Halted worker) is other = is.0
legal_unless s workers h (Incomplete op) is other = is.0
legal_unless s workers h (TooLate these all) is other = is.0
legal_unless s workers h (Accepted these all) is other = is.0

module _ (base : List Row) (plan : Plan) (header : Header) (logged : List Logged) where
  pub mismatched : (needs found : ℕ) → needs ≡ length plan.operations → header.operations ≡ Some found → found ≢ needs → IsAuditVerdict base plan header logged (Mismatched needs found)
  mismatched needs found is stated differ = inl (record {
    found = found;
    stated = stated;
    differ = λ e. differ (e ∙ sym is);
    is = ap (λ n. Mismatched n found) is;
  })

  matches : (o : Option ℕ) (n found : ℕ) → IfSome o (λ k. k ≡ n) → o ≡ Some found → found ≡ n
  matches None n found m e = absurd cc
  matches (Some k) n found m e = let same : k ≡ found = some_same k found e in sym same ∙ m
    where
      some_same : (k found : ℕ) → Some k ≡ Some found → k ≡ found
      some_same k found e = cc

  not_mismatched : IsMatched plan header → (b : AuditVerdict) → IsMismatched plan header b → ⊥
  not_mismatched matched b wrong = wrong.differ (matches header.operations (length plan.operations) wrong.found matched wrong.stated)

  pub violated : (v : Violation) → IsMatched plan header → IsVerdict (schedule_of plan) header.workers (events_of logged) (Violated v) → IsAuditVerdict base plan header logged (Judged (Violated v))
  violated v matched judged = inr (not_mismatched matched, inl (record { violation = v; judged = judged; is = refl }))

  module _ (one : VerdictIsOne) (verdict : Verdict) (judged : IsVerdict (schedule_of plan) header.workers (events_of logged) verdict) (other : (v : Violation) → verdict ≢ Violated v) where
    not_violated : (b : AuditVerdict) → IsViolated plan header logged b → ⊥
    not_violated b wrong = other wrong.violation (one (schedule_of plan) header.workers (events_of logged) verdict (Violated wrong.violation) judged wrong.judged)

    pub miscounted : (m : Miscount) → IsMatched plan header → IsFirstMiscount base plan logged (Some m) → IsAuditVerdict base plan header logged (Miscounted m)
    miscounted m matched first = inr (
      not_mismatched matched,
      inr (not_violated, inl (record { miscount = m; legal = legal_unless (schedule_of plan) header.workers (events_of logged) verdict judged other; first = first; is = refl })),
    )

    pub counted : IsMatched plan header → IsFirstMiscount base plan logged None → IsAuditVerdict base plan header logged (Judged verdict)
    counted matched none = inr (
      not_mismatched matched,
      inr (not_violated, inr ((λ b wrong. none wrong.miscount wrong.first.0), inl (record { history = verdict; judged = judged; is = refl }))),
    )

  -- a log without a count of operations has no counts of rows
  pub no_counts : HasOperations header → All (HasCount header.version) logged → header.operations ≡ None → IsFirstMiscount base plan logged None
  no_counts operations counts none m wrong =
      let at : HasCount header.version wrong.one =
      subst (λ (l : Logged). HasCount header.version l) (get_or_from_slice_get logged m.event wrong.one wrong.one wrong.there)
      (counts m.event wrong.one (slice_get_within logged m.event wrong.one wrong.there)) in
      absurd (none_some header.operations none (operations.1 (at.0 (is_some_found wrong.one.rows m.found wrong.found)).0))
    where
      is_some_found : (o : Option ℕ) (n : ℕ) → o ≡ Some n → IsSome o
      is_some_found o n e = rw e refl

      none_some : (o : Option ℕ) → o ≡ None → IsSome o → ⊥
      none_some o e is = let none = subst IsSome e is in absurd cc

  -- ---- what is accepted

  -- where no miscount is the first one, there is none
  none_below : ((m : Miscount) → IsFirstMiscount base plan logged (Some m) → ⊥) → (n : ℕ) (m : Miscount) → m.event < n → IsMiscount base plan logged m → ⊥
  none_below no_first zero m lt wrong = absurd (omega arith)
  none_below no_first (suc n) m lt wrong = no_first m (wrong, λ other is. at_most m.event other.event (λ less. none_below no_first n other (omega arith) is))
    where
      at_most : (a b : ℕ) → (b < a → ⊥) → a ≤ b
      at_most a b not_less = omega arith

  whole_good : (history : Verdict) → is_whole (Judged history) ≡ true → IsVerdict (schedule_of plan) header.workers (events_of logged) history
      → IsLegal (schedule_of plan) header.workers (events_of logged) × IsComplete (schedule_of plan) (events_of logged)
  whole_good (Violated v) e is = absurd cc
  whole_good (Halted worker) e is = absurd cc
  whole_good (Incomplete op) e is = absurd cc
  whole_good (TooLate these all) e is = (is.0, is.1)
  whole_good (Accepted these all) e is = (is.0, is.1)

  stated : (o : Option ℕ) (n : ℕ) → ((found : ℕ) → o ≡ Some found → found ≢ n → ⊥) → IfSome o (λ k. k ≡ n)
  stated None n h = tt
  stated (Some k) n h = elim (cases_eq k n) [
    | inl same ↦ same
    | inr other ↦ absurd (h k refl other)
  ]

  -- a verdict that a run is whole is right
  whole : (verdict : AuditVerdict) → IsAuditVerdict base plan header logged verdict → is_whole verdict ≡ true → IsWhole base plan header logged
  whole verdict (inl wrong) e = absurd (let is = ap is_whole wrong.is in cc)
  whole verdict (inr (matched, inl wrong)) e = absurd (let is = ap is_whole wrong.is in cc)
  whole verdict (inr (matched, inr (unbroken, inl wrong))) e = absurd (let is = ap is_whole wrong.is in cc)
  whole verdict (inr (matched, inr (unbroken, inr (rightly, inl judged)))) e =
      let good = whole_good judged.history (sym (ap is_whole judged.is) ∙ e) judged.judged in
      record {
        legal = good.0;
        complete = good.1;
        counted = λ m. none_below (λ k first. rightly (Miscounted k) (record { miscount = k; legal = good.0; first = first; is = refl })) (m.event + 1) m (omega arith);
        matched = stated header.operations (length plan.operations) (λ found has differ. matched (Mismatched (length plan.operations) found) (record { found = found; stated = has; differ = differ; is = refl }));
      }
  whole verdict (inr (matched, inr (unbroken, inr (rightly, inr (none, wrong))))) e = absurd wrong

  -- the history of a whole run is late or in time
  on_time_or_not : IsLegal (schedule_of plan) header.workers (events_of logged) → IsComplete (schedule_of plan) (events_of logged)
      → (history : Verdict) × IsVerdict (schedule_of plan) header.workers (events_of logged) history × (is_whole (Judged history) ≡ true)
  on_time_or_not legal complete =
      elim (cases_lt (100 * on_time (schedule_of plan) (events_of logged)) (95 * length (schedule_of plan).steps)) [
        | inl late ↦ (TooLate (on_time (schedule_of plan) (events_of logged)) (length (schedule_of plan).steps), (legal, complete, refl, refl, late), refl)
        | inr timely ↦ (Accepted (on_time (schedule_of plan) (events_of logged)) (length (schedule_of plan).steps), (legal, complete, refl, refl, timely), refl)
      ]

  -- and the verdict on a log with a whole run is so
  tells_whole : VerdictIsOne → (verdict : AuditVerdict) → IsAuditVerdict base plan header logged verdict → IsWhole base plan header logged → is_whole verdict ≡ true
  tells_whole one verdict (inl wrong) good = absurd (not_mismatched good.matched verdict wrong)
  tells_whole one verdict (inr (matched, inl wrong)) good =
      let right = on_time_or_not good.legal good.complete in
      absurd (let e = ap (λ (v : Verdict). is_whole (Judged v)) (one (schedule_of plan) header.workers (events_of logged) (Violated wrong.violation) right.0 wrong.judged right.1) ∙ right.2 in cc)
  tells_whole one verdict (inr (matched, inr (unbroken, inl wrong))) good = absurd (good.counted wrong.miscount wrong.first.0)
  tells_whole one verdict (inr (matched, inr (unbroken, inr (rightly, inl judged)))) good =
      let right = on_time_or_not good.legal good.complete in
      ap is_whole judged.is
      ∙ ap (λ (v : Verdict). is_whole (Judged v)) (one (schedule_of plan) header.workers (events_of logged) judged.history right.0 judged.judged right.1) ∙ right.2
  tells_whole one verdict (inr (matched, inr (unbroken, inr (rightly, inr (none, wrong))))) good = absurd wrong

  -- an accepted run is whole
  accepted_whole : (verdict : AuditVerdict) → audit_status verdict ≡ 0 → is_whole verdict ≡ true
  accepted_whole (Mismatched needs found) e = absurd (omega arith)
  accepted_whole (Miscounted m) e = absurd (omega arith)
  accepted_whole (Judged (Violated v)) e = absurd (omega arith)
  accepted_whole (Judged (Halted worker)) e = absurd (omega arith)
  accepted_whole (Judged (Incomplete op)) e = absurd (omega arith)
  accepted_whole (Judged (TooLate these all)) e = refl
  accepted_whole (Judged (Accepted these all)) e = refl

  module _ (exactly : AcceptedExactly) (one : VerdictIsOne) where
    accepted_timely : (history : Verdict) → verdict_status history ≡ 0 → IsVerdict (schedule_of plan) header.workers (events_of logged) history
        → IsTimelyRun (schedule_of plan) (events_of logged)
    accepted_timely (Violated v) e is = absurd cc
    accepted_timely (Halted worker) e is = absurd cc
    accepted_timely (Incomplete op) e is = absurd cc
    accepted_timely (TooLate these all) e is = absurd cc
    accepted_timely (Accepted these all) e is = is.4

    timely : (verdict : AuditVerdict) → IsAuditVerdict base plan header logged verdict → audit_status verdict ≡ 0 → IsTimelyRun (schedule_of plan) (events_of logged)
    timely verdict (inl wrong) e = absurd (let is = ap audit_status wrong.is in omega arith)
    timely verdict (inr (matched, inl wrong)) e = absurd (let is = ap audit_status wrong.is in omega arith)
    timely verdict (inr (matched, inr (unbroken, inl wrong))) e = absurd (let is = ap audit_status wrong.is in omega arith)
    timely verdict (inr (matched, inr (unbroken, inr (rightly, inl judged)))) e = accepted_timely judged.history (sym (ap audit_status judged.is) ∙ e) judged.judged
    timely verdict (inr (matched, inr (unbroken, inr (rightly, inr (none, wrong))))) e = absurd wrong

    in_order : (verdict : AuditVerdict) → IsAuditVerdict base plan header logged verdict → audit_status verdict ≡ 0 → IsInOrder base plan header logged
    in_order verdict is e =
        let run = whole verdict is (accepted_whole verdict e) in
        record { whole = run; timely = timely verdict is e }

    accepts : (verdict : AuditVerdict) → IsAuditVerdict base plan header logged verdict → IsInOrder base plan header logged → audit_status verdict ≡ 0
    accepts verdict (inl wrong) good = absurd (not_mismatched good.whole.matched verdict wrong)
    accepts verdict (inr (matched, inl wrong)) good =
        let a = (exactly (schedule_of plan) header.workers (events_of logged)).1 (good.whole.legal, good.whole.complete, good.timely) in
        absurd (let e = one (schedule_of plan) header.workers (events_of logged) (Violated wrong.violation) (Accepted a.0 a.1) wrong.judged a.2 in cc)
    accepts verdict (inr (matched, inr (unbroken, inl wrong))) good = absurd (good.whole.counted wrong.miscount wrong.first.0)
    accepts verdict (inr (matched, inr (unbroken, inr (rightly, inl judged)))) good =
        let a = (exactly (schedule_of plan) header.workers (events_of logged)).1 (good.whole.legal, good.whole.complete, good.timely) in
        ap audit_status judged.is ∙ ap verdict_status (one (schedule_of plan) header.workers (events_of logged) judged.history (Accepted a.0 a.1) judged.judged a.2)
    accepts verdict (inr (matched, inr (unbroken, inr (rightly, inr (none, wrong))))) good = absurd wrong

pub accepted_in_order : AcceptedExactly → VerdictIsOne → AcceptedInOrder
accepted_in_order exactly one base plan header logged verdict is =
    (in_order base plan header logged exactly one verdict is, accepts base plan header logged exactly one verdict is)

pub whole_exactly : VerdictIsOne → WholeExactly
whole_exactly one base plan header logged verdict is =
    (whole base plan header logged verdict is, tells_whole base plan header logged one verdict is)

-- ---- one verdict

module _ (base : List Row) (plan : Plan) (header : Header) (logged : List Logged) (verdict_one : VerdictIsOne) (count_one : OneCount) (graph : IsGraph base) (sound : Sound base) (replayed : IsReplayed base plan) where
  same_miscount : (a b : Miscount) → IsLegal (schedule_of plan) header.workers (events_of logged) → IsFirstMiscount base plan logged (Some a) → IsFirstMiscount base plan logged (Some b) → a ≡ b
  same_miscount a b legal p q =
      let event : a.event ≡ b.event = omega (arith, p.1 b q.0, q.1 a p.0) in
      let one : p.0.one ≡ q.0.one = same_Some _ _ (sym p.0.there ∙ ap (slice_get logged) event ∙ q.0.there) in
      let found : a.found ≡ b.found = same_Some _ _ (sym p.0.found ∙ ap (λ (l : Logged). l.rows) one ∙ q.0.found) in
      let needs : a.needs ≡ b.needs =
      count_one base plan header.workers (events_of logged) q.0.one.event a.needs b.needs graph sound replayed legal (subst (λ (l : Logged). IsCount base plan (events_of logged) l.event a.needs) one p.0.needs) q.0.needs in
      λ i. record { event = event i; needs = needs i; found = found i }

  one_verdict : (a b : AuditVerdict) → IsAuditVerdict base plan header logged a → IsAuditVerdict base plan header logged b → a ≡ b
  one_verdict a b (inl p) (inl q) = p.is ∙ ap (λ (n : ℕ). Mismatched (length plan.operations) n) (same_Some _ _ (sym p.stated ∙ q.stated)) ∙ sym q.is
  one_verdict a b (inl p) (inr q) = absurd (q.0 a p)
  one_verdict a b (inr p) (inl q) = absurd (p.0 b q)
  one_verdict a b (inr (m, inl p)) (inr (n, inl q)) =
      p.is ∙ ap Judged (verdict_one (schedule_of plan) header.workers (events_of logged) (Violated p.violation) (Violated q.violation) p.judged q.judged) ∙ sym q.is
  one_verdict a b (inr (m, inl p)) (inr (n, inr q)) = absurd (q.0 a p)
  one_verdict a b (inr (m, inr p)) (inr (n, inl q)) = absurd (p.0 b q)
  one_verdict a b (inr (m, inr (u, inl p))) (inr (n, inr (v, inl q))) = p.is ∙ ap Miscounted (same_miscount p.miscount q.miscount p.legal p.first q.first) ∙ sym q.is
  one_verdict a b (inr (m, inr (u, inl p))) (inr (n, inr (v, inr q))) = absurd (q.0 a p)
  one_verdict a b (inr (m, inr (u, inr p))) (inr (n, inr (v, inl q))) = absurd (p.0 b q)
  one_verdict a b (inr (m, inr (u, inr (k, inl p)))) (inr (n, inr (v, inr (l, inl q)))) =
      p.is ∙ ap Judged (verdict_one (schedule_of plan) header.workers (events_of logged) p.history q.history p.judged q.judged) ∙ sym q.is
  one_verdict a b (inr (m, inr (u, inr (k, inl p)))) (inr (n, inr (v, inr (l, inr q)))) = absurd q.1
  one_verdict a b (inr (m, inr (u, inr (k, inr p)))) (inr (n, inr (v, inr q))) = absurd p.1

pub audit_verdict_is_one : VerdictIsOne → OneCount → AuditVerdictIsOne
audit_verdict_is_one verdict_one count_one base plan header logged one other graph sound replayed p q =
    one_verdict base plan header logged verdict_one count_one graph sound replayed one other p q
