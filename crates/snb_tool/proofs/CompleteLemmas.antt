-- Facts on what a call answers, by its words and by what its command finds.
use Rattle.std.specs.Prelude.{◌↔◌, MatchBool}
use Rattle.snb_base.specs.Moments.{Moments}
use Rattle.std.proofs.Common.{arith, ◌≡◌, ◌≢◌, ℕ, ◌≤◌, ◌⊎◌, ◌++◌, Bool, true, false, nat_eq, List, Option, Some, None, refl, sym, subst, ap, ◌∙◌, inl, inr}
use Rattle.std.proofs.lemmas.Bool.{eq-eqb, eqb-true}
use Rattle.snb_base.specs.Outbox.{Written, joined}
use Rattle.snb_base.specs.Shelf.{Counts, Files, HasCounted, HasRead, Rose}
use Rattle.snb_input_files.specs.Files.{held_in}
use Rattle.snb_input_files.specs.Walk.{Held, IsHeldTold}
use Rattle.snb_schema.specs.declared.refusal.Refusal.{Refusal}
use Rattle.snb_schema.specs.Frequencies.{FrequencyTable}
use Rattle.snb_tool_words.specs.declared.command.Command.{Command}
use Rattle.snb_tool_words.specs.declared.command.Command.TheVariants.{Audit, Check, Expect, Latency, Run, Read, Trial, Validate, Walk}
use Rattle.snb_tool_words.specs.declared.options.Via.{Via}
use Rattle.snb_tool_words.specs.Laws.{WordsAreOne}
use Rattle.snb_tool_outcome.specs.Inputs.{at_first, IsSurelyFine, IsSurelyRefused}
use Rattle.snb_tool_outcome.specs.Found.{Found, Given, IsFoundTold}
use Rattle.snb_audit_model.specs.LogFiles.{IsLogOf}
use Rattle.snb_validation_cases.specs.declared.case.CaseAt.{CaseAt}
use Rattle.snb_validation_model.specs.declared.difference.Difference.{Difference}
use Rattle.snb_validation_model.specs.CasesFile.{IsTally}
use Rattle.snb_validation_model.specs.Checks.{AreRight, Finds}
use Rattle.snb_validation_model.specs.CheckTexts.{outcome_status, tally_status}
use Rattle.snb_validation_check.specs.Laws.{FindingIsOne}
use Rattle.snb_loader.specs.Dataset.{IsDataset}
use Rattle.snb_audit_model.specs.declared.verdict.AuditVerdict.{AuditVerdict}
use Rattle.snb_audit_model.specs.declared.verdict.AuditVerdict.TheVariants.{Judged, Miscounted, Mismatched}
use Rattle.snb_audit_model.specs.AuditVerdicts.{IsInOrder, is_whole}
use Rattle.snb_auditor_log.specs.Laws.{AcceptedInOrder, WholeExactly}
use Rattle.snb_audit_model.specs.VerdictTexts.{audit_status, audit_text, verdict_status}
use Rattle.snb_auditor.specs.declared.verdict.Verdict.{Verdict}
use Rattle.snb_auditor.specs.declared.verdict.Verdict.TheVariants.{Violated, Halted, Incomplete, TooLate, Accepted}
use Rattle.snb_replica.specs.Counts.{logged_of}
use Rattle.snb_workers.specs.Laws.{CountsOfARun}
use Rattle.snb_audit_model.specs.Miscounts.{events_of}
use Rattle.snb_schema.specs.declared.row.Row.{Row}
use Rattle.snb_tool.specs.Laws.{AnswersHaveStatus, RefusalIsOne, RefusedOrNot}
use Rattle.snb_tool.specs.CaseLaws.{IsValidateInShort, ValidateInShort}
use Rattle.snb_tool.specs.Shorts.{AuditInShort, IsAuditInShort, IsLatencyInShort, IsRunInShort, LatencyInShort, RunInShort}
use Rattle.snb_tool_outcome.specs.Outcome.{Asked, IsCallAnswer, IsAsked, IsDoneAnswer, IsRefused}
use Rattle.snb_tool_outcome.specs.Done.{IsDone, IsValidated}
use Rattle.snb_tool_outcome.specs.LogsDone.{ShowsSummary, TellsLatencies, TellsVerdict, IsJudgedLog}
use Rattle.snb_tool_outcome.specs.Runs.{IsRun}
use Rattle.snb_tool_outcome.specs.Output.{HasBegun, HasWritten, Wrote, on_screen}
use Rattle.snb_tool_outcome.specs.Outside.{Ends, GivenUp, Outside, ReadFault, Whole, WriteFault}
use Rattle.snb_tool.proofs.OutcomeLemmas.{ends_weaker}

-- ---- statuses

-- the status of a verdict on a history is 0 or 1
verdict_low : (verdict : Verdict) → (verdict_status verdict ≡ 0) ⊎ (verdict_status verdict ≡ 1)
verdict_low (Violated v) = inr refl
verdict_low (Halted w) = inr refl
verdict_low (Incomplete op) = inr refl
verdict_low (TooLate on_time all) = inr refl
verdict_low (Accepted on_time all) = inl refl

-- and so is that of a verdict on a log
audit_low : (verdict : AuditVerdict) → (audit_status verdict ≡ 0) ⊎ (audit_status verdict ≡ 1)
audit_low (Mismatched needs found) = inr refl
audit_low (Miscounted m) = inr refl
audit_low (Judged verdict) = verdict_low verdict

-- a status that is equal to one of these
low_by : (s t : ℕ) → s ≡ t → (t ≡ 0) ⊎ (t ≡ 1) → (s ≡ 0) ⊎ (s ≡ 1) ⊎ (s ≡ 2) ⊎ (s ≡ 3)
low_by s t e (inl z) = inl (e ∙ z)
low_by s t e (inr o) = inr (inl (e ∙ o))

-- and so is that of what is found over cases
outcome_low : (first : Option Difference) → (outcome_status first ≡ 0) ⊎ (outcome_status first ≡ 1)
outcome_low None = inl refl
outcome_low (Some d) = inr refl

-- and so is that of latencies
told_low : (A B : Type 0) (whole : Bool) (status : ℕ) → MatchBool whole ((status ≡ 0) × A) ((status ≡ 1) × B)
    → (status ≡ 0) ⊎ (status ≡ 1) ⊎ (status ≡ 2) ⊎ (status ≡ 3)
told_low A B true status told = inl told.0
told_low A B false status told = inr (inl told.0)

-- a command that is done has the status 0, or 1
done_low : (command : Command) (found : Found) (moments : Moments) (status : ℕ) (texts : Written) → IsDone command found moments status texts
    → (status ≡ 0) ⊎ (status ≡ 1) ⊎ (status ≡ 2) ⊎ (status ≡ 3)
done_low (Check folder table) found moments status texts d = inl d.0
done_low (Run folder workers ratio table) found moments status texts d = inl d.0
done_low (Audit folder log ratio table) found moments status texts d = low_by status (audit_status d.verdict) d.status_is (audit_low d.verdict)
done_low (Latency folder log ratio table) found moments status texts d = told_low (ShowsSummary d.plan (events_of d.logged) texts) (texts ≡ on_screen (audit_text d.verdict)) (is_whole d.verdict) status d.told
done_low (Expect folder table) found moments status texts d = inl d.0
done_low (Validate folder cases via) found moments status texts d = low_by status (tally_status d.tally) d.status_is (outcome_low d.tally.first)
done_low (Read folder query) found moments status texts d = inl d.0
done_low (Walk folder query chance words) found moments status texts d = inl d.0
done_low (Trial size workers) found moments status texts d = inl d.0

pub answers_have_status : AnswersHaveStatus
answers_have_status asked contents moments status texts (inl usage) = inr (inr (inl usage.0))
answers_have_status asked contents moments status texts (inr (c, l, (found, told, inl done))) = done_low c found moments status texts done.1
answers_have_status asked contents moments status texts (inr (c, l, (found, told, inr bad))) = inr (inr (inr bad.2.0))

-- so none of 4, 5 and 6
known_low : (s n : ℕ) → (s ≡ 0) ⊎ (s ≡ 1) ⊎ (s ≡ 2) ⊎ (s ≡ 3) → s ≡ n → 4 ≤ n → ⊥
known_low s n (inl a) b c = omega (arith, a, b, c)
known_low s n (inr (inl a)) b c = omega (arith, a, b, c)
known_low s n (inr (inr (inl a))) b c = omega (arith, a, b, c)
known_low s n (inr (inr (inr a))) b c = omega (arith, a, b, c)

-- what is counted where a status is this one, and not else
counts_at : (result status old new : ℕ) → (result ≡ status → Rose old new) → (result ≢ status → new ≡ old) → Counts (nat_eq result status) old new
counts_at result status old new rose calm = by_test (nat_eq result status) refl
  where
    differ : true ≡ false → ⊥
    differ e = cc

    by_test : (b : Bool) → nat_eq result status ≡ b → Counts b old new
    by_test true e = rose (eqb-true result status e)
    by_test false e = calm (λ h. differ (sym (eq-eqb result status h) ∙ e))

module _ (status : AnswersHaveStatus) (asked : Asked) (old new : Outside) (result : ℕ) where
  no_texts : {A : Type 0} (n : ℕ) → 4 ≤ n → HasWritten old.written new.written (IsCallAnswer asked old.contents old.moments result) → result ≡ n → A
  no_texts n l h e = absurd (known_low result n (status asked old.contents old.moments result h.0 h.1) e l)

  pub ends_answered : Ends (IsCallAnswer asked) old new result
      → HasWritten old.written new.written (IsCallAnswer asked old.contents old.moments result) ⊎ ((result ≡ 4) ⊎ ((result ≡ 5) ⊎ (result ≡ 6)))
  ends_answered (Whole h) = inl h
  ends_answered (ReadFault e r n) = inr (inl e)
  ends_answered (WriteFault s e r h) = inr (inr (inl e))
  ends_answered (GivenUp e n) = inr (inr (inr e))

  ends_read_fault : Ends (IsCallAnswer asked) old new result → result ≡ 4 → Rose old.read_faults new.read_faults × (new.written ≡ old.written)
  ends_read_fault (Whole h) e = no_texts 4 (omega arith) h e
  ends_read_fault (ReadFault f r n) e = (r, n)
  ends_read_fault (WriteFault s f r h) e = absurd (omega (arith, e, f))
  ends_read_fault (GivenUp f n) e = absurd (omega (arith, e, f))

  pub ends_cut : Ends (IsCallAnswer asked) old new result → result ≡ 5
      → Rose old.write_faults new.write_faults × ((s : ℕ) × HasBegun old.ready old.written new.written (IsCallAnswer asked old.contents old.moments s))
  ends_cut (Whole h) e = no_texts 5 (omega arith) h e
  ends_cut (ReadFault f r n) e = absurd (omega (arith, e, f))
  ends_cut (WriteFault s f r h) e = (r, (s, h))
  ends_cut (GivenUp f n) e = absurd (omega (arith, e, f))

  ends_short : Ends (IsCallAnswer asked) old new result → result ≡ 6 → new.written ≡ old.written
  ends_short (Whole h) e = no_texts 6 (omega arith) h e
  ends_short (ReadFault f r n) e = absurd (omega (arith, e, f))
  ends_short (WriteFault s f r h) e = absurd (omega (arith, e, f))
  ends_short (GivenUp f n) e = n

  -- after a failed read and for want of memory nothing is added to the channels
  pub ends_unwritten : Ends (IsCallAnswer asked) old new result → (result ≡ 4) ⊎ (result ≡ 6) → new.written ≡ old.written
  ends_unwritten ends (inl e) = (ends_read_fault ends e).1
  ends_unwritten ends (inr e) = ends_short ends e

  -- what the call does to the shelf, and what it counts of the outbox
  pub ends_read : Ends (IsCallAnswer asked) old new result → (new.contents ≡ old.contents) × (new.may ≡ old.may) × (old.read_faults ≤ new.read_faults) → (result ≢ 4 → new.read_faults ≡ old.read_faults)
      → HasRead (nat_eq result 4) old.contents old.may old.read_faults new.contents new.may new.read_faults
  ends_read ends only calm = record {
    same = only.0;
    names = only.1;
    later = only.2;
    told = counts_at result 4 old.read_faults new.read_faults (λ e. (ends_read_fault ends e).0) calm;
  }

  pub ends_counted : Ends (IsCallAnswer asked) old new result → old.write_faults ≤ new.write_faults → (result ≢ 5 → new.write_faults ≡ old.write_faults)
      → HasCounted (nat_eq result 5) old.write_faults new.write_faults
  ends_counted ends later calm = record { later = later; told = counts_at result 5 old.write_faults new.write_faults (λ e. (ends_cut ends e).0) calm }

-- ---- completeness

module _ (one : WordsAreOne) (asked : Asked) (old new : Outside) (result : ℕ) (command : Command) (line : IsAsked asked command) where
  -- the command of words that were answered is this one
  module _ (c : Command) (l : IsAsked asked c) where
    as_this : (P : Command → Type 0) → P c → P command
    as_this P p = subst P (one asked.words c command l.line line.line) p

    as_that : (P : Command → Type 0) → P command → P c
    as_that P p = subst P (one asked.words command c line.line l.line) p

  -- what is answered where nothing is wrong with what the command finds
  done_as : RefusedOrNot → IsSurelyFine old.contents asked.given command → (s : ℕ) (texts : Written) → IsCallAnswer asked old.contents old.moments s texts → IsDoneAnswer asked.given command old.contents old.moments s texts
  done_as law fine s texts (inl usage) = absurd (usage.1 command line)
  done_as law fine s texts (inr (c, l, (found, told, inl done))) = as_this c l (λ (d : Command). IsDoneAnswer asked.given d old.contents old.moments s texts) (found, told, done.1)
  done_as law fine s texts (inr (c, l, (found, told, inr bad))) = absurd (law c found bad.0 bad.1 (as_that c l (λ (d : Command). IsSurelyFine old.contents asked.given d) fine found told))

  -- and where something is
  refused_as : RefusalIsOne → RefusedOrNot → (r : Refusal) → IsSurelyRefused old.contents asked.given command r → (s : ℕ) (texts : Written) → IsCallAnswer asked old.contents old.moments s texts → IsRefused r s texts
  refused_as once law r wrong s texts (inl usage) = absurd (usage.1 command line)
  refused_as once law r wrong s texts (inr (c, l, (found, told, inl done))) = absurd (law c found r (as_that c l (λ (d : Command). IsSurelyRefused old.contents asked.given d r) wrong found told) done.0)
  refused_as once law r wrong s texts (inr (c, l, (found, told, inr bad))) =
      subst (λ (q : Refusal). IsRefused q s texts) (once c found bad.0 r bad.1 (as_that c l (λ (d : Command). IsSurelyRefused old.contents asked.given d r) wrong found told)) bad.2

  pub complete : RefusedOrNot → Ends (IsCallAnswer asked) old new result → IsSurelyFine old.contents asked.given command → Ends (IsDoneAnswer asked.given command) old new result
  complete law ends fine = ends_weaker (IsCallAnswer asked) (IsDoneAnswer asked.given command) old new result (done_as law fine) ends

  pub refuses : RefusalIsOne → RefusedOrNot → Ends (IsCallAnswer asked) old new result → (r : Refusal) → IsSurelyRefused old.contents asked.given command r → Ends (λ contents moments. IsRefused r) old new result
  refuses once law ends r wrong = ends_weaker (IsCallAnswer asked) (λ contents moments. IsRefused r) old new result (refused_as once law r wrong) ends

-- ---- a run in short

-- the files of a folder that a shelf tells
pub told_files : (folder : List ℕ) (files : Files) (held : Held) → IsHeldTold (Some files) folder held → ◌≡◌ {A = Held} held (held_in folder files)
told_files folder files held told = λ i file. told file i

-- what was added to told channels
pub added : (old new texts : Written) → Wrote (Some old) (Some new) texts → new ≡ joined old texts
added old new texts w = cc

in_short : CountsOfARun → (given : Given) (files : Files) (moments : Moments) (folder : List ℕ) (workers ratio : ℕ) (table : FrequencyTable) (old new texts : Written) (found : Found)
    → IsFoundTold (Some files) given (Run folder workers ratio table) found → IsDone (Run folder workers ratio table) found moments 0 texts → new ≡ joined old texts
    → IsRunInShort files moments folder workers ratio table old new
in_short counts given files moments folder workers ratio table old new texts found told done e =
    let run : IsRun (held_in folder files) workers ratio table moments texts = subst (λ (h : Held). IsRun h workers ratio table moments texts) (told_files folder files found.held told.0) done.1 in
    record {
      graph = run.graph;
      plan = run.plan;
      input = run.input;
      history = run.left.history;
      legal = run.left.ran.legal;
      complete = run.left.ran.complete;
      waits = run.left.ran.waits;
      below = run.left.ran.below;
      logged = logged_of run.left.replies run.left.history;
      counted = counts workers run.plan moments run.graph run.left.history run.left.replies run.left.final run.left.ran;
      log = ap (λ (w : Written). w.log) e ∙ ap (λ (w : Written). old.log ++ w.log) run.left.shown;
      read_back = run.left.read_back;
      replies = run.left.replies;
      by_clock = run.left.ran.by_clock;
      answered = run.left.ran.answered;
      answers = ap (λ (w : Written). w.answers) e ∙ ap (λ (w : Written). old.answers ++ w.answers) run.left.shown;
      final = run.left.final;
      rows = run.left.ran.final;
      finals = ap (λ (w : Written). w.finals) e ∙ ap (λ (w : Written). old.finals ++ w.finals) run.left.shown;
    }

pub run_in_short : WordsAreOne → CountsOfARun → RunInShort
run_in_short one counts asked files moments folder workers ratio table old new line (texts, inl usage, w) = let e = usage.0 in absurd (omega (arith, e))
run_in_short one counts asked files moments folder workers ratio table old new line (texts, inr (c, l, (found, told, inr bad)), w) = let e = bad.2.0 in absurd (omega (arith, e))
run_in_short one counts asked files moments folder workers ratio table old new line (texts, inr (c, l, (found, told, inl done)), w) =
    let same = one asked.words c (Run folder workers ratio table) l.line line in
    in_short counts asked.given files moments folder workers ratio table old new texts found (subst (λ (d : Command). IsFoundTold (Some files) asked.given d found) same told)
    (subst (λ (d : Command). IsDone d found moments 0 texts) same done.1) (added old new texts w)

-- ---- an audit in short

audited_short : AcceptedInOrder → (given : Given) (files : Files) (folder log : List ℕ) (ratio : ℕ) (table : FrequencyTable) (status : ℕ) (old new texts : Written) (found : Found)
    → IsFoundTold (Some files) given (Audit folder log ratio table) found → TellsVerdict found.held found.beside ratio table status texts → new ≡ joined old texts
    → IsAuditInShort files folder log ratio table status old new
audited_short in_order given files folder log ratio table status old new texts found told done e =
    let j : IsJudgedLog (held_in folder files) found.beside ratio table done.plan done.header done.logged done.verdict =
    subst (λ (h : Held). IsJudgedLog h found.beside ratio table done.plan done.header done.logged done.verdict) (told_files folder files found.held told.0) done.judged in
    record {
      graph = j.graph;
      plan = done.plan;
      input = j.input;
      header = done.header;
      logged = done.logged;
      said = subst (λ (b : Option (List ℕ)). IsLogOf b done.header done.logged) told.1 j.log;
      exactly = subst (λ (n : ℕ). (n ≡ 0) ↔ IsInOrder j.graph done.plan done.header done.logged) (sym done.status_is) (in_order j.graph done.plan done.header done.logged done.verdict j.judged);
      verdict = done.verdict;
      judged = j.judged;
      screen = ap (λ (w : Written). w.screen) e ∙ ap (λ (w : Written). old.screen ++ w.screen) done.shown;
    }

-- none of the statuses 0 and 1 is another
not_low : {A : Type 0} (s n : ℕ) → (s ≡ 0) ⊎ (s ≡ 1) → s ≡ n → 2 ≤ n → A
not_low s n (inl a) b c = absurd (omega (arith, a, b, c))
not_low s n (inr a) b c = absurd (omega (arith, a, b, c))

pub audit_in_short : WordsAreOne → AcceptedInOrder → AuditInShort
audit_in_short words_one in_order asked files moments folder log ratio table status old new line low (texts, inl usage, w) = not_low status 2 low usage.0 (omega arith)
audit_in_short words_one in_order asked files moments folder log ratio table status old new line low (texts, inr (c, l, (found, told, inr bad)), w) =
    not_low status 3 low bad.2.0 (omega arith)
audit_in_short words_one in_order asked files moments folder log ratio table status old new line low (texts, inr (c, l, (found, told, inl done)), w) =
    let same = words_one asked.words c (Audit folder log ratio table) l.line line in
    audited_short in_order asked.given files folder log ratio table status old new texts found
    (subst (λ (d : Command). IsFoundTold (Some files) asked.given d found) same told)
    (subst (λ (d : Command). IsDone d found moments status texts) same done.1) (added old new texts w)

-- ---- latencies in short

-- where a run is whole, or not, what is told of it
module _ (whole : Bool) (status : ℕ) (texts : Written) (P Q : Written → Type 0) (told : MatchBool whole ((status ≡ 0) × P texts) ((status ≡ 1) × Q texts)) where
  pub told_exactly : (status ≡ 0) ↔ (whole ≡ true)
  told_exactly = by whole told
    where
      by : (b : Bool) → MatchBool b ((status ≡ 0) × P texts) ((status ≡ 1) × Q texts) → (status ≡ 0) ↔ (b ≡ true)
      by true t = (λ zero. refl, λ is. t.0)
      by false t = (λ zero. absurd (let one = t.0 in omega (arith, one, zero)), λ is. absurd cc)

  told_summary : status ≡ 0 → P texts
  told_summary zero = by whole told
    where
      by : (b : Bool) → MatchBool b ((status ≡ 0) × P texts) ((status ≡ 1) × Q texts) → P texts
      by true t = t.1
      by false t = absurd (let one = t.0 in omega (arith, one, zero))

  told_verdict : status ≡ 1 → Q texts
  told_verdict one = by whole told
    where
      by : (b : Bool) → MatchBool b ((status ≡ 0) × P texts) ((status ≡ 1) × Q texts) → Q texts
      by true t = absurd (let zero = t.0 in omega (arith, one, zero))
      by false t = t.1

measured_short : WholeExactly → (given : Given) (files : Files) (folder log : List ℕ) (ratio : ℕ) (table : FrequencyTable) (status : ℕ) (old new texts : Written) (found : Found)
    → IsFoundTold (Some files) given (Latency folder log ratio table) found → TellsLatencies found.held found.beside ratio table status texts → new ≡ joined old texts
    → IsLatencyInShort files folder log ratio table status old new
measured_short exactly given files folder log ratio table status old new texts found told done e =
    let j : IsJudgedLog (held_in folder files) found.beside ratio table done.plan done.header done.logged done.verdict =
    subst (λ (h : Held). IsJudgedLog h found.beside ratio table done.plan done.header done.logged done.verdict) (told_files folder files found.held told.0) done.judged in
    let law = exactly j.graph done.plan done.header done.logged done.verdict j.judged in
    let P : Written → Type 0 = ShowsSummary done.plan (events_of done.logged) in
    let Q : Written → Type 0 = λ (t : Written). t ≡ on_screen (audit_text done.verdict) in
    let whole = told_exactly (is_whole done.verdict) status texts P Q done.told in
    record {
      graph = j.graph;
      plan = done.plan;
      input = j.input;
      header = done.header;
      logged = done.logged;
      said = subst (λ (b : Option (List ℕ)). IsLogOf b done.header done.logged) told.1 j.log;
      exactly = (λ zero. law.0 (whole.0 zero), λ is. whole.1 (law.1 is));
      summary = λ zero. let s = told_summary (is_whole done.verdict) status texts P Q done.told zero in
          (s.measures, s.summary, ap (λ (w : Written). w.screen) e ∙ ap (λ (w : Written). old.screen ++ w.screen) s.shown);
      verdict = λ one. (
        done.verdict,
        j.judged,
        ap (λ (w : Written). w.screen) e ∙ ap (λ (w : Written). old.screen ++ w.screen) (told_verdict (is_whole done.verdict) status texts P Q done.told one),
      );
    }

pub latency_in_short : WordsAreOne → WholeExactly → LatencyInShort
latency_in_short words_one exactly asked files moments folder log ratio table status old new line low (texts, inl usage, w) = not_low status 2 low usage.0 (omega arith)
latency_in_short words_one exactly asked files moments folder log ratio table status old new line low (texts, inr (c, l, (found, told, inr bad)), w) =
    not_low status 3 low bad.2.0 (omega arith)
latency_in_short words_one exactly asked files moments folder log ratio table status old new line low (texts, inr (c, l, (found, told, inl done)), w) =
    let same = words_one asked.words c (Latency folder log ratio table) l.line line in
    measured_short exactly asked.given files folder log ratio table status old new texts found
    (subst (λ (d : Command). IsFoundTold (Some files) asked.given d found) same told)
    (subst (λ (d : Command). IsDone d found moments status texts) same done.1) (added old new texts w)

-- ---- a validation in short

-- nothing is found exactly where all replies are right
found_none : FindingIsOne → (graph : List Row) (cases : List CaseAt) (first : Option Difference) → Finds graph cases first → (outcome_status first ≡ 0) ↔ AreRight graph cases
found_none one graph cases first is = (to first is, λ right. ap outcome_status (one graph cases first None is right))
  where
    to : (o : Option Difference) → Finds graph cases o → outcome_status o ≡ 0 → AreRight graph cases
    to None f e = f
    to (Some d) f e = absurd (omega (arith, e))

validated_short : FindingIsOne → (given : Given) (files : Files) (folder name : List ℕ) (via : Via) (status : ℕ) (old new texts : Written) (found : Found)
    → IsFoundTold (Some files) given (Validate folder name via) found → IsValidated found.held found.beside status texts → new ≡ joined old texts
    → IsValidateInShort files folder name status old new
validated_short one given files folder name via status old new texts found told done e =
    let t : IsTally done.graph (files name) done.tally = subst (λ (b : Option (List ℕ)). IsTally done.graph b done.tally) told.1 done.found in
    record {
      graph = done.graph;
      dataset = subst (λ (h : Held). IsDataset at_first h done.graph) (told_files folder files found.held told.0) done.dataset;
      cases = t.cases;
      said = t.said;
      exactly = subst (λ (n : ℕ). (n ≡ 0) ↔ AreRight done.graph t.cases) (sym done.status_is) (found_none one done.graph t.cases done.tally.first t.found);
      tally = done.tally;
      found = t;
      screen = ap (λ (w : Written). w.screen) e ∙ ap (λ (w : Written). old.screen ++ w.screen) done.shown;
    }

pub validate_in_short : WordsAreOne → FindingIsOne → ValidateInShort
validate_in_short words_one one asked files moments folder name via status old new line low (texts, inl usage, w) = not_low status 2 low usage.0 (omega arith)
validate_in_short words_one one asked files moments folder name via status old new line low (texts, inr (c, l, (found, told, inr bad)), w) =
    not_low status 3 low bad.2.0 (omega arith)
validate_in_short words_one one asked files moments folder name via status old new line low (texts, inr (c, l, (found, told, inl done)), w) =
    let same = words_one asked.words c (Validate folder name via) l.line line in
    validated_short one asked.given files folder name via status old new texts found
    (subst (λ (d : Command). IsFoundTold (Some files) asked.given d found) same told)
    (subst (λ (d : Command). IsDone d found moments status texts) same done.1) (added old new texts w)
