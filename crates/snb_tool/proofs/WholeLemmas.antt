-- What `run` wrote is a whole run.
use Rattle.std.proofs.Common.{◌≡◌, ◌≤◌, ◌∙◌, ℕ, true, ◌++◌, List, length, Option, Some, refl, inl, inr, sym, ap, subst, arith}
use Rattle.snb_audit_model.specs.declared.verdict.AuditVerdict.{AuditVerdict}
use Rattle.snb_audit_model.specs.AuditVerdicts.{IsWhole, is_whole}
use Rattle.snb_auditor_log.specs.Laws.{LogSaysOne, SaidLogIsClean, WholeExactly}
use Rattle.snb_audit_model.specs.LogFiles.{IsLogOf, log_checks}
use Rattle.snb_audit_model.specs.VerdictTexts.{audit_status, audit_text}
use Rattle.snb_base.specs.Moments.{Moments}
use Rattle.snb_base.specs.FirstOf.{NoneOf}
use Rattle.snb_base.specs.Outbox.{Written}
use Rattle.snb_base.specs.Shelf.{Files}
use Rattle.snb_history.specs.declared.event.Event.{Event}
use Rattle.snb_history.specs.declared.logged.Header.{Header}
use Rattle.snb_history.specs.declared.logged.Logged.{Logged}
use Rattle.snb_history.specs.Rules.{IsComplete, IsLegal}
use Rattle.snb_history.specs.RunTexts.{header_of, log_text}
use Rattle.snb_input_files.specs.Files.{held_in}
use Rattle.snb_input_files.specs.Walk.{Held}
use Rattle.snb_input_files.proofs.Laws.{none_append}
use Rattle.snb_plan.specs.Plans.{Plan, schedule_of}
use Rattle.snb_schema.specs.declared.limits.TheConstants.{MAX_BYTES}
use Rattle.snb_schema.specs.declared.row.Row.{Row}
use Rattle.snb_schema.specs.Frequencies.{FrequencyTable}
use Rattle.snb_tool_words.specs.declared.command.Command.{Command}
use Rattle.snb_tool_words.specs.declared.command.Command.TheVariants.{Audit, Latency, Run}
use Rattle.snb_tool_words.specs.Commands.{IsLineOf}
use Rattle.snb_tool_words.specs.Laws.{WordsAreOne}
use Rattle.snb_replica.specs.Counts.{logged_of}
use Rattle.snb_workers.specs.Laws.{CountsOfARun}
use Rattle.snb_audit_model.specs.Miscounts.{events_of}
use Rattle.snb_tool_outcome.specs.Inputs.{IsSurelyFine, IsInput, checks_of, plan_checks}
use Rattle.snb_tool_outcome.specs.Found.{Found, Given, IsFoundTold}
use Rattle.snb_tool.specs.Laws.{RefusedOrNot}
use Rattle.snb_tool.specs.WholeLaws.{RunIsWhole}
use Rattle.snb_tool_outcome.specs.Outcome.{Asked, IsCallAnswer}
use Rattle.snb_tool_outcome.specs.Done.{IsDone}
use Rattle.snb_tool_outcome.specs.LogsDone.{IsJudgedLog, ShowsSummary, TellsLatencies, TellsVerdict}
use Rattle.snb_tool_outcome.specs.Runs.{IsRun}
use Rattle.snb_tool_outcome.specs.Output.{on_screen}
use Rattle.snb_tool.proofs.CompleteLemmas.{told_exactly, told_files}
use Rattle.snb_tool_outcome.proofs.Laws.{AreOne, planned_one}

-- nothing is wrong with the files of a plan, and the text is a log that says a whole run of it
record IsWholeLog (held : Held) (ratio : ℕ) (table : FrequencyTable) (text : List ℕ) : Type 0 where
  clean : NoneOf (plan_checks ratio table held)
  graph : List Row
  plan : Plan
  input : IsInput held ratio table graph plan
  header : Header
  logged : List Logged
  says : IsLogOf (Some text) header logged
  whole : IsWhole graph plan header logged
  fits : length text ≤ MAX_BYTES

-- so is the log of a run
run_whole : CountsOfARun → (held : Held) (workers ratio : ℕ) (table : FrequencyTable) (moments : Moments) (texts : Written) → NoneOf (plan_checks ratio table held)
    → IsRun held workers ratio table moments texts → IsWholeLog held ratio table texts.log
run_whole counts held workers ratio table moments texts clean r =
    let ran = r.left.ran in
    let logged = logged_of r.left.replies r.left.history in
    let head = header_of workers (length r.plan.operations) in
    let events : events_of logged ≡ r.left.history = (counts workers r.plan moments r.graph r.left.history r.left.replies r.left.final ran).events in
    let text : texts.log ≡ log_text workers (length r.plan.operations) logged = ap (λ (w : Written). w.log) r.left.shown in
    record {
      clean = clean;
      graph = r.graph;
      plan = r.plan;
      input = r.input;
      header = head;
      logged = logged;
      says = subst (λ (bytes : List ℕ). IsLogOf (Some bytes) head logged) (sym text) r.left.read_back.says;
      whole = record {
        legal = subst (λ (h : List Event). IsLegal (schedule_of r.plan) workers h) (sym events) ran.legal;
        complete = subst (λ (h : List Event). IsComplete (schedule_of r.plan) h) (sym events) ran.complete;
        counted = r.left.counted;
        matched = refl;
      };
      fits = subst (λ (bytes : List ℕ). length bytes ≤ MAX_BYTES) (sym text) r.left.fits;
    }

module _ (one : AreOne) (log_one : LogSaysOne) (exactly : WholeExactly) (held : Held) (ratio : ℕ) (table : FrequencyTable) (text : List ℕ) (w : IsWholeLog held ratio table text) where
  -- what is judged of it is a whole run
  judged_whole : (plan : Plan) (header : Header) (logged : List Logged) (verdict : AuditVerdict) → IsJudgedLog held (Some text) ratio table plan header logged verdict → is_whole verdict ≡ true
  judged_whole plan header logged verdict j =
      let graphs : w.graph ≡ j.graph = one.dataset _ held w.graph j.graph w.input.dataset j.input.dataset in
      let plans : w.plan ≡ plan = planned_one one ratio table held w.plan plan w.input.planned j.input.planned in
      let said = log_one (Some text) w.header header w.logged logged w.says j.log in
      (exactly j.graph plan header logged verdict j.judged).1
      (subst (λ (g : List Row). IsWhole g plan header logged) graphs (subst (λ (p : Plan). IsWhole w.graph p header logged) plans
      (subst (λ (h : Header). IsWhole w.graph w.plan h logged) said.0 (subst (λ (l : List Logged). IsWhole w.graph w.plan w.header l) said.1 w.whole))))

  told_verdict : (status : ℕ) (texts : Written) → TellsVerdict held (Some text) ratio table status texts
      → (verdict : AuditVerdict) × (is_whole verdict ≡ true) × (status ≡ audit_status verdict) × (texts ≡ on_screen (audit_text verdict))
  told_verdict status texts t = (t.verdict, judged_whole t.plan t.header t.logged t.verdict t.judged, t.status_is, t.shown)

  told_latencies : (status : ℕ) (texts : Written) → TellsLatencies held (Some text) ratio table status texts → status ≡ 0
  told_latencies status texts t =
      (told_exactly (is_whole t.verdict) status texts (ShowsSummary t.plan (events_of t.logged)) (λ (x : Written). x ≡ on_screen (audit_text t.verdict)) t.told).1
      (judged_whole t.plan t.header t.logged t.verdict t.judged)

-- ---- the commands that find it

module _ (files : Files) (folder name text : List ℕ) (ratio : ℕ) (table : FrequencyTable) (there : files name ≡ Some text) where
  -- what is so of the folder's files and of the text is so of what `audit` finds
  module _ (given : Given) (found : Found) where
    as_audit : (P : Held → Option (List ℕ) → Type 0) → IsFoundTold (Some files) given (Audit folder name ratio table) found → P (held_in folder files) (Some text) → P found.held found.beside
    as_audit P told p = subst (λ (h : Held). P h found.beside) (sym (told_files folder files found.held told.0)) (subst (P (held_in folder files)) (sym (told.1 ∙ there)) p)

    of_audit : (P : Held → Option (List ℕ) → Type 0) → IsFoundTold (Some files) given (Audit folder name ratio table) found → P found.held found.beside → P (held_in folder files) (Some text)
    of_audit P told p = subst (P (held_in folder files)) (told.1 ∙ there) (subst (λ (h : Held). P h found.beside) (told_files folder files found.held told.0) p)

    -- and of what `latency` finds
    as_latency : (P : Held → Option (List ℕ) → Type 0) → IsFoundTold (Some files) given (Latency folder name ratio table) found → P (held_in folder files) (Some text) → P found.held found.beside
    as_latency P told p = as_audit P (told.0, told.1, tt) p

    of_latency : (P : Held → Option (List ℕ) → Type 0) → IsFoundTold (Some files) given (Latency folder name ratio table) found → P found.held found.beside → P (held_in folder files) (Some text)
    of_latency P told p = of_audit P (told.0, told.1, tt) p

  module _ (clean : SaidLogIsClean) (w : IsWholeLog (held_in folder files) ratio table text) where
    fine_checks : NoneOf (plan_checks ratio table (held_in folder files) ++ log_checks (Some text))
    fine_checks = none_append (plan_checks ratio table (held_in folder files)) (log_checks (Some text)) w.clean (clean text w.header w.logged w.fits w.says)

    audit_fine : (given : Given) → IsSurelyFine (Some files) given (Audit folder name ratio table)
    audit_fine given found told = as_audit given found (λ held beside. NoneOf (plan_checks ratio table held ++ log_checks beside)) told fine_checks

    latency_fine : (given : Given) → IsSurelyFine (Some files) given (Latency folder name ratio table)
    latency_fine given found told = as_latency given found (λ held beside. NoneOf (plan_checks ratio table held ++ log_checks beside)) told fine_checks

    module _ (words_one : WordsAreOne) (law : RefusedOrNot) (one : AreOne) (log_one : LogSaysOne) (exactly : WholeExactly) (asked : Asked) (moments : Moments) (status : ℕ) (texts : Written) where
      audited : IsLineOf asked.words (Audit folder name ratio table) → IsCallAnswer asked (Some files) moments status texts
          → (verdict : AuditVerdict) × (is_whole verdict ≡ true) × (status ≡ audit_status verdict) × (texts ≡ on_screen (audit_text verdict))
      audited line (inl usage) = absurd (usage.1 (Audit folder name ratio table) (record { line = line; given = λ e. absurd cc }))
      audited line (inr (c, l, (found, told, inr bad))) =
          let same = words_one asked.words c (Audit folder name ratio table) l.line line in
          absurd (law c found bad.0 bad.1 (subst (λ (d : Command). NoneOf (checks_of d found)) (sym same) (audit_fine asked.given found (subst (λ (d : Command). IsFoundTold (Some files) asked.given d found) same told))))
      audited line (inr (c, l, (found, told, inl done))) =
          let same = words_one asked.words c (Audit folder name ratio table) l.line line in
          told_verdict one log_one exactly (held_in folder files) ratio table text w status texts
          (of_audit asked.given found (λ held beside. TellsVerdict held beside ratio table status texts) (subst (λ (d : Command). IsFoundTold (Some files) asked.given d found) same told)
          (subst (λ (d : Command). IsDone d found moments status texts) same done.1))

      measured : IsLineOf asked.words (Latency folder name ratio table) → IsCallAnswer asked (Some files) moments status texts → status ≡ 0
      measured line (inl usage) = absurd (usage.1 (Latency folder name ratio table) (record { line = line; given = λ e. absurd cc }))
      measured line (inr (c, l, (found, told, inr bad))) =
          let same = words_one asked.words c (Latency folder name ratio table) l.line line in
          absurd (law c found bad.0 bad.1 (subst (λ (d : Command). NoneOf (checks_of d found)) (sym same) (latency_fine asked.given found (subst (λ (d : Command). IsFoundTold (Some files) asked.given d found) same told))))
      measured line (inr (c, l, (found, told, inl done))) =
          let same = words_one asked.words c (Latency folder name ratio table) l.line line in
          told_latencies one log_one exactly (held_in folder files) ratio table text w status texts
          (of_latency asked.given found (λ held beside. TellsLatencies held beside ratio table status texts) (subst (λ (d : Command). IsFoundTold (Some files) asked.given d found) same told)
          (subst (λ (d : Command). IsDone d found moments status texts) same done.1))

-- what `run` answered with status 0 is a run of the files, with which nothing is wrong
done_run : CountsOfARun → WordsAreOne → (asked : Asked) (files : Files) (moments : Moments) (folder : List ℕ) (workers ratio : ℕ) (table : FrequencyTable) (texts : Written)
    → IsLineOf asked.words (Run folder workers ratio table) → IsCallAnswer asked (Some files) moments 0 texts → IsWholeLog (held_in folder files) ratio table texts.log
done_run counts one asked files moments folder workers ratio table texts line (inl usage) = (let e = usage.0 in absurd (omega (arith, e)))
done_run counts one asked files moments folder workers ratio table texts line (inr (c, l, (found, told, inr bad))) = (let e = bad.2.0 in absurd (omega (arith, e)))
done_run counts one asked files moments folder workers ratio table texts line (inr (c, l, (found, told, inl done))) =
    let same = one asked.words c (Run folder workers ratio table) l.line line in
    let told_here = subst (λ (d : Command). IsFoundTold (Some files) asked.given d found) same told in
    let clean = subst (λ (d : Command). NoneOf (checks_of d found)) same done.0 in
    let ran = subst (λ (d : Command). IsDone d found moments 0 texts) same done.1 in
    subst (λ (h : Held). IsWholeLog h ratio table texts.log) (told_files folder files found.held told_here.0) (run_whole counts found.held workers ratio table moments texts clean ran.1)

pub run_is_whole : WordsAreOne → RefusedOrNot → AreOne → LogSaysOne → SaidLogIsClean → WholeExactly → CountsOfARun → RunIsWhole
run_is_whole words_one law one log_one clean exactly counts asked files after moments folder name workers ratio table texts line answered there kept =
    let same : held_in folder after ≡ held_in folder files = (λ i file. kept file i) in
    let w : IsWholeLog (held_in folder after) ratio table texts.log =
    subst (λ (h : Held). IsWholeLog h ratio table texts.log) (sym same) (done_run counts words_one asked files moments folder workers ratio table texts line answered) in
    record {
      audit_fine = audit_fine after folder name texts.log ratio table there clean w;
      audited = audited after folder name texts.log ratio table there clean w words_one law one log_one exactly;
      latency_fine = latency_fine after folder name texts.log ratio table there clean w;
      measured = measured after folder name texts.log ratio table there clean w words_one law one log_one exactly;
    }
