-- Facts on what the commands that need a plan answer.
use Rattle.std.proofs.Common.{◌≡◌, ◌≤◌, ℕ, ◌+◌, List, [], ◌++◌, length, length-append, Option, None, Ok, Err, refl, sym, subst, ◌∙◌, Bool, true, false}
use Rattle.snb_base.specs.Moments.{Moments}
use Rattle.std.proofs.lemmas.List.Sorted.{length_permutation}
use Rattle.snb_base.specs.Outbox.{Written}
use Rattle.snb_base.specs.Shelf.{Files}
use Rattle.snb_runlog.specs.Laws.{ReadsBack}
use Rattle.snb_schema.specs.declared.limits.TheConstants.{MAX_BYTES}
use Rattle.snb_input_files.specs.declared.load.Load.{Load}
use Rattle.std.specs.Prelude.{MatchBool}
use Rattle.snb_schema.specs.declared.row.Row.{Row}
use Rattle.snb_schema.specs.Frequencies.{FrequencyTable}
use Rattle.snb_history.specs.declared.logged.Logged.{Logged}
use Rattle.snb_history.specs.RunTexts.{header_of, log_text}
use Rattle.snb_schema.specs.ScreenTexts.{summary_text}
use Rattle.snb_graph_model.specs.FinalText.{final_text}
use Rattle.snb_graph_model.specs.Graphs.{HasGained}
use Rattle.snb_history.specs.Rules.{IsComplete, IsLegal}
use Rattle.snb_plan.specs.Plans.{queries_in, schedule_of, updates_in, Plan}
use Rattle.snb_workers_replay.specs.Replay.{all_rows}
use Rattle.snb_tool_texts.specs.Answers.{answers_text}
use Rattle.snb_tool_words.specs.declared.command.Command.TheVariants.{Audit, Latency, Run, Trial}
use Rattle.snb_tool_outcome.specs.Inputs.{plan_checks}
use Rattle.snb_tool_outcome.specs.Found.{Given}
use Rattle.snb_walk.specs.declared.target.Pick.TheVariants.{Modulo}
use Rattle.snb_replica.specs.Counts.{logged_of}
use Rattle.snb_replica.specs.declared.outcome.Outcome.{Outcome}
use Rattle.snb_audit_model.specs.Miscounts.{IsFirstMiscount, events_of}
use Rattle.snb_replica.specs.Runs.{HasRun}
use Rattle.snb_tool_outcome.specs.declared.judged.Judged.{Judged}
use Rattle.snb_tool_outcome.specs.declared.input.Input.{Input}
use Rattle.snb_audit_model.specs.AuditVerdicts.{is_whole}
use Rattle.snb_auditor_log.specs.Laws.{WholeExactly}
use Rattle.snb_audit_model.specs.VerdictTexts.{audit_status, audit_text}
use Rattle.snb_tool_outcome.specs.Endings.{IsDoneWith, IsFinished}
use Rattle.snb_tool_outcome.specs.PlanEndings.{AreTexts, IsInputAnswer, IsJudgedAnswer, IsTrialInput}
use Rattle.snb_tool_outcome.specs.LogsDone.{ShowsSummary, IsJudgedLog}
use Rattle.snb_tool_outcome.specs.Runs.{LeavesTexts}
use Rattle.snb_tool_outcome.specs.Output.{on_screen}
use Rattle.snb_input_files.specs.declared.load.Load.TheVariants.{Refused, ReadFault, Memory}
use Rattle.snb_input_files.proofs.Laws.{first_anyway, first_later, none_append}
use Rattle.snb_audit_model.specs.declared.audited.Audited.{Audited}
use Rattle.snb_audit_model.specs.Audited.{IsAuditAnswer}
use Rattle.snb_audit_model.specs.LogFiles.{log_checks}
use Rattle.snb_tool_outcome.proofs.Laws.{any_told, beside_told}

-- ---- `run` and `trial`

-- a run answers what the loading of its input does, where that fails
module _ (contents : Option Files) (folder : List ℕ) (table : FrequencyTable) (given : Given) (moments : Moments) where
  pub run_not : (workers ratio : ℕ) (load : Load) → IsInputAnswer contents folder ratio table (Err load) → IsFinished (Run folder workers ratio table) contents given moments (Err load)
  run_not workers ratio (Refused r) h = (record { missing = None; pick = Modulo; held = h.0; beside = None }, (h.1, tt, tt), h.2)
  run_not workers ratio ReadFault h = tt
  run_not workers ratio Memory h = tt

-- a graph that has gained rows has so many
rows_after : (old more new : List Row) → HasGained old more new → length new ≡ length old + length more
rows_after old more new gained = sym (length_permutation new (old ++ more) gained.rows) ∙ length-append old more

pub run_done : (contents : Option Files) (folder : List ℕ) (workers ratio : ℕ) (table : FrequencyTable) (given : Given) (moments : Moments) (input : Input) (texts : Written) → IsInputAnswer contents folder ratio table (Ok input)
    → LeavesTexts workers input.graph input.plan moments texts → IsDoneWith (Run folder workers ratio table) contents given moments 0 texts
run_done contents folder workers ratio table given moments input texts h left =
    (record { missing = None; pick = Modulo; held = h.0; beside = None }, (h.1, tt, tt), h.2.clean, (refl, record { graph = input.graph; plan = input.plan; input = h.2.is; left = left }))

pub trial_done : (contents : Option Files) (size workers : ℕ) (given : Given) (moments : Moments) (input : Input) (texts : Written) → IsTrialInput size input → LeavesTexts workers input.graph input.plan moments texts
    → IsDoneWith (Trial size workers) contents given moments 0 texts
trial_done contents size workers given moments input texts is left =
    (record { missing = None; pick = Modulo; held = λ file. None; beside = None }, (tt, tt, tt), tt, (refl, record { plan = input.plan; is_plan = is.is_plan; left = subst (λ (g : List Row). LeavesTexts workers g input.plan moments texts) is.same left }))

-- the texts of what a run left, where the final graph has the rows of the dataset and of each insert
pub run_shown : (workers : ℕ) (input : Input) (moments : Moments) (o : Outcome) (texts : Written) → HasRun workers input.plan moments input.graph o.events o.replies o.graph
    → IsFirstMiscount input.graph input.plan (logged_of o.replies o.events) None
    → ReadsBack (header_of workers (length input.plan.operations)) (logged_of o.replies o.events)
    → length (log_text workers (length input.plan.operations) (logged_of o.replies o.events)) ≤ MAX_BYTES → AreTexts workers input.plan o texts → LeavesTexts workers input.graph input.plan moments texts
run_shown workers input moments o texts ran counted back fits shown = record {
  history = o.events;
  replies = o.replies;
  final = o.graph;
  ran = ran;
  counted = counted;
  read_back = back;
  fits = fits;
  shown = shown ∙ (λ i. record {
    screen = summary_text (length input.plan.operations) (length (updates_in input.plan)) (length (queries_in input.plan)) (rows_after input.graph (all_rows input.plan) o.graph ran.final i);
    log = log_text workers (length input.plan.operations) (logged_of o.replies o.events);
    answers = answers_text o.replies;
    finals = final_text o.graph;
    cases = [];
  });
}

-- ---- `audit` and `latency`

module _ (contents : Option Files) (folder log : List ℕ) (ratio : ℕ) (table : FrequencyTable) where
  pub judged_no_input : (load : Load) → IsInputAnswer contents folder ratio table (Err load) → IsJudgedAnswer contents folder log ratio table (Err load)
  judged_no_input (Refused r) h =
      let b = any_told contents log in
      (h.0, b.0, h.1, b.1, first_anyway (plan_checks ratio table h.0) (log_checks b.0) r h.2)
  judged_no_input ReadFault h = tt
  judged_no_input Memory h = tt

  pub judged_by_log : (input : Input) (audited : Audited) (judged : Judged) → judged.plan ≡ input.plan → judged.audited ≡ audited → IsInputAnswer contents folder ratio table (Ok input)
      → IsAuditAnswer input.graph input.plan contents log (Ok audited) → IsJudgedAnswer contents folder log ratio table (Ok judged)
  judged_by_log input audited judged plans audits h a = (
    h.0,
    a.0,
    h.1,
    a.1,
    none_append (plan_checks ratio table h.0) (log_checks a.0) h.2.clean a.2.clean,
    subst (λ (p : Plan). IsJudgedLog h.0 a.0 ratio table p judged.audited.log.header judged.audited.log.logged.items judged.audited.verdict) (sym plans)
        (subst (λ (x : Audited). IsJudgedLog h.0 a.0 ratio table input.plan x.log.header x.log.logged.items x.verdict) (sym audits)
        (record { graph = input.graph; input = h.2.is; log = a.2.says; judged = a.2.judged })),
  )

  pub judged_no_log : (input : Input) (load : Load) → IsInputAnswer contents folder ratio table (Ok input)
      → IsAuditAnswer input.graph input.plan contents log (Err load) → IsJudgedAnswer contents folder log ratio table (Err load)
  judged_no_log input (Refused r) h a = (h.0, a.0, h.1, a.1, first_later (plan_checks ratio table h.0) (log_checks a.0) r h.2.clean a.2)
  judged_no_log input ReadFault h a = tt
  judged_no_log input Memory h a = tt

module _ (contents : Option Files) (folder log : List ℕ) (ratio : ℕ) (table : FrequencyTable) (given : Given) (moments : Moments) where
  pub audit_not : (load : Load) → IsJudgedAnswer contents folder log ratio table (Err load) → IsFinished (Audit folder log ratio table) contents given moments (Err load)
  audit_not (Refused r) h = (record { missing = None; pick = Modulo; held = h.0; beside = h.1 }, (h.2, beside_told contents log h.1 h.3, tt), h.4)
  audit_not ReadFault h = tt
  audit_not Memory h = tt

  pub audit_done : (judged : Judged) (status : ℕ) (texts : Written) → IsJudgedAnswer contents folder log ratio table (Ok judged) → status ≡ audit_status judged.audited.verdict
      → texts ≡ on_screen (audit_text judged.audited.verdict) → IsDoneWith (Audit folder log ratio table) contents given moments status texts
  audit_done judged status texts h s e = (
    record { missing = None; pick = Modulo; held = h.0; beside = h.1 },
    (h.2, beside_told contents log h.1 h.3, tt),
    h.4,
    record {
      plan = judged.plan;
      header = judged.audited.log.header;
      logged = judged.audited.log.logged.items;
      verdict = judged.audited.verdict;
      judged = h.5;
      status_is = s;
      shown = e;
    },
  )

  pub latency_not : (load : Load) → IsJudgedAnswer contents folder log ratio table (Err load) → IsFinished (Latency folder log ratio table) contents given moments (Err load)
  latency_not (Refused r) h = (record { missing = None; pick = Modulo; held = h.0; beside = h.1 }, (h.2, beside_told contents log h.1 h.3, tt), h.4)
  latency_not ReadFault h = tt
  latency_not Memory h = tt

  latency_done : (judged : Judged) (status : ℕ) (texts : Written) → IsJudgedAnswer contents folder log ratio table (Ok judged)
      → MatchBool (is_whole judged.audited.verdict) ((status ≡ 0) × ShowsSummary judged.plan (events_of judged.audited.log.logged.items) texts)
      ((status ≡ 1) × (texts ≡ on_screen (audit_text judged.audited.verdict)))
      → IsDoneWith (Latency folder log ratio table) contents given moments status texts
  latency_done judged status texts h told = (
    record { missing = None; pick = Modulo; held = h.0; beside = h.1 },
    (h.2, beside_told contents log h.1 h.3, tt),
    h.4,
    record {
      plan = judged.plan;
      header = judged.audited.log.header;
      logged = judged.audited.log.logged.items;
      verdict = judged.audited.verdict;
      judged = h.5;
      told = told;
    },
  )

  -- what is shown of the log of a whole run
  pub latency_summed : (judged : Judged) (status : ℕ) (texts shown : Written) (logged : List Logged) → IsJudgedAnswer contents folder log ratio table (Ok judged)
      → is_whole judged.audited.verdict ≡ true → logged ≡ judged.audited.log.logged.items → status ≡ 0 → texts ≡ shown → ShowsSummary judged.plan (events_of logged) shown
      → IsDoneWith (Latency folder log ratio table) contents given moments status texts
  latency_summed judged status texts shown logged h whole same zero e shows =
      latency_done judged status texts h
      (subst (λ (b : Bool). MatchBool b ((status ≡ 0) × ShowsSummary judged.plan (events_of judged.audited.log.logged.items) texts) ((status ≡ 1) × (texts ≡ on_screen (audit_text judged.audited.verdict)))) (sym whole)
      (zero, subst (λ (xs : List Logged). ShowsSummary judged.plan (events_of xs) texts) same (subst (λ (t : Written). ShowsSummary judged.plan (events_of logged) t) (sym e) shows)))

  -- and of any other
  pub latency_judged : (judged : Judged) (status : ℕ) (texts : Written) → IsJudgedAnswer contents folder log ratio table (Ok judged)
      → is_whole judged.audited.verdict ≡ false → status ≡ 1 → texts ≡ on_screen (audit_text judged.audited.verdict)
      → IsDoneWith (Latency folder log ratio table) contents given moments status texts
  latency_judged judged status texts h whole one e =
      latency_done judged status texts h
      (subst (λ (b : Bool). MatchBool b ((status ≡ 0) × ShowsSummary judged.plan (events_of judged.audited.log.logged.items) texts) ((status ≡ 1) × (texts ≡ on_screen (audit_text judged.audited.verdict)))) (sym whole)
      (one, e))

module _ (contents : Option Files) (folder log : List ℕ) (ratio : ℕ) (table : FrequencyTable) where
  -- a log that is judged to be that of a whole run has a legal, complete history
  pub judged_whole : WholeExactly → (judged : Judged) → IsJudgedAnswer contents folder log ratio table (Ok judged) → is_whole judged.audited.verdict ≡ true
      → ((workers : ℕ) × IsLegal (schedule_of judged.plan) workers (events_of judged.audited.log.logged.items)) × IsComplete (schedule_of judged.plan) (events_of judged.audited.log.logged.items)
  judged_whole exactly judged h is =
      let run = (exactly h.5.graph judged.plan judged.audited.log.header judged.audited.log.logged.items judged.audited.verdict h.5.judged).0 is in
      ((judged.audited.log.header.workers, run.legal), run.complete)
