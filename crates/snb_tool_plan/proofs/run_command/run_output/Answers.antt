use Rattle.std.proofs.Common.{All, List, ◌≤◌, subst}
use Rattle.std.proofs.lemmas.Result.{IfOk-weaker}
use Rattle.snb_history.specs.Schedule.{IsPlanned}
use Rattle.snb_runlog.specs.declared.columns.TheConstants.{MAX_NUMBER}
use Rattle.snb_answered.specs.declared.done.Answered.{Answered}
use Rattle.snb_replica.specs.Counts.{logged_of}
use Rattle.snb_tool_outcome.specs.Endings.{bytes_of}
use Rattle.snb_tool_plan.proofs.LogLemmas.{no_miscount, run_back, run_fits}
use Rattle.snb_tool_plan.proofs.PlanLemmas.{run_shown}
use Rattle.snb_tool_plan.proofs.run_command.run_output.Goals as goal

pub returns : goal.returns
returns g c =
    let outcome = c.in_ok-outcome.outcome in
    let ran = c.in_ok-outcome.ensures.ran in
    let back =
    run_back c.log_reads_back.ensures.run c.legal_is_short.ensures c.args.input.plan c.args.workers outcome.events outcome.replies ran.legal c.requires.workers c.requires.few
    (subst IsPlanned c.schedule.ensures c.steps.ensures.planned) (subst (λ (replies : List Answered). All (λ a. a.rows ≤ MAX_NUMBER) replies) c.as_slice.ensures c.known_counts.ensures) in
    let fits =
    run_fits c.legal_is_short.ensures c.args.input.plan c.args.workers outcome.events outcome.replies ran.legal c.requires.few
    (subst IsPlanned c.schedule.ensures c.steps.ensures.planned) (subst (λ (replies : List Answered). All (λ a. a.rows ≤ MAX_NUMBER) replies) c.as_slice.ensures c.known_counts.ensures) in
    let right =
    no_miscount c.one_count.ensures c.args.input.graph c.args.input.plan c.args.workers outcome.events (logged_of outcome.replies outcome.events) c.known.ensures c.requires.sound
    (record { of_streams = c.known-2.ensures; closed = c.requires.closed }) ran.legal
    (c.counts_of_a_run.ensures c.args.workers c.args.input.plan (g.C.Clock.moments c.args.clock.now) c.args.input.graph outcome.events outcome.replies outcome.graph ran) in
    IfOk-weaker c.texts_of.result _ _ (λ output shown. run_shown c.args.workers c.args.input (g.C.Clock.moments c.args.clock.now) outcome (bytes_of output) ran right back fits shown) c.texts_of.ensures

pub texts_of-requires : goal.texts_of-requires
texts_of-requires g c = record { some = c.requires.workers; few = c.requires.few; legal = c.in_ok-outcome.ensures.ran.legal }
