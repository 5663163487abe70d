use Rattle.std.proofs.Common.{◌≡◌, ◌∙◌, ◌+◌, ◌++◌, ◌∷◌, [], List, ap, sym, subst, take, get_or}
use Rattle.snb_history.specs.Schedule.{no_step}
use Rattle.snb_plan.specs.declared.added.Added.{Added}
use Rattle.std.proofs.lemmas.List.{take_all}
use Rattle.snb_history.specs.declared.step.Step.{Step}
use Rattle.snb_plan.specs.Added.{update_of}
use Rattle.snb_plan.specs.Closed.{Update}
use Rattle.snb_plan.specs.Scheduled.{updates_at}
use Rattle.snb_plan.proofs.ClosedLemmas.{Stands, stands_none}
use Rattle.snb_plan.proofs.Walking.{Follows, closed_end, follows_at, more_read, more_update, stands_more, tried, updates_rise, wrong_next}
use Rattle.snb_plan.proofs.plan.check_steps.Goals.{then-not-step+in_ok-check_update, else-not-step}
use Rattle.snb_plan.proofs.plan.check_steps.Goals as goal
use Rattle.snb_schema.proofs.Laws.{passed_on}

pub loop-step-init : goal.loop-step-init
loop-step-init g c = stands_none (g.H.Held.holds c.args.held.now) (updates_at c.args.lanes.now c.args.steps.now) c.new-added.result c.new-added.ensures

pub returns-clause-ok : goal.returns-clause-ok
returns-clause-ok g c =
    closed_end (g.H.Held.holds c.args.held.now) (updates_at c.args.lanes.now c.args.steps.now) c.loop-step.added
    (subst (λ (steps : List Step). Stands (g.H.Held.holds c.args.held.now) (updates_at c.args.lanes.now c.args.steps.now) (updates_at c.args.lanes.now steps) c.loop-step.added)
    (take_all c.loop-step.step-index c.args.steps.now c.loop-step-test.false) c.loop-step.invariant)

pub returns-in_err-check_update-clause-bad : goal.returns-in_err-check_update-clause-bad
returns-in_err-check_update-clause-bad g c =
    let holds = g.H.Held.holds c.args.held.now in
    let lanes = c.args.lanes.now in
    let steps = c.args.steps.now in
    let k = c.loop-step.step-index in
    let step = get_or steps k no_step in
    let update = c.if-not-step.true in
    let line = c.index-lane_of-step.result in
    let same = tried lanes step c.file_of-file.result c.lane_of.result.now line c.file_of-file.ensures c.lane_of.ensures (c.requires.kept k c.loop-step-test.true update).within c.index-lane_of-step.is in
    let follows = subst (λ (u : Update). Follows (updates_at lanes steps) (updates_at lanes (take k steps)) u) same (follows_at lanes steps k no_step c.loop-step-test.true update) in
    passed_on c.from_residual.result c.in_err-check_update.field-0.0 _ _ c.from_residual.ensures.1 c.in_err-check_update.ensures.bad
    (λ r wrong. wrong_next holds (updates_at lanes steps) (updates_at lanes (take k steps)) (update_of step.lane c.file_of-file.result line) c.loop-step.added r
    (updates_rise lanes steps c.requires.kept c.requires.rises) follows c.loop-step.invariant wrong)

pub loop-step-preserved : goal.loop-step-preserved
loop-step-preserved g c =
    let holds = g.H.Held.holds c.args.held.now in
    let lanes = c.args.lanes.now in
    let steps = c.args.steps.now in
    let all = updates_at lanes steps in
    let k = c.loop-step.step-index in
    let lt = c.loop-step-test.true in
    let before = updates_at lanes (take k steps) in
    let step = get_or steps k no_step in
    elim c.if-not-step.branch [
      | then-not-step+in_ok-check_update w ↦
          let update = w.if-not-step.true in
          let line = w.index-lane_of-step.result in
          let same = tried lanes step w.file_of-file.result w.lane_of.result.now line w.file_of-file.ensures w.lane_of.ensures (c.requires.kept k lt update).within w.index-lane_of-step.is in
          let follows = subst (λ (u : Update). Follows all before u) same (follows_at lanes steps k no_step lt update) in
          let more = stands_more holds all before (update_of step.lane w.file_of-file.result line) c.loop-step.added w.check_update.new.added follows c.loop-step.invariant
          w.in_ok-check_update.ensures.fine w.in_ok-check_update.ensures.more in
          let next : before ++ update_of step.lane w.file_of-file.result line ∷ [] ≡ updates_at lanes (take (k + 1) steps) =
          ap (λ (u : Update). before ++ u ∷ []) (sym same) ∙ sym (more_update lanes steps k no_step lt update) in
          subst (λ (a : Added). Stands holds all (updates_at lanes (take (k + 1) steps)) a) (sym w.added-is)
          (subst (λ (us : List Update). Stands holds all us w.check_update.new.added) next more)
      | else-not-step w ↦
          let read = w.if-not-step.false in
          subst (λ (a : Added). Stands holds all (updates_at lanes (take (k + 1) steps)) a) (sym w.added-is)
          (subst (λ (us : List Update). Stands holds all us c.loop-step.added) (sym (more_read lanes steps k no_step lt read)) c.loop-step.invariant)
    ]
