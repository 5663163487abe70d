use Rattle.std.proofs.Common.{◌+◌, ◌++◌, ◌∷◌, [], sym, subst}
use Rattle.snb_inserts.specs.Applying.{IsWelcome}
use Rattle.snb_replica.specs.declared.replica.Replica.TheInside.{Inside}
use Rattle.snb_replica.specs.Replicas.{StandsFor, Taken}
use Rattle.snb_replica.proofs.Following.{finish_within, stands_on, stands_with, welcome_now}
use Rattle.snb_replica.proofs.replica.Replica.take.Goals as goal
use Rattle.snb_replica.proofs.replica.Replica.take.Goals.{in-Some+in_ok-apply_welcome, in_default}

pub finished_line-requires-clause-there : goal.finished_line-requires-clause-there
finished_line-requires-clause-there c =
    let may = c.requires.may in finish_within c.args.plan.now may.2.workers may.1 c.args.event.now may.2.legal

pub apply_welcome-requires-clause-welcome : goal.apply_welcome-requires-clause-welcome
apply_welcome-requires-clause-welcome c =
    let may = c.requires.may in
    subst (λ (t : Taken). IsWelcome t.graph c.in-Some.line.now.op) (sym c.self.view_is)
    (welcome_now c.args.event.now c.in-Some.line.now.op c.replay_is_welcome.ensures.welcome c.requires.streams may.2 c.in-Some.ensures.0)

pub returns-clause-ok : goal.returns-clause-ok
returns-clause-ok c = elim c.match-finished_line.branch [
  | in-Some+in_ok-apply_welcome w ↦ λ base g may.
      subst (λ (r : Inside). StandsFor base c.args.plan.now (g ++ c.args.event.now ∷ []) (record { graph = r.graph; front = r.front + 1 })) (sym w.self-inside-is)
      (stands_with c.args.event.now w.in-Some.line.now.op w.apply_welcome.new.graph (subst (StandsFor base c.args.plan.now g) (sym c.self.view_is) may.stands) w.in-Some.ensures.0 w.in_ok-apply_welcome.ensures.gained)
  | in_default w ↦ λ base g may.
      subst (λ (r : Inside). StandsFor base c.args.plan.now (g ++ c.args.event.now ∷ []) (record { graph = r.graph; front = r.front + 1 })) (sym w.self-inside-is)
      (stands_on c.args.event.now (subst (StandsFor base c.args.plan.now g) (sym c.self.view_is) may.stands) w.in_default.ensures)
]
