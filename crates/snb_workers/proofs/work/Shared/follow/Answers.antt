-- The replica has taken the events after those that it stood for, or some of them.
use Rattle.std.proofs.Common.{◌≡◌, ◌∙◌, ℕ, ◌≤◌, List, ◌++◌, [], drop, ap, subst, sym}
use Rattle.std.proofs.lemmas.Result.{on_ok_weaker}
use Rattle.snb_history.specs.declared.event.Event.{Event as AnyEvent}
use Rattle.snb_schema.specs.declared.limits.TheConstants.{MAX_WORKERS}
use Rattle.snb_board.specs.Boards.{Site}
use Rattle.snb_workers.proofs.WorkFollow.{abreast, followed}
use Rattle.snb_workers.proofs.work.Shared.follow.Goals as goal

-- the events are those past the replica's front
events_are : (events items none seen : List AnyEvent) (front at : ℕ) → events ≡ items → items ≡ none ++ drop front seen → none ≡ [] → front ≡ at → events ≡ drop at seen
events_are events items none seen front at is read empty here = is ∙ (read ∙ (ap (λ (l : List AnyEvent). l ++ drop front seen) empty ∙ ap (λ (n : ℕ). drop n seen) here))

few_at : (here board : Site) (count : ℕ) → here ≡ board → count ≡ board.workers → count ≤ MAX_WORKERS → here.workers ≤ MAX_WORKERS
few_at here board count same is few = subst (λ (n : ℕ). n ≤ MAX_WORKERS) (is ∙ ap (λ (z : Site). z.workers) (sym same)) few

pub returns-clause-followed : goal.returns-clause-followed
returns-clause-followed g c =
    followed c.args.self.now.plan.now c.args.seat.now c.catch_up.new.seat c.args.replica.now c.advance.new.self c.catch_up.ensures.call c.requires.schedule
    (few_at c.args.seat.now.site c.args.self.now.board.now c.workers.result c.requires.board c.workers.ensures.value c.workers.ensures.few) c.deref.result.now
    (events_are c.deref.result.now c.catch_up.new.into.items c.new-events.result.items c.catch_up.new.seat.seen c.front.result c.args.replica.now.front c.deref.ensures.value c.in_ok-catch_up.ensures.ok.1 c.new-events.ensures.items c.front.ensures)
    c.advance.result c.advance.ensures.ok c.advance.ensures.err c.requires.following

pub returns-clause-ok : goal.returns-clause-ok
returns-clause-ok g c =
    on_ok_weaker c.advance.result
    (abreast c.args.self.now.plan.now c.args.seat.now c.catch_up.new.seat c.args.replica.now c.advance.new.self c.catch_up.ensures.call c.requires.schedule
    (few_at c.args.seat.now.site c.args.self.now.board.now c.workers.result c.requires.board c.workers.ensures.value c.workers.ensures.few) c.deref.result.now
    (events_are c.deref.result.now c.catch_up.new.into.items c.new-events.result.items c.catch_up.new.seat.seen c.front.result c.args.replica.now.front c.deref.ensures.value c.in_ok-catch_up.ensures.ok.1 c.new-events.ensures.items c.front.ensures))
    c.advance.ensures.ok
