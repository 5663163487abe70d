use Rattle.std.proofs.Common.{◌∙◌, refl, subst}
use Rattle.std.specs.List.{All}
use Rattle.std.proofs.lemmas.Bool.{false≢true}
use Rattle.std.proofs.lemmas.List.Elements.{All-push}
use Rattle.snb_schema.proofs.Laws.{walked_all, walked_to}
use Rattle.snb_plan.specs.Added.{IsMetAt}
use Rattle.snb_plan.proofs.closed.first_unmet.Goals as goal

pub returns-then-not-is_met : goal.returns-then-not-is_met
returns-then-not-is_met g c =
    record {
      front = c.loop-node.yielded;
      rest = c.next.new.self;
      splits = walked_to c.into_iter-node-iterator.result c.loop-node.yielded c.loop-node.node-iterator c.next.new.self c.next.result c.in-Some.node c.loop-node.yielded_by c.in-Some.is
          c.next.ensures.steps ∙ c.into_iter-node-iterator.ensures.into_iter_gives ∙ c.refs_of-node-items.ensures;
      before = c.loop-node.invariant;
      unmet = λ met. false≢true (c.if-not-is_met.ensures.1 met);
    }

pub loop-node-preserved : goal.loop-node-preserved
loop-node-preserved g c =
    All-push (IsMetAt (g.H.Held.holds c.args.held.now) c.args.added.now c.args.lane c.args.line.now.t_d) c.loop-node.yielded c.in-Some.node c.loop-node.invariant (c.if-not-is_met.ensures.0 refl)

pub returns : goal.returns
returns g c =
    subst (All (IsMetAt (g.H.Held.holds c.args.held.now) c.args.added.now c.args.lane c.args.line.now.t_d))
    (walked_all c.into_iter-node-iterator.result c.loop-node.yielded c.loop-node.node-iterator c.next.new.self c.next.result c.loop-node.yielded_by c.in-None.is c.next.ensures.steps
    ∙ c.into_iter-node-iterator.ensures.into_iter_gives ∙ c.refs_of-node-items.ensures) c.loop-node.invariant
