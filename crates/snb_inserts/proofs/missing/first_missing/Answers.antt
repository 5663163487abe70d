use Rattle.std.proofs.Common.{◌∙◌, subst, refl}
use Rattle.std.specs.List.{All}
use Rattle.std.proofs.lemmas.Bool.{false≢true}
use Rattle.std.proofs.lemmas.List.Elements.{All-push}
use Rattle.snb_schema.proofs.Laws.{walked_all, walked_to}
use Rattle.snb_inserts.specs.Applying.{IsThere}
use Rattle.snb_inserts.proofs.missing.first_missing.Goals as goal

pub returns-then-not-has : goal.returns-then-not-has
returns-then-not-has c =
    record {
      before = c.loop-node.yielded;
      after = c.next.new.self;
      splits = walked_to c.into_iter-node-iterator.result c.loop-node.yielded c.loop-node.node-iterator c.next.new.self c.next.result c.in-Some.node c.loop-node.yielded_by c.in-Some.is
          c.next.ensures.steps ∙ c.into_iter-node-iterator.ensures.into_iter_gives ∙ c.refs_of-node-items.ensures;
      there = c.loop-node.invariant;
      lacking = λ there. false≢true (c.if-not-has.ensures.1 there);
    }

pub loop-node-preserved : goal.loop-node-preserved
loop-node-preserved c = All-push (IsThere c.args.graph.now) c.loop-node.yielded c.in-Some.node c.loop-node.invariant (c.if-not-has.ensures.0 refl)

pub returns : goal.returns
returns c =
    subst (All (IsThere c.args.graph.now))
    (walked_all c.into_iter-node-iterator.result c.loop-node.yielded c.loop-node.node-iterator c.next.new.self c.next.result c.loop-node.yielded_by c.in-None.is c.next.ensures.steps
    ∙ c.into_iter-node-iterator.ensures.into_iter_gives ∙ c.refs_of-node-items.ensures) c.loop-node.invariant
