use Rattle.std.proofs.Common.{◌∙◌, ap, arith}
use Rattle.snb_handlers.specs.Table.{kinds}
use Rattle.snb_tool_words.specs.Words.{texts_of}
use Rattle.snb_edge.proofs.Started.{as_started, grown, may_ask, registered, whole}
use Rattle.snb_edge.proofs.program.obey.Goals as goal

pub loop-kind-preserved : goal.loop-kind-preserved
loop-kind-preserved g c =
    grown c.loop-kind.handlers c.register.new.self c.new-in-loop-kind.result c.loop-kind.kind-index _
    (registered c.register.result c.is_err.result c.is_err.ensures.value c.if-is_err.false c.register.ensures.ok)
    c.loop-kind.invariant (omega (arith, c.loop-kind-test.true)) c.new-in-loop-kind.ensures

pub snb_with-requires-clause-allowed : goal.snb_with-requires-clause-allowed
snb_with-requires-clause-allowed g c κs within =
    may_ask c.deref.result.now (kinds c.loop-kind.handlers) c.new-policy.result.pick c.in_ok-texts.texts
    (ap texts_of c.deref.ensures.value ∙ c.in_ok-words.ensures) (whole (kinds c.loop-kind.handlers) c.loop-kind.kind-index c.loop-kind.invariant (omega (arith, c.loop-kind-test.false, c.loop-kind.auto.kind-index-end))) c.new-policy.ensures
    (g.S.Shelf.may c.args.shelf.now) (c.requires.allowed c.in_ok-texts.texts c.in_ok-texts.ensures)

pub returns-clause-ok : goal.returns-clause-ok
returns-clause-ok g c = record {
  texts = c.in_ok-texts.texts;
  words = c.in_ok-texts.ensures;
  served = as_started c.deref.result.now (kinds c.loop-kind.handlers) c.new-policy.result.pick c.in_ok-texts.texts
      (ap texts_of c.deref.ensures.value ∙ c.in_ok-words.ensures) (whole (kinds c.loop-kind.handlers) c.loop-kind.kind-index c.loop-kind.invariant (omega (arith, c.loop-kind-test.false, c.loop-kind.auto.kind-index-end))) c.new-policy.ensures
      g.S.Shelf g.O.Outbox (g.C.Clock.moments c.args.clock.now) c.args.shelf.now c.snb_with.new.shelf c.args.out.now c.snb_with.new.out c.snb_with.result c.snb_with.ensures;
}
