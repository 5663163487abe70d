use Rattle.snb_handlers.specs.Table.{kinds}
use Rattle.snb_tool.specs.Connectors.{connector_of}
use Rattle.snb_tool_outcome.specs.Outcome.{with}
use Rattle.snb_tool_words.specs.Words.{texts_of}
use Rattle.std.proofs.Common.{Some, ◌∙◌}
use Rattle.snb_tool.proofs.Served.{may_anyhow, served}
use Rattle.snb_tool.proofs.tool.snb_with.Goals as goal

pub answer_waiting-requires-clause-waiting : goal.answer_waiting-requires-clause-waiting
answer_waiting-requires-clause-waiting g c = λ κs lives. λ command line. c.waits.ensures command line ∙ c.if-waits.true

pub answer_waiting-requires-clause-allowed : goal.answer_waiting-requires-clause-allowed
answer_waiting-requires-clause-allowed g c = λ κs lives. λ given.
    may_anyhow (texts_of c.args.words.now) (λ command line. c.waits.ensures command line ∙ c.if-waits.true) (g.S.Shelf.may c.args.shelf.now) (Some (connector_of c.args.handlers.now c.args.policy.now)) given c.requires.allowed

pub snb_still-requires : goal.snb_still-requires
snb_still-requires g c = record {
  still = λ command line. c.waits.ensures command line ∙ c.if-waits.false;
  allowed = c.requires.allowed;
}

pub returns-then-waits : goal.returns-then-waits
returns-then-waits g c =
    let given = Some (connector_of c.args.handlers.now c.args.policy.now) in
    served g.S.Shelf g.O.Outbox (g.C.Clock.moments c.args.clock.now) (with c.args.words.now (kinds c.args.handlers.now) c.args.policy.now.pick) c.args.shelf.now c.answer_waiting.new.shelf c.args.out.now c.answer_waiting.new.out c.answer_waiting.result
    c.answers_have_status.ensures c.one_command.ensures c.refusal_is_one.ensures.one c.refusal_is_one.ensures.or_not
    (c.answer_waiting.ensures.ends given) (c.answer_waiting.ensures.other_line given) (c.answer_waiting.ensures.unread given)
    c.answer_waiting.ensures.read_only c.answer_waiting.ensures.reads_calm c.answer_waiting.ensures.writes_later c.answer_waiting.ensures.writes_calm

pub returns : goal.returns
returns g c = c.snb_still.ensures (g.C.Clock.moments c.args.clock.now)
