use Rattle.snb_tool_outcome.specs.Outcome.{alone}
use Rattle.snb_tool_words.specs.Words.{texts_of}
use Rattle.std.proofs.Common.{None, ◌∙◌}
use Rattle.snb_tool.proofs.Served.{may_anyhow, served}
use Rattle.snb_tool.proofs.tool.snb.Goals as goal

pub answer_waiting-requires-clause-waiting : goal.answer_waiting-requires-clause-waiting
answer_waiting-requires-clause-waiting g c = λ κs lives. λ command line. c.waits.ensures command line ∙ c.if-waits.true

pub answer_waiting-requires-clause-allowed : goal.answer_waiting-requires-clause-allowed
answer_waiting-requires-clause-allowed g c = λ κs lives. λ given.
    may_anyhow (texts_of c.args.words.now) (λ command line. c.waits.ensures command line ∙ c.if-waits.true) (g.S.Shelf.may c.args.shelf.now) None given c.requires.allowed

pub answer-requires : goal.answer-requires
answer-requires g c = record {
  still = λ command line. c.waits.ensures command line ∙ c.if-waits.false;
  allowed = c.requires.allowed;
}

pub returns-then-waits : goal.returns-then-waits
returns-then-waits g c =
    served g.S.Shelf g.O.Outbox (g.C.Clock.moments c.args.clock.now) (alone c.args.words.now) c.args.shelf.now c.answer_waiting.new.shelf c.args.out.now c.answer_waiting.new.out c.answer_waiting.result
    c.answers_have_status.ensures c.one_command.ensures c.refusal_is_one.ensures.one c.refusal_is_one.ensures.or_not
    (c.answer_waiting.ensures.ends None) (c.answer_waiting.ensures.other_line None) (c.answer_waiting.ensures.unread None)
    c.answer_waiting.ensures.read_only c.answer_waiting.ensures.reads_calm c.answer_waiting.ensures.writes_later c.answer_waiting.ensures.writes_calm

pub returns : goal.returns
returns g c =
    served g.S.Shelf g.O.Outbox (g.C.Clock.moments c.args.clock.now) (alone c.args.words.now) c.args.shelf.now c.answer.new.shelf c.args.out.now c.answer.new.out c.answer.result
    c.answers_have_status.ensures c.one_command.ensures c.refusal_is_one.ensures.one c.refusal_is_one.ensures.or_not
    (c.answer.ensures.ends (g.C.Clock.moments c.args.clock.now)) c.answer.ensures.other_line c.answer.ensures.unread
    c.answer.ensures.read_only c.answer.ensures.reads_calm c.answer.ensures.writes_later c.answer.ensures.writes_calm
