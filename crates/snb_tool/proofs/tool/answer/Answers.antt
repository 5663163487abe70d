use Rattle.std.proofs.Common.{inl, inr, refl, ap}
use Rattle.snb_tool_outcome.specs.Endings.{asked_by}
use Rattle.snb_tool.specs.Connectors.{given_by}
use Rattle.snb_tool_outcome.specs.Outcome.{IsCallAnswer, IsAsked, IsCommandAnswer}
use Rattle.snb_tool_outcome.specs.Output.{on_screen}
use Rattle.snb_tool_outcome.specs.Outside.{GivenUp}
use Rattle.snb_tool.proofs.AskedLemmas.{reads_nothing}
use Rattle.snb_tool.proofs.OutcomeLemmas.{delivers_ends, ends_weaker, finished_calm, finished_ends}
use Rattle.snb_tool.proofs.tool.answer.Goals as goal

pub obey-answer-requires-clause-still : goal.obey-answer-requires-clause-still
obey-answer-requires-clause-still g c =
    let asked : IsAsked (asked_by c.args.words.now (given_by c.args.given)) c.in-Ok-Some.command = rw c.in-Ok-Some.field-0-is at c.in-Ok-Some.ensures.is in
    c.requires.still c.in-Ok-Some.command asked.line

pub obey-answer-requires-clause-allowed : goal.obey-answer-requires-clause-allowed
obey-answer-requires-clause-allowed g c = c.requires.allowed c.in-Ok-Some.command (rw c.in-Ok-Some.field-0-is at c.in-Ok-Some.ensures.is)

pub returns-in-Ok-Some-clause-ends : goal.returns-in-Ok-Some-clause-ends
returns-in-Ok-Some-clause-ends g c = λ moments.
    ends_weaker (IsCommandAnswer (given_by c.args.given) c.in-Ok-Some.command) (IsCallAnswer (asked_by c.args.words.now (given_by c.args.given))) _ _ _
    (λ s texts b. inr (c.in-Ok-Some.command, (rw c.in-Ok-Some.field-0-is at c.in-Ok-Some.ensures.is), b))
    (finished_ends g.O.Outbox c.args.out.now c.finish.new.out _ _ _ _ moments _ _ (given_by c.args.given) c.in-Ok-Some.command c.obey-answer.result c.finish.result (c.obey-answer.ensures.answer moments) c.obey-answer.ensures.read.told c.finish.ensures.finished)

pub returns-in-Ok-Some-clause-reads_calm : goal.returns-in-Ok-Some-clause-reads_calm
returns-in-Ok-Some-clause-reads_calm g c = finished_calm g.O.Outbox c.args.out.now c.finish.new.out c.obey-answer.result c.finish.result _ _ c.finish.ensures.finished c.obey-answer.ensures.read.told

pub returns-in-Ok-None-clause-ends : goal.returns-in-Ok-None-clause-ends
returns-in-Ok-None-clause-ends g c = λ moments.
    delivers_ends g.O.Outbox c.args.out.now c.show_as.new.out _ _ _ _ moments _ _ (IsCallAnswer (asked_by c.args.words.now (given_by c.args.given))) 2 (on_screen c.as_bytes.result.now) _ (inl (refl, (rw c.in-Ok-None.field-0-is at c.in-Ok-None.ensures.is), ap on_screen c.as_bytes.ensures.value)) c.show_as.ensures.shown

pub returns-in-Err-clause-ends : goal.returns-in-Err-clause-ends
returns-in-Err-clause-ends g c = λ moments. GivenUp refl refl

pub returns-in-Err-clause-other_line : goal.returns-in-Err-clause-other_line
returns-in-Err-clause-other_line g c = λ other. absurd (c.in-Err.ensures.memory other)

pub returns-in-Ok-Some-clause-unread : goal.returns-in-Ok-Some-clause-unread
returns-in-Ok-Some-clause-unread g c =
    reads_nothing c.one_command.ensures (asked_by c.args.words.now (given_by c.args.given)) c.in-Ok-Some.command (rw c.in-Ok-Some.field-0-is at c.in-Ok-Some.ensures.is)
    c.obey-answer.ensures.unread c.obey-answer.ensures.unasked
