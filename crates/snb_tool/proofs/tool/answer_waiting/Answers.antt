use Rattle.std.proofs.Common.{None, inl, inr, refl, ap}
use Rattle.snb_tool_outcome.specs.Endings.{asked_by}
use Rattle.snb_tool_outcome.specs.Outcome.{IsCallAnswer, IsCommandAnswer}
use Rattle.snb_tool_outcome.specs.Output.{on_screen}
use Rattle.snb_tool_outcome.specs.Outside.{GivenUp}
use Rattle.snb_tool_words.specs.Commands.{IsOtherLine}
use Rattle.snb_tool_words.specs.Words.{texts_of}
use Rattle.snb_tool.proofs.OutcomeLemmas.{delivers_ends, ends_weaker, finished_calm, finished_ends}
use Rattle.snb_tool.proofs.Served.{asked_anyhow, other_anyhow, run_reads}
use Rattle.snb_tool.proofs.tool.answer_waiting.Goals as goal

pub obey_waiting-answer-requires-clause-runnable : goal.obey_waiting-answer-requires-clause-runnable
obey_waiting-answer-requires-clause-runnable g c = λ κs lives. rw c.in-Ok-Some.field-0-is at c.in-Ok-Some.ensures.runnable

pub obey_waiting-answer-requires-clause-waiting : goal.obey_waiting-answer-requires-clause-waiting
obey_waiting-answer-requires-clause-waiting g c = λ κs lives. c.requires.waiting c.in-Ok-Some.command (rw c.in-Ok-Some.field-0-is at c.in-Ok-Some.ensures.is_line)

pub obey_waiting-answer-requires-clause-allowed : goal.obey_waiting-answer-requires-clause-allowed
obey_waiting-answer-requires-clause-allowed g c = λ κs lives.
    c.requires.allowed None c.in-Ok-Some.command
    (asked_anyhow (texts_of c.args.words.now) c.requires.waiting None c.in-Ok-Some.command (rw c.in-Ok-Some.field-0-is at c.in-Ok-Some.ensures.is_line))

pub returns-in-Ok-Some-clause-ends : goal.returns-in-Ok-Some-clause-ends
returns-in-Ok-Some-clause-ends g c = λ given.
    let asked = asked_anyhow (texts_of c.args.words.now) c.requires.waiting given c.in-Ok-Some.command (rw c.in-Ok-Some.field-0-is at c.in-Ok-Some.ensures.is_line) in
    ends_weaker (IsCommandAnswer given c.in-Ok-Some.command) (IsCallAnswer (asked_by c.args.words.now given)) _ _ _
    (λ s texts b. inr (c.in-Ok-Some.command, asked, b))
    (finished_ends g.O.Outbox c.args.out.now c.finish.new.out _ _ _ _ _ _ _ given c.in-Ok-Some.command c.obey_waiting-answer.result c.finish.result (c.obey_waiting-answer.ensures.answer given) c.obey_waiting-answer.ensures.read.told c.finish.ensures.finished)

pub returns-in-Ok-Some-clause-other_line : goal.returns-in-Ok-Some-clause-other_line
returns-in-Ok-Some-clause-other_line g c = λ given other.
    absurd (other_anyhow (texts_of c.args.words.now) c.requires.waiting given other c.in-Ok-Some.command (rw c.in-Ok-Some.field-0-is at c.in-Ok-Some.ensures.is_line))

pub returns-in-Ok-Some-clause-unread : goal.returns-in-Ok-Some-clause-unread
returns-in-Ok-Some-clause-unread g c = λ given.
    run_reads (texts_of c.args.words.now) c.requires.waiting c.one_command.ensures given c.in-Ok-Some.command (rw c.in-Ok-Some.field-0-is at c.in-Ok-Some.ensures.is_line) c.obey_waiting-answer.ensures.unread

pub returns-in-Ok-Some-clause-reads_calm : goal.returns-in-Ok-Some-clause-reads_calm
returns-in-Ok-Some-clause-reads_calm g c = finished_calm g.O.Outbox c.args.out.now c.finish.new.out c.obey_waiting-answer.result c.finish.result _ _ c.finish.ensures.finished c.obey_waiting-answer.ensures.read.told

pub returns-in-Ok-None-clause-ends : goal.returns-in-Ok-None-clause-ends
returns-in-Ok-None-clause-ends g c = λ given.
    let none : IsOtherLine (texts_of c.args.words.now) = rw c.in-Ok-None.field-0-is at c.in-Ok-None.ensures.is_line in
    delivers_ends g.O.Outbox c.args.out.now c.show_as.new.out _ _ _ _ _ _ _ (IsCallAnswer (asked_by c.args.words.now given)) 2 (on_screen c.as_bytes.result.now) _
    (inl (refl, (λ command a. none command a.line), ap on_screen c.as_bytes.ensures.value)) c.show_as.ensures.shown

pub returns-in-Err-clause-ends : goal.returns-in-Err-clause-ends
returns-in-Err-clause-ends g c = λ given. GivenUp refl refl

pub returns-in-Err-clause-other_line : goal.returns-in-Err-clause-other_line
returns-in-Err-clause-other_line g c = λ given other. absurd (c.in-Err.ensures.memory (other_anyhow (texts_of c.args.words.now) c.requires.waiting given other))
