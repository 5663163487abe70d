use Rattle.std.proofs.Common.{subst}
use Rattle.snb_input_files.specs.Names.{Allows}
use Rattle.snb_tool_words.specs.declared.command.Command.{Command}
use Rattle.snb_tool_outcome.specs.Names.{IsNameOf}
use Rattle.snb_tool_words.specs.CommandFacts.{IsRunnable}
use Rattle.snb_tool_plan.proofs.waiting.obey_waiting.Goals as goal

pub run-requires-clause-workers : goal.run-requires-clause-workers
run-requires-clause-workers g c = λ κs lives. (subst IsRunnable c.in-Run.is c.requires.runnable).0

pub run-requires-clause-few : goal.run-requires-clause-few
run-requires-clause-few g c = λ κs lives. (subst IsRunnable c.in-Run.is c.requires.runnable).1

pub run-requires-clause-allowed : goal.run-requires-clause-allowed
run-requires-clause-allowed g c = λ κs lives. rw c.as_str.ensures (subst (λ (z : Command). Allows (g.S.Shelf.may c.args.shelf.now) (IsNameOf z)) c.in-Run.is c.requires.allowed)

pub trial-requires-clause-some : goal.trial-requires-clause-some
trial-requires-clause-some g c = λ κs lives. (subst IsRunnable c.in-Trial.is c.requires.runnable).0

pub trial-requires-clause-few : goal.trial-requires-clause-few
trial-requires-clause-few g c = λ κs lives. (subst IsRunnable c.in-Trial.is c.requires.runnable).1

pub trial-requires-clause-workers : goal.trial-requires-clause-workers
trial-requires-clause-workers g c = λ κs lives. (subst IsRunnable c.in-Trial.is c.requires.runnable).2

pub trial-requires-clause-crew : goal.trial-requires-clause-crew
trial-requires-clause-crew g c = λ κs lives. (subst IsRunnable c.in-Trial.is c.requires.runnable).3

pub returns-in-Trial-clause-answer : goal.returns-in-Trial-clause-answer
returns-in-Trial-clause-answer g c = λ given. rw c.in-Trial.is (c.trial.ensures.answer (g.S.Shelf.contents c.args.shelf.now) given)

pub returns-in-Run-clause-answer : goal.returns-in-Run-clause-answer
returns-in-Run-clause-answer g c = λ given. rw (c.in-Run.is, ← c.as_str.ensures) (c.run.ensures.answer given)
