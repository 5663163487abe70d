use Rattle.serde_json.specs.View.{view}
use Rattle.snb_validation_cases.proofs.AskFacts.{no_query, no_reply}
use Rattle.snb_validation_cases.proofs.read.ask_of.Goals as goal

pub returns-in_default-2 : goal.returns-in_default-2
returns-in_default-2 c =
    let none = rw c.in_default-2.is at c.in_ok-query.ensures in
    no_query (view c.args.params.now) (view c.args.word.now) (view c.args.held.now) c.in-Some.kind c.in-Some.ensures none

pub returns-in_default-3 : goal.returns-in_default-3
returns-in_default-3 c =
    let are = rw c.in-Some-2.is at c.in_ok-query.ensures in
    let none = rw c.in_default-3.is at c.in_ok-reply.ensures in
    no_reply (view c.args.params.now) (view c.args.word.now) (view c.args.held.now) c.in-Some.kind c.in-Some-2.query c.in-Some.ensures are none
