use Rattle.std.proofs.Common.{◌≡◌, get_or, ap, subst, List, arith, Some}
use Rattle.std.specs.Prelude.{slice_get}
use Rattle.snb_history.specs.declared.step.Step.{Step}
use Rattle.snb_history.specs.declared.step.LaneKind.TheVariants.{Person, Forum, Query}
use Rattle.snb_history.specs.Schedule.{no_step, step_of}
use Rattle.snb_book.proofs.Places.{kind_told, none_before, predecessor_told}
use Rattle.snb_book.proofs.book.predecessor.Goals as goal

pub returns-then-step-eq0 : goal.returns-then-step-eq0
returns-then-step-eq0 c =
    let first : (step_of c.args.schedule.now c.args.op).place ≡ 0 =
    subst (λ (l : List Step). (get_or l c.args.op no_step).place ≡ 0) c.steps.ensures.value c.if-step-eq0.true in
    record { none = λ forum. none_before c.args.schedule.now c.steps.ensures.planned c.args.op c.requires first }

pub returns-in-Forum : goal.returns-in-Forum
returns-in-Forum c =
    predecessor_told c.args.schedule.now c.steps.ensures.planned c.args.op (get_or c.steps.result.now c.args.op no_step) c.requires
    (ap (λ l. get_or l c.args.op no_step) c.steps.ensures.value)
    (kind_told c.args.schedule.now c.steps.ensures.planned c.args.op c.steps.result.now c.kinds.result.now Forum c.requires c.steps.ensures.value c.kinds.ensures.value c.in-Forum.is)
    (let above = c.if-step-eq0.false in omega arith)
    c.at_place.result c.at_place.ensures

pub returns-in-Person : goal.returns-in-Person
returns-in-Person c =
    let person : slice_get c.args.schedule.now.kinds (step_of c.args.schedule.now c.args.op).lane ≡ Some Person =
    kind_told c.args.schedule.now c.steps.ensures.planned c.args.op c.steps.result.now c.kinds.result.now Person c.requires c.steps.ensures.value c.kinds.ensures.value c.in-Person.is in
    record { none = λ forum. absurd cc }

pub returns-in-Query : goal.returns-in-Query
returns-in-Query c =
    let query : slice_get c.args.schedule.now.kinds (step_of c.args.schedule.now c.args.op).lane ≡ Some Query =
    kind_told c.args.schedule.now c.steps.ensures.planned c.args.op c.steps.result.now c.kinds.result.now Query c.requires c.steps.ensures.value c.kinds.ensures.value c.in-Query.is in
    record { none = λ forum. absurd cc }
