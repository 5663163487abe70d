use Rattle.std.proofs.Common.{ap}
use Rattle.snb_history.specs.declared.step.Step.{Step}
use Rattle.snb_book.proofs.Asking.{first_unstarted_read}
use Rattle.snb_book.proofs.book.Book.first_unstarted.Goals as goal

pub returns : goal.returns
returns c =
    first_unstarted_read _ _ _ _ _ _ _ _ _ _ c.args.op c.step-lane.result.lane _ c.at_place.result c.self.view_is c.self.invariant.0 c.self.invariant.1
    c.started.ensures c.schedule.ensures (ap (λ (x : Step). x.lane) c.step-lane.ensures.value) c.index.ensures c.requires c.if-started-op.false c.at_place.ensures
