use Rattle.snb_book.proofs.Asking.{cleared_told}
use Rattle.snb_book.proofs.book.Book.is_cleared.Goals as goal

pub returns-else-not-step : goal.returns-else-not-step
returns-else-not-step c =
    cleared_told c.args.self.now.schedule c.args.self.now.history c.args.op c.step-step.result c.least.result
    c.step-step.ensures.planned c.requires c.step-step.ensures.value c.least.ensures c.if-not-step.false
