use Rattle.snb_history.specs.declared.event.Event.{Event}
use Rattle.snb_history.specs.declared.event.Event.TheVariants.{Halt}
use Rattle.snb_history.specs.Rules.{V1}
use Rattle.snb_book.specs.Kept.{Kept}
use Rattle.snb_auditor.proofs.Judged.{Passes, passes_none, breaks_at}
use Rattle.snb_auditor.proofs.auditor.judge_halt.Goals as goal

pub returns-in-Some : goal.returns-in-Some
returns-in-Some c =
    let b : Kept = c.args.book.now in
    let e : Event = Halt c.args.worker in
    let passes-1 : Passes b e 1 = passes_none b e in
    breaks_at b e V1 c.in-Some.values c.violation.result c.violation.ensures passes-1 c.in-Some.ensures.0 c.in-Some.ensures.1
