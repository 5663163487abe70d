use Rattle.std.proofs.Common.{List, refl, subst, sym}
use Rattle.snb_history.specs.declared.event.Event.{Event}
use Rattle.snb_book.specs.Asked.{IsFirstUnfinished}
use Rattle.snb_auditor.proofs.Histories.{accepted_told, late_told, starts_within}
use Rattle.snb_auditor.proofs.auditor.verdict_of.Goals as goal

pub returns-in-Some-first_unfinished : goal.returns-in-Some-first_unfinished
returns-in-Some-first_unfinished c = (
  c.requires.legal,
  c.in_default.ensures,
  subst (λ (h : List Event). IsFirstUnfinished c.args.book.now.schedule h c.in-Some-first_unfinished.op) (sym c.requires.events) c.in-Some-first_unfinished.ensures,
)

pub count_on_time-on_time-requires : goal.count_on_time-on_time-requires
count_on_time-on_time-requires c = starts_within c.args.book.now.schedule c.args.book.now.workers c.args.events.now c.requires.legal

pub returns-then-on_time-all : goal.returns-then-on_time-all
returns-then-on_time-all c =
    late_told c.args.book.now c.args.events.now c.steps.result.now _ _ c.requires.events (let h = c.steps.ensures.value in let g = c.schedule.ensures in cc) c.requires.legal c.in_default.ensures
    c.in_default-first_unfinished.ensures c.count_on_time-on_time.ensures.value refl c.if-on_time-all.true

pub returns-else-on_time-all : goal.returns-else-on_time-all
returns-else-on_time-all c =
    accepted_told c.args.book.now c.args.events.now c.steps.result.now _ _ c.requires.events (let h = c.steps.ensures.value in let g = c.schedule.ensures in cc) c.requires.legal c.in_default.ensures
    c.in_default-first_unfinished.ensures c.count_on_time-on_time.ensures.value refl c.if-on_time-all.false
