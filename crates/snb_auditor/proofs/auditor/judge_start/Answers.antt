use Rattle.snb_history.specs.declared.event.Event.{Event}
use Rattle.snb_history.specs.declared.event.Event.TheVariants.{Start}
use Rattle.snb_history.specs.Rules.{V1, V2, V3, V4, V5, V6, V7, V8, V9}
use Rattle.snb_book.specs.Kept.{Kept}
use Rattle.snb_auditor.proofs.Judged.{Passes, passes_none, passes_more, breaks_at}
use Rattle.snb_auditor.proofs.auditor.judge_start.Goals as goal

pub returns-in-Some : goal.returns-in-Some
returns-in-Some c =
    let b : Kept = c.args.book.now in
    let e : Event = Start c.args.op c.args.worker c.args.at in
    let passes-1 : Passes b e 1 = passes_none b e in
    breaks_at b e V1 c.in-Some.values c.violation.result c.violation.ensures passes-1 c.in-Some.ensures.0 c.in-Some.ensures.1

pub returns-in-Some-judge_head : goal.returns-in-Some-judge_head
returns-in-Some-judge_head c =
    let b : Kept = c.args.book.now in
    let e : Event = Start c.args.op c.args.worker c.args.at in
    let passes-1 : Passes b e 1 = passes_none b e in
    let passes-2 : Passes b e 2 = passes_more b e V1 passes-1 c.in_default.ensures in
    breaks_at b e V2 c.in-Some-judge_head.values c.violation-in-Some-judge_head.result c.violation-in-Some-judge_head.ensures passes-2 c.in-Some-judge_head.ensures.0 c.in-Some-judge_head.ensures.1

pub returns-in-Some-judge_turn : goal.returns-in-Some-judge_turn
returns-in-Some-judge_turn c =
    let b : Kept = c.args.book.now in
    let e : Event = Start c.args.op c.args.worker c.args.at in
    let passes-1 : Passes b e 1 = passes_none b e in
    let passes-2 : Passes b e 2 = passes_more b e V1 passes-1 c.in_default.ensures in
    let passes-3 : Passes b e 3 = passes_more b e V2 passes-2 c.in_default-judge_head.ensures in
    breaks_at b e V3 c.in-Some-judge_turn.values c.violation-in-Some-judge_turn.result c.violation-in-Some-judge_turn.ensures passes-3 c.in-Some-judge_turn.ensures.0 c.in-Some-judge_turn.ensures.1

pub returns-in-Some-judge_due : goal.returns-in-Some-judge_due
returns-in-Some-judge_due c =
    let b : Kept = c.args.book.now in
    let e : Event = Start c.args.op c.args.worker c.args.at in
    let passes-1 : Passes b e 1 = passes_none b e in
    let passes-2 : Passes b e 2 = passes_more b e V1 passes-1 c.in_default.ensures in
    let passes-3 : Passes b e 3 = passes_more b e V2 passes-2 c.in_default-judge_head.ensures in
    let passes-4 : Passes b e 4 = passes_more b e V3 passes-3 c.in_default-judge_turn.ensures in
    breaks_at b e V4 c.in-Some-judge_due.values c.violation-in-Some-judge_due.result c.violation-in-Some-judge_due.ensures passes-4 c.in-Some-judge_due.ensures.0 c.in-Some-judge_due.ensures.1

pub returns-in-Some-judge_cleared : goal.returns-in-Some-judge_cleared
returns-in-Some-judge_cleared c =
    let b : Kept = c.args.book.now in
    let e : Event = Start c.args.op c.args.worker c.args.at in
    let passes-1 : Passes b e 1 = passes_none b e in
    let passes-2 : Passes b e 2 = passes_more b e V1 passes-1 c.in_default.ensures in
    let passes-3 : Passes b e 3 = passes_more b e V2 passes-2 c.in_default-judge_head.ensures in
    let passes-4 : Passes b e 4 = passes_more b e V3 passes-3 c.in_default-judge_turn.ensures in
    let passes-5 : Passes b e 5 = passes_more b e V4 passes-4 c.in_default-judge_due.ensures in
    breaks_at b e V5 c.in-Some-judge_cleared.values c.violation-in-Some-judge_cleared.result c.violation-in-Some-judge_cleared.ensures passes-5 c.in-Some-judge_cleared.ensures.0 c.in-Some-judge_cleared.ensures.1

pub returns-in-Some-judge_idle : goal.returns-in-Some-judge_idle
returns-in-Some-judge_idle c =
    let b : Kept = c.args.book.now in
    let e : Event = Start c.args.op c.args.worker c.args.at in
    let passes-1 : Passes b e 1 = passes_none b e in
    let passes-2 : Passes b e 2 = passes_more b e V1 passes-1 c.in_default.ensures in
    let passes-3 : Passes b e 3 = passes_more b e V2 passes-2 c.in_default-judge_head.ensures in
    let passes-4 : Passes b e 4 = passes_more b e V3 passes-3 c.in_default-judge_turn.ensures in
    let passes-5 : Passes b e 5 = passes_more b e V4 passes-4 c.in_default-judge_due.ensures in
    let passes-6 : Passes b e 6 = passes_more b e V5 passes-5 c.in_default-judge_cleared.ensures in
    breaks_at b e V6 c.in-Some-judge_idle.values c.violation-in-Some-judge_idle.result c.violation-in-Some-judge_idle.ensures passes-6 c.in-Some-judge_idle.ensures.0 c.in-Some-judge_idle.ensures.1

pub returns-in-Some-judge_moment : goal.returns-in-Some-judge_moment
returns-in-Some-judge_moment c =
    let b : Kept = c.args.book.now in
    let e : Event = Start c.args.op c.args.worker c.args.at in
    let passes-1 : Passes b e 1 = passes_none b e in
    let passes-2 : Passes b e 2 = passes_more b e V1 passes-1 c.in_default.ensures in
    let passes-3 : Passes b e 3 = passes_more b e V2 passes-2 c.in_default-judge_head.ensures in
    let passes-4 : Passes b e 4 = passes_more b e V3 passes-3 c.in_default-judge_turn.ensures in
    let passes-5 : Passes b e 5 = passes_more b e V4 passes-4 c.in_default-judge_due.ensures in
    let passes-6 : Passes b e 6 = passes_more b e V5 passes-5 c.in_default-judge_cleared.ensures in
    let passes-7 : Passes b e 7 = passes_more b e V6 passes-6 c.in_default-judge_idle.ensures in
    let passes-8 : Passes b e 8 = passes_more b e V7 passes-7 tt in
    let passes-9 : Passes b e 9 = passes_more b e V8 passes-8 tt in
    breaks_at b e V9 c.in-Some-judge_moment.values c.violation-in-Some-judge_moment.result c.violation-in-Some-judge_moment.ensures passes-9 c.in-Some-judge_moment.ensures.0 c.in-Some-judge_moment.ensures.1
