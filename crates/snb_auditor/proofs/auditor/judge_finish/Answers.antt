use Rattle.snb_history.specs.declared.event.Event.{Event}
use Rattle.snb_history.specs.declared.event.Event.TheVariants.{Finish}
use Rattle.snb_history.specs.Rules.{V1, V2, V3, V4, V5, V6, V7, V8, V9}
use Rattle.snb_book.specs.Kept.{Kept}
use Rattle.snb_auditor.proofs.Judged.{Passes, passes_none, passes_more, breaks_at}
use Rattle.snb_auditor.proofs.auditor.judge_finish.Goals as goal

pub returns-in-Some : goal.returns-in-Some
returns-in-Some c =
    let b : Kept = c.args.book.now in
    let e : Event = Finish c.args.op c.args.worker c.args.at c.args.front in
    let passes-1 : Passes b e 1 = passes_none b e in
    breaks_at b e V1 c.in-Some.values c.violation.result c.violation.ensures passes-1 c.in-Some.ensures.0 c.in-Some.ensures.1

pub returns-in-Some-judge_hand : goal.returns-in-Some-judge_hand
returns-in-Some-judge_hand c =
    let b : Kept = c.args.book.now in
    let e : Event = Finish c.args.op c.args.worker c.args.at c.args.front in
    let passes-1 : Passes b e 1 = passes_none b e in
    let passes-2 : Passes b e 2 = passes_more b e V1 passes-1 c.in_default.ensures in
    let passes-3 : Passes b e 3 = passes_more b e V2 passes-2 tt in
    let passes-4 : Passes b e 4 = passes_more b e V3 passes-3 tt in
    let passes-5 : Passes b e 5 = passes_more b e V4 passes-4 tt in
    let passes-6 : Passes b e 6 = passes_more b e V5 passes-5 tt in
    let passes-7 : Passes b e 7 = passes_more b e V6 passes-6 tt in
    breaks_at b e V7 c.in-Some-judge_hand.values c.violation-in-Some-judge_hand.result c.violation-in-Some-judge_hand.ensures passes-7 c.in-Some-judge_hand.ensures.0 c.in-Some-judge_hand.ensures.1

pub returns-in-Some-judge_front : goal.returns-in-Some-judge_front
returns-in-Some-judge_front c =
    let b : Kept = c.args.book.now in
    let e : Event = Finish c.args.op c.args.worker c.args.at c.args.front in
    let passes-1 : Passes b e 1 = passes_none b e in
    let passes-2 : Passes b e 2 = passes_more b e V1 passes-1 c.in_default.ensures in
    let passes-3 : Passes b e 3 = passes_more b e V2 passes-2 tt in
    let passes-4 : Passes b e 4 = passes_more b e V3 passes-3 tt in
    let passes-5 : Passes b e 5 = passes_more b e V4 passes-4 tt in
    let passes-6 : Passes b e 6 = passes_more b e V5 passes-5 tt in
    let passes-7 : Passes b e 7 = passes_more b e V6 passes-6 tt in
    let passes-8 : Passes b e 8 = passes_more b e V7 passes-7 c.in_default-judge_hand.ensures in
    breaks_at b e V8 c.in-Some-judge_front.values c.violation-in-Some-judge_front.result c.violation-in-Some-judge_front.ensures passes-8 c.in-Some-judge_front.ensures.0 c.in-Some-judge_front.ensures.1

pub returns-in-Some-judge_moment : goal.returns-in-Some-judge_moment
returns-in-Some-judge_moment c =
    let b : Kept = c.args.book.now in
    let e : Event = Finish c.args.op c.args.worker c.args.at c.args.front in
    let passes-1 : Passes b e 1 = passes_none b e in
    let passes-2 : Passes b e 2 = passes_more b e V1 passes-1 c.in_default.ensures in
    let passes-3 : Passes b e 3 = passes_more b e V2 passes-2 tt in
    let passes-4 : Passes b e 4 = passes_more b e V3 passes-3 tt in
    let passes-5 : Passes b e 5 = passes_more b e V4 passes-4 tt in
    let passes-6 : Passes b e 6 = passes_more b e V5 passes-5 tt in
    let passes-7 : Passes b e 7 = passes_more b e V6 passes-6 tt in
    let passes-8 : Passes b e 8 = passes_more b e V7 passes-7 c.in_default-judge_hand.ensures in
    let passes-9 : Passes b e 9 = passes_more b e V8 passes-8 c.in_default-judge_front.ensures in
    breaks_at b e V9 c.in-Some-judge_moment.values c.violation-in-Some-judge_moment.result c.violation-in-Some-judge_moment.ensures passes-9 c.in-Some-judge_moment.ensures.0 c.in-Some-judge_moment.ensures.1
