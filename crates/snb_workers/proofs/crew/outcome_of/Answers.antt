use Rattle.std.proofs.Common.{◌∙◌, ℕ, List, [], subst, sym}
use Rattle.snb_history.specs.declared.event.Event.{Event}
use Rattle.snb_history.specs.Rules.{IsLegal}
use Rattle.snb_history.specs.Schedule.{Schedule}
use Rattle.snb_replica.specs.Runs.{HasRun}
use Rattle.snb_workers.proofs.CrewRuns.{are_all, behind, crew_has_run}
use Rattle.snb_workers.proofs.crew.outcome_of.Goals as goal

pub close-book-requires : goal.close-book-requires
close-book-requires c =
    let p = c.in_ok-seats.ensures in
    record { all = are_all c.args.plan.now c.requires.0 c.requires.1 c.args.board c.args.crew.items [] c.requires.2 p.workers p.are c.in_ok-seats.seats.items p.seats }

pub catch_up-requires : goal.catch_up-requires
catch_up-requires c =
    let (moments, base, crew) = c.requires in
    let p = c.in_ok-seats.ensures in
    let book = c.close-book.ensures in
    let h = c.close-book.result.history in
    let legal = subst (λ (x : Schedule × ℕ). IsLegal x.0 x.1 h) (λ i. ((book.book.0 ∙ crew.schedule) i, book.book.1 i)) book.legal in
    record {
      behind = (
        base,
        behind c.args.plan.now moments base c.args.board c.args.crew.items h crew p.workers p.are c.in_ok-seats.seats.items p.seats c.hand_is_own.ensures c.prefix_is_legal.ensures legal book.seats book.made
            c.in_ok-replies.replies c.in_ok-seats.replies.items p.replies c.in_ok-replies.ensures.each c.in_ok-replies.ensures.all c.known-2.ensures c.in_ok-seats.replica p.replica,
      );
    }

pub returns : goal.returns
returns c = λ moments base crew.
    let p = c.in_ok-seats.ensures in
    let book = c.close-book.ensures in
    let h = c.close-book.result.history in
    let legal = subst (λ (x : Schedule × ℕ). IsLegal x.0 x.1 h) (λ i. ((book.book.0 ∙ crew.schedule) i, book.book.1 i)) book.legal in
    let at_first =
    behind c.args.plan.now moments base c.args.board c.args.crew.items h crew p.workers p.are c.in_ok-seats.seats.items p.seats c.hand_is_own.ensures c.prefix_is_legal.ensures legal book.seats book.made
    c.in_ok-replies.replies c.in_ok-seats.replies.items p.replies c.in_ok-replies.ensures.each c.in_ok-replies.ensures.all c.known-2.ensures c.in_ok-seats.replica p.replica in
    let run =
    crew_has_run c.args.plan.now moments base c.args.board c.args.crew.items h crew p.workers p.are c.in_ok-seats.seats.items p.seats c.hand_is_own.ensures c.prefix_is_legal.ensures legal book.seats book.made
    c.in_ok-replies.replies c.in_ok-seats.replies.items p.replies c.in_ok-replies.ensures.each c.in_ok-replies.ensures.all c.known-2.ensures c.catch_up.new.replica c.into_graph.result c.replay_is_welcome.ensures.last
    c.runs_wait.ensures c.known.ensures (c.in_ok-catch_up.ensures base at_first) c.into_graph.ensures.value c.into_graph.ensures.sound in
    subst (λ (x : List Event). HasRun c.args.board.workers c.args.plan.now moments base x c.in_ok-replies.replies c.into_graph.result) (sym (c.from_vec.ensures ∙ c.into_events.ensures)) run
