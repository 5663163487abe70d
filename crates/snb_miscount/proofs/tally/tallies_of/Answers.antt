use Rattle.std.proofs.Common.{Vec, Global, ◌≡◌, ◌∙◌, ◌∷◌, ◌++◌, ℕ, ◌+◌, List, [], None, ap, get_or, subst, sym}
use Rattle.std.specs.Prelude.{All}
use Rattle.std.proofs.lemmas.Option.{slice_get-get_or}
use Rattle.snb_history.specs.declared.event.Event.TheVariants.{Start}
use Rattle.snb_history.specs.declared.logged.Logged.{Logged}
use Rattle.snb_miscount.specs.declared.tally.Tally.{Tally}
use Rattle.snb_miscount.specs.Tallies.{IsTally}
use Rattle.snb_miscount.proofs.TallyFacts.{HasTalliesBelow, all_below, all_more, each_more, fine_more, logged_within}
use Rattle.snb_miscount.proofs.tally.tallies_of.Goals as goal
use Rattle.snb_miscount.proofs.tally.tallies_of.Goals.{in-Some+in_ok-push, in_default}

-- what is read past the log's end
abbrev nothing : Logged
nothing = record { event = Start 0 0 0; rows = None }

pub tally_of-requires : goal.tally_of-requires
tally_of-requires c =
    let i : ℕ = c.loop-event.event in
    logged_within c.args.plan.now c.requires.legal.0 c.args.logged.now c.requires.legal.1 i (get_or c.args.logged.now i nothing) (slice_get-get_or c.args.logged.now i nothing c.loop-event-test.true)

pub loop-event-preserved : goal.loop-event-preserved
loop-event-preserved c =
    let logged : List Logged = c.args.logged.now in
    let i : ℕ = c.loop-event.event in
    let old : List Tally = c.loop-event.tallies.items in
    let one : Logged = get_or logged i nothing in
    let here = slice_get-get_or logged i nothing c.loop-event-test.true in
    elim c.match-tally_of.branch [
      | in-Some+in_ok-push w ↦ (
          let t : Tally = w.in-Some.tally in
          let items : c.match-tally_of.tallies.items ≡ old ++ t ∷ [] = ap (λ (v : Vec Tally Global). v.items) w.tallies-is ∙ w.in_ok-push.ensures.items in
          record {
            each = subst (All (IsTally logged)) (sym items) (each_more c.args.plan.now logged old i one here t c.loop-event.invariant.each w.in-Some.ensures.event w.in-Some.ensures.tally);
            all =
                subst (λ (l : List Tally). HasTalliesBelow c.args.plan.now logged l (i + 1)) (sym items)
                (all_more c.args.plan.now logged old i one here t c.loop-event.invariant.all w.in-Some.ensures.event);
          })
      | in_default w ↦ (
          let items : c.match-tally_of.tallies.items ≡ old = ap (λ (v : Vec Tally Global). v.items) w.tallies-is in
          record {
            each = subst (All (IsTally logged)) (sym items) c.loop-event.invariant.each;
            all =
                subst (λ (l : List Tally). HasTalliesBelow c.args.plan.now logged l (i + 1)) (sym items)
                (fine_more c.args.plan.now logged old i one here c.loop-event.invariant.all w.in_default.ensures.fine);
          })
    ]

pub returns-clause-all : goal.returns-clause-all
returns-clause-all c = all_below c.args.plan.now c.args.logged.now c.loop-event.tallies.items c.loop-event.event c.loop-event-test.false c.loop-event.invariant.all
