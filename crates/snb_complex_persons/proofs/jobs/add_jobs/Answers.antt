use Rattle.std.proofs.Common.{◌≡◌, ℕ, ◌<◌, ◌≤◌, ◌&&◌, nat_lt, true, false, refl, sym, subst, ◌∙◌, ap, arith}
use Rattle.std.proofs.lemmas.Bool.{and_from, and_left, and_right, le-ltb, lt-ltb}
use Rattle.std.specs.List.{All}
use Rattle.snb_graph_links.specs.Pairs.{rest}
use Rattle.snb_graph_model.specs.Around.{work}
use Rattle.snb_read_model.specs.ComplexReads.{is_in}
use Rattle.snb_read_lookups.proofs.Laws.{person_fits}
use Rattle.snb_complex_persons.proofs.JobLemmas.{job_next, job_over, jobs_begin, jobs_done, next_stay}
use Rattle.snb_complex_persons.proofs.StayLemmas.{work_found}
use Rattle.snb_complex_persons.specs.Stays.{IsStayFound}
use Rattle.snb_complex_persons.proofs.jobs.add_jobs.Goals as goal

pub loop-organisation-init : goal.loop-organisation-init
loop-organisation-init c =
    let g = c.args.graph.now in
    let walk : rest c.into_iter-organisation-iterator.result ≡ work g c.args.person = ap rest c.into_iter-organisation-iterator.ensures.into_iter_gives ∙ c.work-organisation-items.ensures in
    record {
      left = subst (All (IsStayFound g)) (sym walk) (work_found g c.known.ensures c.requires.sound.held c.args.person);
      seen = c.requires.seen;
      adding = λ all are. jobs_begin g c.args.country.now c.args.year c.args.person _ all _ walk are;
    }

pub is_there-requires-clause-held : goal.is_there-requires-clause-held
is_there-requires-clause-held c = (next_stay c.args.graph.now _ _ _ c.in-Some.ensures.steps c.loop-organisation.invariant.left).0.held

pub located-requires-clause-held : goal.located-requires-clause-held
located-requires-clause-held c = (next_stay c.args.graph.now _ _ _ c.in-Some.ensures.steps c.loop-organisation.invariant.left).0.held

pub loop-organisation-preserved-then-from-since : goal.loop-organisation-preserved-then-from-since
loop-organisation-preserved-then-from-since c =
    let g = c.args.graph.now in
    let w : ℕ × ℕ = (c.in-Some.organisation, c.in-Some.since) in
    let late : c.args.year ≤ w.1 = omega (arith, c.if-from-since.true, c.from.ensures) in
    let test : (nat_lt w.1 c.args.year && is_in g c.args.country.now w.0) ≡ false = and_left _ _ (le-ltb w.1 c.args.year late) in
    record {
      left = (next_stay g _ _ w c.in-Some.ensures.steps c.loop-organisation.invariant.left).1;
      seen = c.loop-organisation.invariant.seen;
      adding = λ all are. job_over g c.args.country.now c.args.year c.args.person _ _ (rest c.next.new.self) w _ c.in-Some.ensures.steps test (c.loop-organisation.invariant.adding all are);
    }

pub loop-organisation-preserved : goal.loop-organisation-preserved
loop-organisation-preserved c =
    let g = c.args.graph.now in
    let w : ℕ × ℕ = (c.in-Some.organisation, c.in-Some.since) in
    let test : (nat_lt w.1 c.args.year && is_in g c.args.country.now w.0) ≡ false = and_right _ _ (sym c.in_ok-is_there.ensures.there ∙ c.if-branch.false) in
    record {
      left = (next_stay g _ _ w c.in-Some.ensures.steps c.loop-organisation.invariant.left).1;
      seen = c.in_ok-is_there.ensures.seen;
      adding = λ all are. job_over g c.args.country.now c.args.year c.args.person _ _ (rest c.next.new.self) w _ c.in-Some.ensures.steps test (c.loop-organisation.invariant.adding all are);
    }

pub loop-organisation-preserved-in-Continue-branch-2 : goal.loop-organisation-preserved-in-Continue-branch-2
loop-organisation-preserved-in-Continue-branch-2 c =
    let g = c.args.graph.now in
    let w : ℕ × ℕ = (c.in-Some.organisation, c.in-Some.since) in
    let early : w.1 < c.args.year = omega (arith, c.if-from-since.false, c.from.ensures) in
    let test : (nat_lt w.1 c.args.year && is_in g c.args.country.now w.0) ≡ true = and_from _ _ (lt-ltb w.1 c.args.year early) (sym c.in_ok-is_there.ensures.there ∙ c.if-branch.true) in
    let (stay, left) = next_stay g _ _ w c.in-Some.ensures.steps c.loop-organisation.invariant.left in
    let low = stay.fits in
    record {
      left = left;
      seen = c.in_ok-is_there.ensures.seen;
      adding = λ all are. job_next g c.args.country.now c.args.year c.args.person _ _ (rest c.next.new.self) w _ _ _ c.in-Some.ensures.steps test c.in_ok-push.ensures.items refl (record {
        person = c.requires.held;
        fits = person_fits g c.known.ensures c.sound_graphs.ensures.numbers c.args.person c.requires.held;
        year_fits = omega (arith, low);
        organisation = c.located.result.0.now;
        at = c.located.ensures.organisation;
        named = refl;
      }) (c.loop-organisation.invariant.adding all are);
    }

pub returns-clause-found : goal.returns-clause-found
returns-clause-found c = λ all are. jobs_done c.args.graph.now c.args.country.now c.args.year c.args.person _ _ _ c.in-None.ensures.steps.0 (c.loop-organisation.invariant.adding all are)
