use Rattle.std.proofs.Common.{ℕ, ◌∷◌, [], subst}
use Rattle.std.proofs.lemmas.List.Elements.{All-get_or, All-same}
use Rattle.std.proofs.lemmas.Result.{IfOk-weaker}
use Rattle.snb_read_model.specs.ComplexReads.{IsJob}
use Rattle.snb_read_model.specs.Distance.{IsPerson}
use Rattle.snb_read_model.specs.Order.{ReadAnswers, Falling, FirstRows, Rising}
use Rattle.snb_read_lookups.proofs.Laws.{near_found}
use Rattle.snb_complex_persons.proofs.JobLemmas.{jobs_all, jobs_more, jobs_none, none_seen}
use Rattle.snb_complex_persons.specs.Jobs.{jobs_by}
use Rattle.snb_complex_persons.proofs.jobs.ic11.Goals as goal

pub loop-one-init : goal.loop-one-init
loop-one-init c = record {
  seen = none_seen c.args.graph.now c.args.country.now c.new-seen.result c.new-seen.ensures.empty;
  are = jobs_none c.args.graph.now _ c.new-found.ensures.items;
}

pub add_jobs-requires-clause-held : goal.add_jobs-requires-clause-held
add_jobs-requires-clause-held c =
    All-get_or (λ p. IsPerson c.args.graph.now p.0) c.as_slice-one-items.result.now c.loop-one.one-index (0, 0) c.loop-one-test.true
    (All-same (λ p. IsPerson c.args.graph.now p.0) _ c.in_ok-near.near c.as_slice-one-items.ensures (near_found c.args.graph.now c.args.person 2 c.in_ok-near.near c.in_ok-near.ensures))

pub loop-one-preserved : goal.loop-one-preserved
loop-one-preserved c = record {
  seen = c.in_ok-add_jobs.ensures.seen;
  are = jobs_more c.args.graph.now (λ (p : ℕ × ℕ). jobs_by c.args.graph.now c.args.country.now c.args.year p.0) c.as_slice-one-items.result.now c.loop-one.one-index (0, 0) _ c.loop-one-test.true
      (c.in_ok-add_jobs.ensures.found _ c.loop-one.invariant.are);
}

pub first_jobs-requires : goal.first_jobs-requires
first_jobs-requires c = c.loop-one.invariant.are.each

pub returns : goal.returns
returns c =
    let g = c.args.graph.now in
    let are = jobs_all g (λ (p : ℕ × ℕ). jobs_by g c.args.country.now c.args.year p.0) c.in_ok-near.near _ c.loop-one.one-index _ c.as_slice-one-items.ensures c.loop-one-test.false c.loop-one.invariant.are in
    IfOk-weaker c.first_jobs.result _ _ (λ a is. record {
      near = c.in_ok-near.near;
      within = c.in_ok-near.ensures;
      answers = subst (λ l. ReadAnswers l (IsJob g) (Rising 5 ∷ Rising 1 ∷ Falling 4 ∷ []) (FirstRows 10) a) are.same is;
    }) c.first_jobs.ensures
