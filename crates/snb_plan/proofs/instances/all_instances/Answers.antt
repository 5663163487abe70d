use Rattle.std.proofs.Common.{◌∙◌, ◌++◌, ℕ, List, [], ap, get_or, sym, take}
use Rattle.std.proofs.lemmas.List.{flat_map_more, take_more}
use Rattle.std.specs.List.{flat_map}
use Rattle.snb_schema.specs.Queries.{complex_queries}
use Rattle.snb_plan.specs.declared.instances.Instance.{Instance}
use Rattle.snb_plan.specs.Instances.{instances_of}
use Rattle.snb_plan.proofs.instances.all_instances.Goals as goal

pub loop-query-preserved : goal.loop-query-preserved
loop-query-preserved c =
    let part = instances_of c.args.frequencies.now c.args.count in
    let query : ℕ = get_or complex_queries c.loop-query.query-index 0 in
    c.in_ok-push_instances.ensures
    ∙ ap (λ (xs : List Instance). xs ++ part query) c.loop-query.invariant
    ∙ flat_map_more part [] (take c.loop-query.query-index complex_queries) query
    ∙ ap (λ (qs : List ℕ). flat_map part qs) (sym (take_more complex_queries c.loop-query.query-index 0 c.loop-query-test.true))
