use Rattle.std.proofs.Common.{◌≡◌, ◌++◌, ◌∙◌, ap, length, rules, vec_len}
use Rattle.snb_graph_links.proofs.RunLemmas.{filled_runs, filled_step}
use Rattle.snb_graph_links.proofs.runs.Runs.of.Goals as goal

pub loop-of-preserved : goal.loop-of-preserved
loop-of-preserved c =
    let here = rw c.in-Some.ensures.steps at c.loop-of.invariant in
    let first : vec_len c.loop-of.pairs ≡ length c.loop-of.pairs.items = search rules in
    let last : vec_len c.extend_from_slice.new.self ≡ length c.extend_from_slice.new.self.items = search rules in
    rw c.in_ok-push.ensures.items
    (filled_step c.args.map.now.entries c.loop-of.heads.items c.loop-of.pairs.items c.extend_from_slice.new.self.items c.next.new.self c.in-Some.of.now c.in-Some.list.now c.len-begin.result c.len-in-loop-of.result here
    (c.in_ok-extend_from_slice.ensures.items ∙ ap (λ xs. c.loop-of.pairs.items ++ xs) c.as_slice.ensures.value) (c.len-begin.ensures ∙ first) (c.len-in-loop-of.ensures ∙ last))

pub invariant_of-result : goal.invariant_of-result
invariant_of-result c = filled_runs c.args.map.now.entries c.loop-of.heads.items c.loop-of.pairs.items c.loop-of.of-iterator c.in-None.ensures.steps.0 c.loop-of.invariant c.into_iter-of-iterator.ensures.into_iter_gives.5
