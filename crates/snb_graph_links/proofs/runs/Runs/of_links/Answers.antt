use Rattle.std.proofs.Common.{◌≡◌, ◌∙◌, ◌+◌, ap, get_or, length, rules, refl, vec_len}
use Rattle.snb_graph_links.proofs.LinkRunLemmas.{filled_more, filled_none, filled_runs, filled_whole, next_link, no_link_left}
use Rattle.snb_graph_links.proofs.runs.Runs.of_links.Goals as goal

pub loop-of-init : goal.loop-of-init
loop-of-init c = rw (c.new-heads.ensures.items, c.in_ok-pairs.ensures.items) (filled_none c.args.links.now c.requires)

pub loop-of-preserved : goal.loop-of-preserved
loop-of-preserved c =
    let first : vec_len c.loop-of.pairs ≡ length c.loop-of.pairs.items = search rules in
    let last : vec_len c.push.new.self ≡ length c.push.new.self.items = search rules in
    let begin = c.len-begin.ensures ∙ first in
    rw (c.in_ok-grow.ensures, c.in_ok-push.ensures.items, begin)
    (filled_more c.args.links.now c.loop-of.heads.items c.loop-of.pairs.items c.loop-of.of-index (get_or c.args.links.now c.loop-of.of-index (0, (0, 0))) c.len.result (c.loop-of.of-index + 1)
    (next_link c.args.links.now c.loop-of.of-index (c.loop-of.of-index + 1) (0, (0, 0)) (search rules) refl)
    (c.len.ensures ∙ last ∙ ap length c.in_ok-push.ensures.items) c.loop-of.invariant)

pub invariant_of-result : goal.invariant_of-result
invariant_of-result c = filled_runs c.args.links.now c.loop-of.heads.items c.loop-of.pairs.items c.loop-of.of-index c.loop-of.invariant

pub returns : goal.returns
returns c q = filled_whole c.args.links.now c.loop-of.heads.items c.loop-of.pairs.items c.loop-of.of-index (no_link_left c.args.links.now c.loop-of.of-index c.loop-of-test.false) c.loop-of.invariant q
