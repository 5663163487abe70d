use Rattle.std.proofs.Common.{◌≡◌, arith}
use Rattle.std.proofs.lemmas.Map.Entries.{entries_from_clone}
use Rattle.snb_graph_links.proofs.PairLemmas.{joined_start, joined_turn, lists_from_clone}
use Rattle.snb_graph_links.proofs.adjacency_map.joined.Goals as goal

pub loop-of-init : goal.loop-of-init
loop-of-init c =
    let same = lists_from_clone _ _ (λ x y e. e) (λ v w d. entries_from_clone (λ x y. y ≡ x) (λ x y. y ≡ x) (λ x y e. e) (λ x y e. e) v.items w.items d.0) _ _ c.in_ok-whole.ensures.cases in
    joined_start c.args.frozen.now c.args.added.now.entries _ _ same c.heads-of-items.ensures.rises c.heads-of-items.ensures.keys c.requires

pub loop-of-preserved : goal.loop-of-preserved
loop-of-preserved c =
    joined_turn c.args.frozen.now c.args.added.now.entries _ _ c.heads-of-items.result.now c.loop-of.of-index _ c.in_ok-all.all (omega arith) c.loop-of.invariant (rw (c.at.ensures, c.slice_at.ensures) at c.in_ok-all.ensures) c.in_ok-insert.ensures.updates.0
