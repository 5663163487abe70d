use Rattle.std.proofs.Common.{◌-◌, ap, ◌∙◌}
use Rattle.std.specs.Cmp.{nat_cmp_total, tied_itself}
use Rattle.std.specs.Ordering.{nat_cmp}
use Rattle.std.proofs.lemmas.Map.Lookups.{exact_unsigned}
use Rattle.snb_graph_maps.proofs.Laws.{found_at}
use Rattle.snb_graph_links.proofs.search.hinted.Goals as goal

pub returns-then-heads-at : goal.returns-then-heads-at
returns-then-heads-at c = found_at nat_cmp nat_cmp_total exact_unsigned c.args.heads.now c.args.of (c.in-Some.slot.now - 1) (0, (0, 0)) c.requires c.if-at-heads.true (ap (λ k. nat_cmp k c.args.of) c.if-heads-at.true ∙ tied_itself nat_cmp_total c.args.of)
