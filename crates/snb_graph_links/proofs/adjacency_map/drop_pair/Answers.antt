use Rattle.std.proofs.Common.{rules, not, nat_eq}
use Rattle.std.proofs.lemmas.Fn.{filter_same}
use Rattle.snb_graph_links.proofs.adjacency_map.drop_pair.Goals as goal

pub returns : goal.returns
returns c = filter_same _ (λ p. not (nat_eq p.0 c.args.id)) _ (λ x b f called. search rules) _ _ c.retain.ensures.filtered
