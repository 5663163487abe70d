use Rattle.std.proofs.Common.{◌∙◌, ap}
use Rattle.std.specs.Option.{option_copied}
use Rattle.snb_graph_maps.specs.Ahead.{ahead}
use Rattle.snb_graph_maps.proofs.PendingLemmas.{cut_ahead, within}
use Rattle.snb_graph_maps.proofs.pending.Scan.over.Goals as goal

pub invariant_of-result : goal.invariant_of-result
invariant_of-result g c = rw c.before-2.ensures (within g.K.Ord.cmp g.met.K.Ord.total g.met.K.Apart.same_key c.args.map.now.entries (option_copied c.args.next) (option_copied c.args.end) c.requires)

pub returns : goal.returns
returns g c = ap (λ n. ahead g.K.Ord.cmp c.args.map.now.entries n (option_copied c.args.end)) c.before-2.ensures ∙ cut_ahead g.K.Ord.cmp g.met.K.Ord.total g.met.K.Apart.same_key c.args.map.now.entries (option_copied c.args.next) (option_copied c.args.end)
