use Rattle.std.proofs.Common.{sym, ◌∙◌, ap, is_some}
use mathlib.Core.Bool.{false≢true}
use Rattle.snb_graph_maps.proofs.PendingLemmas.{told_alike}
use Rattle.snb_graph_maps.proofs.pending.held.Goals as goal

pub returns : goal.returns
returns g c = sym (c.in-Some.ensures.value ∙ told_alike g.K.Ord.cmp g.met.K.Ord.total g.met.K.Apart.same_key g.K.PartialEq.eq g.met.K.Ord.matches_eq c.args.map.now.entries c.args.key.now)

pub unreachable-requires : goal.unreachable-requires
unreachable-requires g c = false≢true (ap is_some (c.in-None.ensures.value ∙ told_alike g.K.Ord.cmp g.met.K.Ord.total g.met.K.Apart.same_key g.K.PartialEq.eq g.met.K.Ord.matches_eq c.args.map.now.entries c.args.key.now) ∙ c.requires)
