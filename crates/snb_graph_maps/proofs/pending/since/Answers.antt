use Rattle.std.proofs.Common.{sym, ◌∙◌}
use Rattle.std.proofs.lemmas.Map.Made.{lookup_key_passes}
use Rattle.std.specs.Option.{option_copied}
use Rattle.snb_graph_maps.proofs.PendingLemmas.{since_found, since_missed, told_alike}
use Rattle.snb_graph_maps.proofs.pending.since.Goals as goal

pub returns-in-Some : goal.returns-in-Some
returns-in-Some g c = since_found g.K.Ord.cmp g.met.K.Ord.total g.met.K.Apart.same_key c.args.map.now.entries c.args.from.now _ _ (sym (g.met.K.Ord.matches_eq c.args.from.now _) ∙ lookup_key_passes (g.K.PartialEq.eq c.args.from.now) c.args.map.now.entries _ (sym c.in-Some.ensures.key)) (sym (c.in-Some.ensures.value ∙ told_alike g.K.Ord.cmp g.met.K.Ord.total g.met.K.Apart.same_key g.K.PartialEq.eq g.met.K.Ord.matches_eq c.args.map.now.entries c.args.from.now))

pub returns-in-None : goal.returns-in-None
returns-in-None g c = since_missed g.K.Ord.cmp g.met.K.Ord.total g.met.K.Apart.same_key c.args.map.now.entries c.args.from.now (option_copied c.least_in.result) (sym (c.in-None.ensures.value ∙ told_alike g.K.Ord.cmp g.met.K.Ord.total g.met.K.Apart.same_key g.K.PartialEq.eq g.met.K.Ord.matches_eq c.args.map.now.entries c.args.from.now)) c.least_in.ensures
