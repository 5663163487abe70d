use Rattle.std.proofs.Common.{◌∷◌, [], map, subst, ◌∙◌}
use Rattle.std.specs.Map.{keys_of}
use Rattle.std.specs.Map.Iter.{deref}
use Rattle.std.specs.Option.{option_copied}
use Rattle.std.proofs.lemmas.List.{map-append}
use Rattle.std.proofs.lemmas.Map.Iter.{iter_end}
use Rattle.snb_graph_maps.specs.Ahead.{IsLeast, is_above}
use Rattle.snb_graph_maps.proofs.LeastLemmas.{least_more, least_none}
use Rattle.snb_graph_maps.proofs.pending.least_in.Goals as goal

pub loop-key-init : goal.loop-key-init
loop-key-init g c = least_none g.K.Ord.cmp g.met.K.Ord.total g.met.K.Apart.same_key (is_above g.K.Ord.cmp (option_copied c.args.low))

pub loop-key-preserved : goal.loop-key-preserved
loop-key-preserved g c = rw (map-append deref c.loop-key.yielded (c.in-Some.key ∷ []), c.lesser-least.ensures) (least_more g.K.Ord.cmp g.met.K.Ord.total g.met.K.Apart.same_key (option_copied c.args.low) (map deref c.loop-key.yielded) c.in-Some.key.now (option_copied c.loop-key.least) c.loop-key.invariant)

pub returns : goal.returns
returns g c = subst (λ ks. IsLeast g.K.Ord.cmp (is_above g.K.Ord.cmp (option_copied c.args.low)) ks (option_copied c.loop-key.least)) (iter_end deref (keys_of c.args.map.now.entries) c.loop-key.yielded c.into_iter-key-iterator.result c.loop-key.key-iterator c.next.new.self c.next.result (c.into_iter-key-iterator.ensures.into_iter_gives ∙ c.keys-key-items.ensures.rest) c.loop-key.yielded_by c.in-None.is c.next.ensures.steps).0 c.loop-key.invariant
