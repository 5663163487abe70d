use Rattle.std.proofs.Common.{ℕ, List, ap, nat_eq}
use Rattle.std.specs.Map.{lookup}
use Rattle.snb_reach.proofs.LeveledLemmas.{mapping_more, mapping_none, remapped, remapping_more, remapping_none}
use Rattle.snb_reach.proofs.leveled.mapped.Goals as goal

pub loop-id-init : goal.loop-id-init
loop-id-init c = mapping_none c.args.level c.args.met.now c.args.ids.now _ (λ q. ap (λ (es : List (ℕ × ℕ)). lookup (nat_eq q) es) c.in_ok-map.ensures.empty)

pub loop-id-preserved : goal.loop-id-preserved
loop-id-preserved c = mapping_more c.args.level c.args.met.now c.args.ids.now c.loop-id.id-index 0 _ _ c.loop-id-test.true c.in_ok-insert.ensures.updates.0 c.loop-id.invariant

pub loop-one-init : goal.loop-one-init
loop-one-init c = remapping_none c.args.level c.args.met.now c.args.ids.now c.loop-id.id-index _ c.loop-id-test.false c.loop-id.invariant

pub loop-one-preserved : goal.loop-one-preserved
loop-one-preserved c = remapping_more c.args.level c.args.met.now c.args.ids.now c.loop-one.one-index (0, 0) _ _ c.loop-one-test.true c.in_ok-insert-2.ensures.updates.0 c.loop-one.invariant

pub returns-clause-placed : goal.returns-clause-placed
returns-clause-placed c = remapped c.args.level c.args.met.now c.args.ids.now c.loop-one.one-index _ c.loop-one-test.false c.loop-one.invariant

pub returns-clause-all : goal.returns-clause-all
returns-clause-all c = c.loop-one.invariant.all
