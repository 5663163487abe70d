use Rattle.std.proofs.Common.{refl}
use Rattle.snb_reach.proofs.LeveledLemmas.{leveled_all, leveled_rises, leveling_more, leveling_none}
use Rattle.snb_reach.proofs.leveled.leveled.Goals as goal

pub loop-id-init : goal.loop-id-init
loop-id-init c = leveling_none c.args.level c.args.met.now c.args.ids.now c.requires.among _ c.in_ok-all.ensures.items

pub loop-id-preserved : goal.loop-id-preserved
loop-id-preserved c = leveling_more c.args.level c.args.met.now c.args.ids.now c.requires.met_rises c.requires.ids_rise c.loop-id.id-index c.loop-id.at _ _ _ c.loop-id.all.items _ c.loop-id-test.true refl c.in_ok-push.ensures.items c.loop-id.invariant c.distance_at-distance.ensures

pub returns-clause-rises : goal.returns-clause-rises
returns-clause-rises c = leveled_rises c.args.level c.args.met.now c.args.ids.now c.loop-id.all.items c.loop-id.id-index c.loop-id.at c.loop-id-test.false c.loop-id.invariant c.requires.ids_rise c.loop-id.auto.id-index-end

pub returns-clause-all : goal.returns-clause-all
returns-clause-all c = leveled_all c.args.level c.args.met.now c.args.ids.now c.loop-id.all.items c.loop-id.id-index c.loop-id.at c.loop-id-test.false c.loop-id.invariant
