use Rattle.snb_reach.proofs.LevelLemmas.{listed_from}
use Rattle.snb_reach.proofs.reach.listed.Goals as goal

pub returns : goal.returns
returns c = listed_from c.args.met.now c.in_ok-near.near _ c.in_ok-near.ensures.unique c.in_ok-near.ensures.items c.by_id.ensures.permutation c.by_id.ensures.rises
