use Rattle.snb_schema.proofs.Appended.{sorted_after}
use Rattle.snb_schema.proofs.lists.Lists.push.Goals as goal

pub invariant_of-self : goal.invariant_of-self
invariant_of-self c = sorted_after c.push.result c.self.inside.parts c.push.new.self c.args.query c.args.one c.requires.kind c.push.ensures.appended c.push.ensures.others c.push.ensures.err c.self.invariant
