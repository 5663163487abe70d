use Rattle.snb_validation_expect.proofs.Steps.{all_put, at_first}
use Rattle.snb_validation_expect.proofs.expect.expect_via.Goals as goal

pub expect_all-requires-clause-at : goal.expect_all-requires-clause-at
expect_all-requires-clause-at g c = at_first c.args.graph c.args.plan.now c.known-2.ensures c.requires.sound c.known.ensures c.requires.closed

pub returns-in-Ok-clause-ok : goal.returns-in-Ok-clause-ok
returns-in-Ok-clause-ok g c =
    all_put c.args.graph c.args.plan.now c.args.to.now.items c.extend_from_slice.new.self.items c.expect_all.new.to.items c.in-Ok.ensures.ok.0 c.in_ok-extend_from_slice.ensures.items c.in-Ok.ensures.ok.1
