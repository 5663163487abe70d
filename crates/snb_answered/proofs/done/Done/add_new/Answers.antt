use Rattle.std.proofs.lemmas.Result.{on_ok_weaker}
use Rattle.snb_answered.proofs.Gathered.{has_one, has_one_already}
use Rattle.snb_answered.proofs.done.Done.add_new.Goals as goal

pub returns-then-has : goal.returns-then-has
returns-then-has c = has_one_already c.args.one c.args.self.now c.if-has.ensures

pub returns : goal.returns
returns c = on_ok_weaker c.push.result (has_one c.args.one c.args.self.now c.push.new.self) c.push.ensures.ok
