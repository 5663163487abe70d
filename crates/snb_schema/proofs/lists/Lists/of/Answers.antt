use Rattle.std.proofs.Common.{subst, sym}
use Rattle.snb_schema.specs.QueryLists.{AreOf}
use Rattle.snb_schema.proofs.lists.Lists.of.Goals as goal

pub returns-clause-kind : goal.returns-clause-kind
returns-clause-kind c = subst (AreOf c.args.query) (sym c.of.ensures) (c.self.invariant c.args.query)
