use Rattle.snb_schema.specs.References.{end_ref}
use Rattle.snb_loader.proofs.LackingFacts.{later_lacking}
use Rattle.snb_loader.proofs.lacking.lacking_of_two.Goals as goal

pub returns-in-None : goal.returns-in-None
returns-in-None c =
    later_lacking c.args.tables.now.rows (end_ref 1 c.args.first c.args.one) (end_ref 2 c.args.second c.args.other) c.lacking_end-in-None.result c.in-None.ensures c.lacking_end-in-None.ensures
