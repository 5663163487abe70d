use Rattle.std.proofs.Common.{refl}
use Rattle.snb_handlers.specs.Table.{kinds}
use Rattle.snb_tool.proofs.OutcomeLemmas.{table_lacks}
use Rattle.snb_tool.proofs.table.validate_via.Goals as goal

pub returns-in-Some-clause-answer : goal.returns-in-Some-clause-answer
returns-in-Some-clause-answer g c = λ pick moments.
    table_lacks (g.S.Shelf.contents c.args.shelf.now) c.args.folder.now c.args.cases.now moments (record { kinds = kinds c.args.handlers.now; pick = pick }) c.in-Some.kind c.in-Some.ensures _ refl

pub returns-in-None-clause-answer : goal.returns-in-None-clause-answer
returns-in-None-clause-answer g c = λ pick moments. c.validate.ensures.table (record { kinds = kinds c.args.handlers.now; pick = pick }) moments c.in-None.ensures
