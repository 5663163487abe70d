use Rattle.std.proofs.Common.{refl}
use Rattle.snb_handlers.specs.Table.{kinds}
use Rattle.snb_tool.specs.Connectors.{connector_of}
use Rattle.snb_tool.proofs.OutcomeLemmas.{walk_lacks}
use Rattle.snb_tool.proofs.table.walk_via.Goals as goal

pub returns-in-Some-clause-answer : goal.returns-in-Some-clause-answer
returns-in-Some-clause-answer g c = λ moments.
    walk_lacks (g.S.Shelf.contents c.args.shelf.now) c.args.folder.now c.args.query.now c.args.chance c.args.words.now (connector_of c.args.handlers.now c.args.policy.now) moments c.in-Some.kind c.in-Some.ensures _ refl

pub returns-in-None-clause-answer : goal.returns-in-None-clause-answer
returns-in-None-clause-answer g c = λ moments. c.walk.ensures.answer (kinds c.args.handlers.now) moments c.in-None.ensures
