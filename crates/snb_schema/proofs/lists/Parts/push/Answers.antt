use Rattle.std.proofs.Common.{[], ap, ◌∙◌}
use Rattle.snb_schema.specs.QueryLists.{QueryLists, list_of}
use Rattle.snb_schema.proofs.PlaceFacts.{always, lists_kept}
use Rattle.snb_schema.proofs.lists.Parts.push.Goals as goal

pub returns-clause-others : goal.returns-clause-others
returns-clause-others c = always c.append.result (λ other apart. lists_kept (λ v. v.items) c.self.inside.by_place _ [] c.place_of.result c.args.query other c.place_of.ensures c.requires c.self.invariant apart ∙ ap (λ (t : QueryLists). list_of t other) c.self.view_is)
