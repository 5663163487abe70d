use Rattle.std.proofs.Common.{Option, sym, subst}
use Rattle.snb_schema.specs.declared.table.Kind.{Kind}
use Rattle.snb_schema.specs.References.{end_ref}
use Rattle.snb_loader.specs.Tables.{IsFirstLacking}
use Rattle.snb_loader.proofs.LackingFacts.{one_lacking}
use Rattle.snb_loader.proofs.lacking.lacking_end.Goals as goal
use Rattle.snb_base.proofs.Laws.{not_held}

pub returns-else-has : goal.returns-else-has
returns-else-has c =
    subst (λ (k : Option Kind). IsFirstLacking c.args.tables.now.rows (end_ref c.args.column k c.args.id) c.args.column) (sym c.in-Some.is)
    (one_lacking c.args.tables.now.rows c.args.column c.in-Some.kind c.args.id (not_held c.has.result c.has.ensures c.if-has.false))
