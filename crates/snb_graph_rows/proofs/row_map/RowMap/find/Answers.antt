use Rattle.std.proofs.Common.{◌∙◌, ap, sym}
use Rattle.std.specs.Option.{is_some}
use Rattle.snb_graph_rows.proofs.Entries.{found_iff, found_row, if_found}
use Rattle.snb_graph_rows.proofs.Laws.{some_copied}
use Rattle.snb_graph_rows.proofs.row_map.RowMap.find.Goals as goal

pub returns-clause-held : goal.returns-clause-held
returns-clause-held g c =
    let same = found_iff g.K.Ord.cmp g.met.K.Ord.total g.met.K.Apart.same_key g.V.Kept.part (g.K.Key.name g.V.Kept.table) g.V.Kept.as_row (g.met.K.Key.ordered g.V.Kept.table) _ c.self.invariant.fit c.args.key.now in
    let copied = some_copied c.get.result ∙ ap is_some c.get.ensures in
    rw (← c.self.view_is) (λ yes. same.0 (sym copied ∙ yes), λ held. copied ∙ same.1 held)

pub returns-clause-found : goal.returns-clause-found
returns-clause-found g c = rw (← c.self.view_is) (if_found _ _ (λ v is. found_row g.K.Ord.cmp g.met.K.Ord.total g.met.K.Apart.same_key g.V.Kept.part (g.K.Key.name g.V.Kept.table) g.V.Kept.as_row (g.met.K.Key.ordered g.V.Kept.table) _ c.args.key.now v (sym c.get.ensures ∙ is) c.self.invariant.fit))
