use Rattle.std.proofs.Common.{◌∙◌, sym}
use Rattle.snb_graph_rows.proofs.Entries.{found_iff}
use Rattle.snb_graph_rows.proofs.row_map.RowMap.has.Goals as goal

pub returns : goal.returns
returns g c =
    let same = found_iff g.K.Ord.cmp g.met.K.Ord.total g.met.K.Apart.same_key g.V.Kept.part (g.K.Key.name g.V.Kept.table) g.V.Kept.as_row (g.met.K.Key.ordered g.V.Kept.table) _ c.self.invariant.fit c.args.key.now in
    rw (← c.self.view_is) (λ yes. same.0 (sym c.has.ensures ∙ yes), λ held. c.has.ensures ∙ same.1 held)
