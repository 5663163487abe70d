use Rattle.std.proofs.Common.{sym, subst}
use Rattle.snb_schema.specs.RowKeys.{slot_of}
use Rattle.snb_graph_adjacency.specs.Kept.{IsBacked}
use Rattle.snb_graph_adjacency.specs.LinkDelta.{IsLinkDelta}
use Rattle.snb_graph_adjacency.proofs.Laws.{delta_left, delta_own, still_backed}
use Rattle.snb_graph_model.specs.Graphs.{HasSlot}
use Rattle.snb_graph.proofs.GraphLemmas.{not_frozen, row_there, taken_back}
use Rattle.snb_graph.proofs.additions.take_last.Goals as goal

pub take-requires-clause-fits : goal.take-requires-clause-fits
take-requires-clause-fits c = c.requires.some.3.fits

pub take-requires-clause-held : goal.take-requires-clause-held
take-requires-clause-held c =
    let (before, r, from, is, holds) = c.requires.some in
    record { it = r; held = row_there before c.args.tables.now.rows r c.args.noted is; keyed = sym is.named }

pub take-requires-clause-free : goal.take-requires-clause-free
take-requires-clause-free c =
    let (before, r, from, is, holds) = c.requires.some in
    not_frozen before c.args.tables.now.rows c.args.tables.now.frozen r c.args.noted is holds

pub drop_delta-requires : goal.drop_delta-requires
drop_delta-requires c =
    let (before, r, from, is, holds) = c.requires.some in
    let back = c.take.ensures.gone r (row_there before c.args.tables.now.rows r c.args.noted is) (sym is.named) in
    let same = taken_back before c.args.tables.now.rows c.take.new.self.rows r c.args.noted c.graphs_are_their_rows.ensures from c.known.ensures is back in
    delta_own c.take.new.self.rows c.take.new.self.frozen r c.args.links.now c.args.noted.delta (subst (λ g. IsBacked g c.args.links.now) (sym c.take.ensures.frozen) c.requires.kept.backed) c.shared.ensures
    (subst (λ g. IsLinkDelta g r c.args.noted.delta) (sym same) is.says) (subst (λ g. ¬ HasSlot g (slot_of r)) (sym same) is.free)

pub returns-clause-back : goal.returns-clause-back
returns-clause-back c before r from is =
    taken_back before c.args.tables.now.rows c.take.new.self.rows r c.args.noted c.graphs_are_their_rows.ensures from c.known.ensures is
    (c.take.ensures.gone r (row_there before c.args.tables.now.rows r c.args.noted is) (sym is.named))

pub returns-clause-kept : goal.returns-clause-kept
returns-clause-kept c =
    let (before, r, from, is, holds) = c.requires.some in
    let back = c.take.ensures.gone r (row_there before c.args.tables.now.rows r c.args.noted is) (sym is.named) in
    let same = taken_back before c.args.tables.now.rows c.take.new.self.rows r c.args.noted c.graphs_are_their_rows.ensures from c.known.ensures is back in
    record {
      indexed = delta_left c.args.tables.now.rows c.take.new.self.rows r c.args.links.now c.drop_delta.new.self c.args.noted.delta c.requires.kept.indexed back.graph back.rows
          (subst (λ g. IsLinkDelta g r c.args.noted.delta) (sym same) is.says) (subst (λ g. ¬ HasSlot g (slot_of r)) (sym same) is.free) c.drop_delta.ensures.gone;
      backed = subst (λ g. IsBacked g c.drop_delta.new.self) (sym c.take.ensures.frozen) (still_backed c.args.tables.now.frozen c.args.links.now c.drop_delta.new.self c.drop_delta.ensures.frozen c.requires.kept.backed);
    }
