use Rattle.snb_graph_maps.specs.Merged.{all_of}
use Rattle.snb_graph_maps.proofs.Laws.{remove_rises}
use Rattle.std.specs.BTreeMap.{is_at}
use Rattle.snb_graph_rows.proofs.Entries.{found_iff, frozen_fit, none_if_new, none_lost, part_whole, rows_lost, kept_lost}
use Rattle.snb_graph_rows.proofs.row_map.RowMap.take_back.Goals as goal

pub take_back-requires : goal.take_back-requires
take_back-requires g c = none_if_new _ (found_iff g.K.Ord.cmp g.met.K.Ord.total g.met.K.Apart.same_key g.V.Kept.part (g.K.Key.name g.V.Kept.table) g.V.Kept.as_row (g.met.K.Key.ordered g.V.Kept.table) _ (frozen_fit g.K.Ord.cmp g.met.K.Ord.total g.met.K.Apart.same_key g.V.Kept.part (g.K.Key.name g.V.Kept.table) g.V.Kept.as_row (g.met.K.Key.ordered g.V.Kept.table) _ _ c.known.ensures.parts c.self.invariant) c.args.key.now) (rw (← c.self.view_is) at c.requires)

pub invariant_of-self : goal.invariant_of-self
invariant_of-self g c = rw c.take_back.ensures.gone (kept_lost g.K.Ord.cmp g.met.K.Ord.total g.met.K.Apart.same_key g.V.Kept.part (g.K.Key.name g.V.Kept.table) g.V.Kept.as_row (g.met.K.Key.ordered g.V.Kept.table) _ c.args.key.now c.self.invariant (remove_rises g.K.Ord.cmp g.met.K.Ord.total g.met.K.Apart.same_key (is_at (g.K.Ord.cmp c.args.key.now)) (all_of g.K.Ord.cmp c.self.inside.store) c.self.invariant.rises))

pub returns-clause-lost : goal.returns-clause-lost
returns-clause-lost g c = rw (c.take_back.ensures.gone, ← c.self.view_is) (rows_lost g.K.Ord.cmp g.met.K.Ord.total g.met.K.Apart.same_key g.V.Kept.part (g.K.Key.name g.V.Kept.table) g.V.Kept.as_row (g.met.K.Key.ordered g.V.Kept.table) _ c.self.invariant c.args.key.now)

pub returns-clause-none : goal.returns-clause-none
returns-clause-none g c = rw (c.take_back.ensures.gone, ← c.self.view_is) (none_lost g.K.Ord.cmp g.met.K.Ord.total g.met.K.Apart.same_key g.V.Kept.part (g.K.Key.name g.V.Kept.table) g.V.Kept.as_row (g.met.K.Key.ordered g.V.Kept.table) _ c.self.invariant c.args.key.now)

pub returns-clause-whole : goal.returns-clause-whole
returns-clause-whole g c = part_whole g.K.Ord.cmp g.met.K.Ord.total g.met.K.Apart.same_key g.V.Kept.part (g.K.Key.name g.V.Kept.table) g.V.Kept.as_row (g.met.K.Key.ordered g.V.Kept.table) _ (invariant_of-self g c)
