use Rattle.snb_graph_maps.specs.Merged.{all_of}
use Rattle.snb_graph_maps.proofs.Laws.{insert_rises}
use Rattle.snb_graph_rows.proofs.Entries.{part_whole, found_iff, none_if_new, rows_added, rows_more, kept_added}
use Rattle.snb_graph_rows.proofs.row_map.RowMap.add.Goals as goal

pub add-requires : goal.add-requires
add-requires g c = none_if_new _ (found_iff g.K.Ord.cmp g.met.K.Ord.total g.met.K.Apart.same_key g.V.Kept.part (g.K.Key.name g.V.Kept.table) g.V.Kept.as_row (g.met.K.Key.ordered g.V.Kept.table) _ c.self.invariant.fit c.args.key) (rw (← c.self.view_is) at c.requires.new)

pub invariant_of-self-2 : goal.invariant_of-self-2
invariant_of-self-2 g c =
    rw c.in_ok-add.ensures.ok (kept_added g.K.Ord.cmp g.met.K.Ord.total g.met.K.Apart.same_key g.V.Kept.part (g.K.Key.name g.V.Kept.table) g.V.Kept.as_row (g.met.K.Key.ordered g.V.Kept.table) _ c.args.key c.args.value (none_if_new _ (found_iff g.K.Ord.cmp g.met.K.Ord.total g.met.K.Apart.same_key g.V.Kept.part (g.K.Key.name g.V.Kept.table) g.V.Kept.as_row (g.met.K.Key.ordered g.V.Kept.table) _ c.self.invariant.fit c.args.key) (rw (← c.self.view_is) at c.requires.new)) c.self.invariant c.requires.fits (insert_rises g.K.Ord.cmp g.met.K.Ord.total g.met.K.Apart.same_key (all_of g.K.Ord.cmp c.self.inside.store) c.args.key c.args.value c.self.invariant.rises))

pub returns-clause-ok : goal.returns-clause-ok
returns-clause-ok g c = rw (c.in_ok-add.ensures.ok, ← c.self.view_is) (rows_added g.K.Ord.cmp g.met.K.Ord.total g.met.K.Apart.same_key g.V.Kept.part (g.K.Key.name g.V.Kept.table) g.V.Kept.as_row (g.met.K.Key.ordered g.V.Kept.table) _ c.args.key c.args.value (none_if_new _ (found_iff g.K.Ord.cmp g.met.K.Ord.total g.met.K.Apart.same_key g.V.Kept.part (g.K.Key.name g.V.Kept.table) g.V.Kept.as_row (g.met.K.Key.ordered g.V.Kept.table) _ c.self.invariant.fit c.args.key) (rw (← c.self.view_is) at c.requires.new)))

pub returns-clause-whole : goal.returns-clause-whole
returns-clause-whole g c = part_whole g.K.Ord.cmp g.met.K.Ord.total g.met.K.Apart.same_key g.V.Kept.part (g.K.Key.name g.V.Kept.table) g.V.Kept.as_row (g.met.K.Key.ordered g.V.Kept.table) _ (invariant_of-self-2 g c)

pub returns-in_err-add-clause-whole : goal.returns-in_err-add-clause-whole
returns-in_err-add-clause-whole g c = rw c.in_err-add.ensures.err (part_whole g.K.Ord.cmp g.met.K.Ord.total g.met.K.Apart.same_key g.V.Kept.part (g.K.Key.name g.V.Kept.table) g.V.Kept.as_row (g.met.K.Key.ordered g.V.Kept.table) _ c.self.invariant)

pub returns-clause-more : goal.returns-clause-more
returns-clause-more g c = rw (← c.self.view_is) (rows_more _ _ _ c.in_ok-add.ensures.more)
