use Rattle.std.proofs.Common.{rules, sym}
use Rattle.std.proofs.lemmas.Fn.{always_returns_same}
use Rattle.snb_graph_links.proofs.search.find.Goals as goal
use Rattle.snb_graph_maps.proofs.Laws.{found_at, missed_at, searchable}

-- the key is at its place
pub returns-in-Ok : goal.returns-in-Ok
returns-in-Ok g c =
    let hit = c.in-Ok.ensures.position (λ e. g.K.Ord.cmp e.0 c.args.key.now) (always_returns_same _ _ _ (λ a r f called. search rules)) in
    sym (found_at g.K.Ord.cmp g.met.K.Ord.total g.met.K.Apart.same_key c.args.entries.now c.args.key.now c.in-Ok.at c.index-entries-at.result c.requires c.in-Ok.ensures.bound (hit c.index-entries-at.result))

-- the key isn't there
pub returns-in-Err : goal.returns-in-Err
returns-in-Err g c =
    let gap = c.in-Err.ensures.position (λ e. g.K.Ord.cmp e.0 c.args.key.now) (always_returns_same _ _ _ (λ a r f called. search rules)) (searchable g.K.Ord.cmp g.met.K.Ord.total g.met.K.Apart.same_key c.args.entries.now c.args.key.now c.requires) in
    sym (missed_at g.K.Ord.cmp g.met.K.Ord.total g.met.K.Apart.same_key c.args.entries.now c.args.key.now c.in-Err.field-0 c.requires gap.0 gap.1)
