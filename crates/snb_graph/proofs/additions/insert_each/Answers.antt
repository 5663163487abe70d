use Rattle.std.proofs.Common.{rules, sym, subst, vec_len, ◌≡◌, ◌∙◌, ◌+◌, length, drop}
use Rattle.std.proofs.lemmas.Iterator.Adapters.{YieldsList-from_vec}
use Rattle.std.proofs.lemmas.Iterator.Consumers.{YieldsList-so_far, YieldsList-turn}
use Rattle.snb_graph.specs.Additions.{Lead}
use Rattle.snb_graph.proofs.GraphLemmas.{lead_on, next_item, one_taken, taken_clash}
use Rattle.snb_graph.proofs.additions.insert_each.Goals as goal

pub loop-row-preserved : goal.loop-row-preserved
loop-row-preserved c =
    let noted = c.in-Ok.ensures.moved.ok in
    record {
      lead = subst (λ l. Lead c.args.tables.now.rows l c.insert_one.new.tables.rows) (sym noted.last) (lead_on c.args.tables.now.rows c.loop-row.tables.rows c.insert_one.new.tables.rows c.loop-row.added.items c.in-Some.row noted.note c.loop-row.invariant.lead noted.is);
      taken = one_taken c.args.tables.now.rows c.loop-row.yielded c.loop-row.tables.rows c.insert_one.new.tables.rows c.in-Some.row c.loop-row.invariant.taken noted.is.free noted.is.gained;
      frozen = c.in-Ok.ensures.moved.frozen ∙ c.loop-row.invariant.frozen;
      kept = c.insert_one.ensures.kept;
    }

pub returns-in-Err-clause-lead : goal.returns-in-Err-clause-lead
returns-in-Err-clause-lead c = rw (c.in-Err.ensures.moved.err, c.in-Err.ensures.moved.same) c.loop-row.invariant.lead

pub returns-in-Err-clause-frozen : goal.returns-in-Err-clause-frozen
returns-in-Err-clause-frozen c = c.in-Err.ensures.moved.frozen ∙ c.loop-row.invariant.frozen

pub returns-in-Err-clause-duplicate : goal.returns-in-Err-clause-duplicate
returns-in-Err-clause-duplicate c e =
    let from = c.into_iter-row-iterator.ensures.into_iter_gives in
    let rows_len : vec_len c.args.rows ≡ length c.args.rows.items = search rules in
    let road = YieldsList-from_vec c.args.rows.items from.0 (from.1 ∙ rows_len) in
    let front = YieldsList-so_far road c.loop-row.yielded c.loop-row.row-iterator c.loop-row.yielded_by in
    let at = YieldsList-turn road c.loop-row.yielded c.loop-row.row-iterator c.loop-row.yielded_by c.next.result c.next.new.self c.in-Some.row c.in-Some.is c.next.ensures.steps in
    taken_clash c.args.tables.now.rows c.loop-row.yielded c.loop-row.tables.rows c.args.rows.items (drop (length c.loop-row.yielded + 1) c.args.rows.items) c.in-Some.row c.loop-row.invariant.taken
    (c.in-Err.ensures.duplicate e) (next_item c.loop-row.yielded c.args.rows.items c.in-Some.row front at)
