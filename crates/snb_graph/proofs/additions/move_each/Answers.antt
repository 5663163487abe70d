use Rattle.std.proofs.Common.{rules, sym, subst, vec_len, ◌≡◌, ◌∙◌, ◌+◌, length, drop, ap, arith, length-append}
use Rattle.std.proofs.lemmas.Iterator.Adapters.{YieldsList-from_vec}
use Rattle.std.proofs.lemmas.Iterator.Consumers.{YieldsList-so_far, YieldsList-turn}
use Rattle.snb_schema.specs.declared.row.Row.{Row}
use Rattle.snb_graph.specs.declared.additions.Noted.{Noted}
use Rattle.snb_graph.specs.Additions.{Lead}
use Rattle.snb_graph.proofs.GraphLemmas.{first_alone, lead_on, next_item, one_taken, still_new}
use Rattle.snb_graph.proofs.additions.move_each.Goals as goal

pub move_one-requires-clause-free : goal.move_one-requires-clause-free
move_one-requires-clause-free c =
    let from = c.into_iter-row-iterator.ensures.into_iter_gives in
    let rows_len : vec_len c.args.rows ≡ length c.args.rows.items = search rules in
    let road = YieldsList-from_vec c.args.rows.items from.0 (from.1 ∙ rows_len) in
    let front = YieldsList-so_far road c.loop-row.yielded c.loop-row.row-iterator c.loop-row.yielded_by in
    let at = YieldsList-turn road c.loop-row.yielded c.loop-row.row-iterator c.loop-row.yielded_by c.next.result c.next.new.self c.in-Some.row c.in-Some.is c.next.ensures.steps in
    still_new c.args.tables.now.rows c.loop-row.yielded c.loop-row.tables.rows c.args.rows.items (drop (length c.loop-row.yielded + 1) c.args.rows.items) c.in-Some.row c.loop-row.invariant.taken c.requires.new
    (next_item c.loop-row.yielded c.args.rows.items c.in-Some.row front at)

pub move_one-requires-clause-alone : goal.move_one-requires-clause-alone
move_one-requires-clause-alone c =
    let from = c.into_iter-row-iterator.ensures.into_iter_gives in
    let rows_len : vec_len c.args.rows ≡ length c.args.rows.items = search rules in
    let road = YieldsList-from_vec c.args.rows.items from.0 (from.1 ∙ rows_len) in
    let front = YieldsList-so_far road c.loop-row.yielded c.loop-row.row-iterator c.loop-row.yielded_by in
    let at = YieldsList-turn road c.loop-row.yielded c.loop-row.row-iterator c.loop-row.yielded_by c.next.result c.next.new.self c.in-Some.row c.in-Some.is c.next.ensures.steps in
    first_alone c.args.tables.now.rows c.loop-row.tables.rows c.loop-row.yielded c.args.rows.items (drop (length c.loop-row.yielded + 1) c.args.rows.items) c.loop-row.added.items c.in-Some.row c.loop-row.invariant.noted c.loop-row.invariant.lead
    (next_item c.loop-row.yielded c.args.rows.items c.in-Some.row front at) c.requires.alone

pub loop-row-preserved : goal.loop-row-preserved
loop-row-preserved c =
    let noted = c.in-Ok.ensures.moved.ok in
    record {
      lead = subst (λ l. Lead c.args.tables.now.rows l c.move_one.new.tables.rows) (sym noted.last) (lead_on c.args.tables.now.rows c.loop-row.tables.rows c.move_one.new.tables.rows c.loop-row.added.items c.in-Some.row noted.note c.loop-row.invariant.lead noted.is);
      taken = one_taken c.args.tables.now.rows c.loop-row.yielded c.loop-row.tables.rows c.move_one.new.tables.rows c.in-Some.row c.loop-row.invariant.taken noted.is.free noted.is.gained;
      frozen = c.in-Ok.ensures.moved.frozen ∙ c.loop-row.invariant.frozen;
      noted =
          let one = ap length noted.last in
          omega (arith, one, c.loop-row.invariant.noted, length-append {A = Noted}, length-append {A = Row});
      kept = c.move_one.ensures.kept;
    }

pub returns-in-Err-clause-lead : goal.returns-in-Err-clause-lead
returns-in-Err-clause-lead c = rw (c.in-Err.ensures.moved.err, c.in-Err.ensures.moved.same) c.loop-row.invariant.lead

pub returns-in-Err-clause-frozen : goal.returns-in-Err-clause-frozen
returns-in-Err-clause-frozen c = c.in-Err.ensures.moved.frozen ∙ c.loop-row.invariant.frozen
