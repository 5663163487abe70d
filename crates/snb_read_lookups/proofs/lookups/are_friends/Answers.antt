use Rattle.std.proofs.Common.{◌≡◌, min, max, [], sym, subst, arith}
use Rattle.snb_schema.specs.declared.table.Table.TheVariants as table
use Rattle.snb_schema.specs.RowKeys.{RowKey}
use Rattle.snb_graph_model.specs.Graphs.{HasKey}
use Rattle.snb_graph_model.specs.Around.{is_friend}
use Rattle.snb_read_lookups.proofs.Laws.{befriends_key, key_befriends, same_test}
use Rattle.snb_read_lookups.proofs.lookups.are_friends.Goals as goal

pub returns : goal.returns
returns c =
    let g = c.args.graph.now in
    let low : c.min.result ≡ min c.args.one c.args.other = omega (arith, c.min.ensures) in
    let high : c.max.result ≡ max c.args.one c.args.other = omega (arith, c.max.ensures) in
    let keys : ◌≡◌ {A = RowKey} (table.PersonKnowsPerson, c.min.result, c.max.result, []) (table.PersonKnowsPerson, min c.args.one c.args.other, max c.args.one c.args.other, []) = λ i. (table.PersonKnowsPerson, low i, high i, []) in
    same_test c.has.result (is_friend g c.args.one c.args.other) (λ e. key_befriends g c.known.ensures c.args.one c.args.other (subst (HasKey g) keys (c.has.ensures.0 e)))
    (λ e. c.has.ensures.1 (subst (HasKey g) (sym keys) (befriends_key g c.known.ensures c.args.one c.args.other e)))
