use Rattle.std.proofs.Common.{rules}
use Rattle.std.proofs.lemmas.List.Elements.{All-contains_itself, All-weaker}
use Rattle.std.proofs.lemmas.Result.{IfOk-weaker}
use Rattle.std.specs.List.{All, Contains}
use Rattle.snb_read_order.proofs.Laws.{compares, walked}
use Rattle.snb_graph_model.proofs.Laws.{sent_there}
use Rattle.snb_graph_model.specs.Around.{messages}
use Rattle.snb_read_model.specs.Order.{FirstRows}
use Rattle.snb_read_lookups.proofs.Laws.{message_found}
use Rattle.snb_short_reads.proofs.RowLemmas.{is2_answers, latest_first, latest_total}
use Rattle.snb_read_lookups.specs.Found.{IsMessageFound}
use Rattle.snb_read_model.specs.ShortReads.{IsRecent}
use Rattle.snb_short_reads.proofs.persons.is2.Goals as goal
use Rattle.snb_base.proofs.Laws.{each_at, each_made}

pub list_of-requires : goal.list_of-requires
list_of-requires c =
    let g = c.args.graph.now in
    let all : All (IsMessageFound g) (messages g c.args.person) = All-weaker (Contains (messages g c.args.person)) (IsMessageFound g)
    (λ m d. message_found g c.known.ensures c.sound_graphs.ensures.numbers c.args.person m.0 m.1 (sent_there g c.args.person m.0 m.1 d)) (messages g c.args.person) (All-contains_itself (messages g c.args.person)) in
    let each = each_at (IsMessageFound g) _
    (walked (IsMessageFound g) latest_first (FirstRows 10) _ _ _ _ _ all c.messages.ensures.same c.in_ok-found.ensures
    (c.first_of-latest.ensures latest_first latest_total (compares _ _ latest_first (λ a r q k. search rules))) c.as_slice.ensures.value) in
    search (rules, each)

pub returns : goal.returns
returns c =
    let g = c.args.graph.now in
    let all : All (IsMessageFound g) (messages g c.args.person) = All-weaker (Contains (messages g c.args.person)) (IsMessageFound g)
    (λ m d. message_found g c.known.ensures c.sound_graphs.ensures.numbers c.args.person m.0 m.1 (sent_there g c.args.person m.0 m.1 d)) (messages g c.args.person) (All-contains_itself (messages g c.args.person)) in
    let laws = c.sound_graphs.ensures in
    IfOk-weaker c.list_of.result _ _ (λ a z. is2_answers g c.known.ensures c.requires.sound laws.numbers laws.kinds laws.author laws.root c.args.person _ _ _ a
    c.messages.ensures.same c.in_ok-found.ensures all
    (c.first_of-latest.ensures latest_first latest_total (compares _ _ latest_first (λ a r q k. search rules))) (rw c.as_slice.ensures.value at z)) (each_made _ _ (IsRecent g) (λ p row k. search rules) c.list_of.result _ c.list_of.ensures)
