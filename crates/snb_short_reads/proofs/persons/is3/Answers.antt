use Rattle.std.proofs.Common.{rules}
use Rattle.std.proofs.lemmas.List.Elements.{All-contains_itself, All-weaker}
use Rattle.std.proofs.lemmas.Result.{IfOk-weaker}
use Rattle.std.specs.List.{All, Contains}
use Rattle.snb_read_order.proofs.Laws.{compares, walked}
use Rattle.snb_graph_model.proofs.Laws.{friend_there}
use Rattle.snb_graph_model.specs.Around.{friends}
use Rattle.snb_read_model.specs.Order.{AllRows}
use Rattle.snb_read_lookups.proofs.Laws.{friend_found, recent_first, recent_total}
use Rattle.snb_short_reads.proofs.RowLemmas.{is3_answers}
use Rattle.snb_read_lookups.specs.Found.{IsFriendFound}
use Rattle.snb_read_model.specs.ShortReads.{IsFriend}
use Rattle.snb_short_reads.proofs.persons.is3.Goals as goal
use Rattle.snb_base.proofs.Laws.{each_at, each_made}

pub list_of-requires : goal.list_of-requires
list_of-requires c =
    let g = c.args.graph.now in
    let all : All (IsFriendFound g) (friends g c.args.person) = All-weaker (Contains (friends g c.args.person)) (IsFriendFound g)
    (λ f d. friend_found g c.known.ensures c.sound_graphs.ensures.numbers c.requires.sound.held c.args.person f.0 f.1 (friend_there g c.args.person f.0 f.1 d)) (friends g c.args.person) (All-contains_itself (friends g c.args.person)) in
    let each = each_at (IsFriendFound g) _
    (walked (IsFriendFound g) recent_first AllRows _ _ _ _ _ all c.friends.ensures.same c.in_ok-found.ensures
    (c.in_order-ordered.ensures recent_first recent_total (compares _ _ recent_first (λ a r q k. search rules))) c.as_slice.ensures.value) in
    search (rules, each)

pub returns : goal.returns
returns c =
    let g = c.args.graph.now in
    IfOk-weaker c.list_of.result _ _ (λ a z. is3_answers g c.args.person _ _ _ a
    c.friends.ensures.same c.in_ok-found.ensures
    (c.in_order-ordered.ensures recent_first recent_total (compares _ _ recent_first (λ a r q k. search rules))) (rw c.as_slice.ensures.value at z)) (each_made _ _ (IsFriend g) (λ p row k. search rules) c.list_of.result _ c.list_of.ensures)
