use Rattle.std.proofs.Common.{refl, sym, subst}
use Rattle.std.proofs.lemmas.List.Elements.{All-nil}
use Rattle.std.specs.List.Sorted.{IsPermutation}
use Rattle.snb_graph_links.specs.Pairs.{rest}
use Rattle.snb_graph_model.specs.Around.{replies}
use Rattle.snb_short_reads.proofs.ReplyLemmas.{all_found, next_found, next_held}
use Rattle.snb_short_reads.specs.Found.{IsReplyFound}
use Rattle.snb_short_reads.proofs.messages.replies.Goals as goal

pub loop-id-init : goal.loop-id-init
loop-id-init c = rw c.new-found.ensures.items (record { same = refl; each = All-nil (IsReplyFound c.args.graph.now c.args.message) })

pub author_id-requires-clause-held : goal.author_id-requires-clause-held
author_id-requires-clause-held c =
    next_held c.args.graph.now c.args.message _ _ (rest c.next.new.self) _ (subst (λ w. IsPermutation (replies c.args.graph.now c.args.message) (rest w)) (sym c.into_iter-id-iterator.ensures.into_iter_gives) c.replies-id-items.ensures.same)
    c.loop-id.invariant c.in-Some.id c.in-Some.date c.in-Some.ensures.steps

pub loop-id-preserved : goal.loop-id-preserved
loop-id-preserved c =
    next_found c.args.graph.now c.args.message _ _ (rest c.next.new.self) _ (subst (λ w. IsPermutation (replies c.args.graph.now c.args.message) (rest w)) (sym c.into_iter-id-iterator.ensures.into_iter_gives) c.replies-id-items.ensures.same)
    c.loop-id.invariant c.known.ensures c.sound_graphs.ensures.numbers c.requires.sound.held c.in-Some.id c.in-Some.date c.author_id.result _ c.in-Some.ensures.steps c.author_id.ensures.only c.in_ok-push.ensures.items

pub returns : goal.returns
returns c =
    all_found c.args.graph.now c.args.message _ _ (rest c.next.new.self) _ (subst (λ w. IsPermutation (replies c.args.graph.now c.args.message) (rest w)) (sym c.into_iter-id-iterator.ensures.into_iter_gives) c.replies-id-items.ensures.same)
    c.loop-id.invariant c.in-None.ensures.steps.0
