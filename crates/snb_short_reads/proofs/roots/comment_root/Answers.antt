use Rattle.std.proofs.Common.{arith}
use Rattle.snb_short_reads.proofs.RootLemmas.{at_more, found_root}
use Rattle.snb_short_reads.proofs.roots.comment_root.Goals as goal

pub loop-done-init : goal.loop-done-init
loop-done-init c =
    let (n, ends) = c.requires.sound.rooted c.args.comment c.requires.held in
    let less = c.sound_graphs.ensures.chains c.args.graph.now c.known.ensures c.requires.sound n c.args.comment ends in
    record { left = n; chain = ends; short = omega (arith, less, c.count-done-end.ensures); held = c.requires.held; same = λ r h. h }

pub returns-in-Post : goal.returns-in-Post
returns-in-Post c =
    found_root c.args.graph.now c.known.ensures c.sound_graphs.ensures.numbers c.requires.sound.held c.args.comment _ _ c.loop-done.at c.in-Post.id c.loop-done.invariant c.in-Post.ensures

pub loop-done-preserved : goal.loop-done-preserved
loop-done-preserved c =
    at_more c.args.graph.now c.known.ensures c.requires.sound c.sound_graphs.ensures.root_of_parent c.args.comment _ _ c.loop-done.at c.in-Comment.id c.loop-done.invariant c.in-Comment.ensures
