use Rattle.snb_short_reads.proofs.RootLemmas.{unended}
use Rattle.snb_short_reads.proofs.roots.parent.Goals as goal

pub unreachable-requires : goal.unreachable-requires
unreachable-requires c =
    let (n, ends) = c.requires.sound.rooted c.args.comment c.requires.held in
    unended c.args.graph.now n c.args.comment ends (λ h. let e = c.in_default.ensures.held.1 h in cc) (λ h. let e = c.in-None.ensures.held.1 h in cc)
