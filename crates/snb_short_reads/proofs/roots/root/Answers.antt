use Rattle.std.proofs.Common.{inl, inr}
use Rattle.snb_short_reads.proofs.RootLemmas.{own_root}
use Rattle.snb_short_reads.proofs.roots.root.Goals as goal

pub comment_root-requires-clause-held : goal.comment_root-requires-clause-held
comment_root-requires-clause-held c = elim c.requires.held [ inl p ↦ absurd (let e = c.in_default.ensures.held.1 p in cc) | inr m ↦ m ]

pub returns : goal.returns
returns c = own_root c.args.graph.now c.known.ensures c.sound_graphs.ensures.numbers c.args.message c.in-Some.field-0.now c.in-Some.ensures.found
