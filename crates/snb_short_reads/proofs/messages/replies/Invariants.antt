use Rattle.snb_graph_links.specs.Pairs.{rest}
use Rattle.snb_short_reads.proofs.ReplyLemmas.{IsFinding}
use Rattle.snb_short_reads.proofs.messages.replies.Given as goal

abbrev pub invariant-loop-id : goal.invariant-loop-id
invariant-loop-id l = IsFinding l.graph l.message (rest l.initial.id-iterator) (rest l.id-iterator) l.found.items
