use Rattle.std.proofs.Common.{◌≡◌, ◌++◌}
use Rattle.snb_graph_links.specs.Pairs.{rest}
use Rattle.snb_complex_messages.proofs.answered.add_replies.Given as goal

abbrev pub invariant-loop-comment : goal.invariant-loop-comment
invariant-loop-comment l = l.found.items ++ rest l.comment-iterator ≡ l.fn.found.items ++ rest l.initial.comment-iterator
