use Rattle.std.proofs.Common.{◌≡◌, ◌++◌, map}
use Rattle.snb_graph_links.specs.Pairs.{rest}
use Rattle.snb_complex_messages.specs.Found.{like_of}
use Rattle.snb_complex_messages.proofs.liked.add_likes.Given as goal

abbrev pub invariant-loop-person : goal.invariant-loop-person
invariant-loop-person l = l.found.items ++ map (like_of l.message) (rest l.person-iterator) ≡ l.fn.found.items ++ map (like_of l.message) (rest l.initial.person-iterator)
