use Rattle.std.proofs.Common.{◌++◌, ℕ, map}
use Rattle.std.specs.List.{flat_map}
use Rattle.std.specs.List.Sorted.{IsPermutation}
use Rattle.snb_graph_links.specs.Pairs.{rest}
use Rattle.snb_graph_model.specs.Around.{likes}
use Rattle.snb_complex_messages.specs.Found.{like_of}
use Rattle.snb_complex_messages.proofs.liked.ic7.Given as goal

abbrev pub invariant-loop-message : goal.invariant-loop-message
invariant-loop-message l =
    IsPermutation (flat_map (λ (m : ℕ × ℕ). map (like_of m) (likes l.graph m.0)) (rest l.initial.message-iterator))
    (l.found.items ++ flat_map (λ (m : ℕ × ℕ). map (like_of m) (likes l.graph m.0)) (rest l.message-iterator))
