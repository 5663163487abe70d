use Rattle.std.proofs.Common.{◌++◌, List, nat_le}
use Rattle.std.specs.List.{flat_map}
use Rattle.std.specs.List.Sorted.{IsPermutation}
use Rattle.snb_graph_links.specs.Pairs.{rest}
use Rattle.snb_read_model.specs.declared.sent.Sent.{Sent}
use Rattle.snb_complex_messages.specs.Found.{IsLatest, sent_by}
use Rattle.snb_complex_messages.proofs.sent.ic2.Given as goal

abbrev pub invariant-loop-friend : goal.invariant-loop-friend
invariant-loop-friend l =
    (found : List Sent) × IsLatest found l.top
    × IsPermutation (flat_map (λ p. sent_by l.graph (λ date. nat_le date l.max_date) p.0) (rest l.initial.friend-iterator))
    (found ++ flat_map (λ p. sent_by l.graph (λ date. nat_le date l.max_date) p.0) (rest l.friend-iterator))
