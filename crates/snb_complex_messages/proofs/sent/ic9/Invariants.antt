use Rattle.std.proofs.Common.{List, nat_lt, take}
use Rattle.std.specs.List.{flat_map}
use Rattle.std.specs.List.Sorted.{IsPermutation}
use Rattle.snb_read_model.specs.declared.sent.Sent.{Sent}
use Rattle.snb_complex_messages.specs.Found.{IsLatest, sent_by}
use Rattle.snb_complex_messages.proofs.sent.ic9.Given as goal

abbrev pub invariant-loop-one : goal.invariant-loop-one
invariant-loop-one l =
    (found : List Sent) × IsLatest found l.top
    × IsPermutation (flat_map (λ p. sent_by l.graph (λ date. nat_lt date l.max_date) p.0) (take l.one-index l.one-items)) found
