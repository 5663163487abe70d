-- Whether one of the friends that are left is met at distance 2 is what is asked of all.
use Rattle.std.proofs.Common.{◌≡◌, nat_eq}
use Rattle.std.specs.HashMap.{get}
use Rattle.std.specs.List.{list_any}
use Rattle.snb_graph_links.specs.Pairs.{rest}
use Rattle.snb_complex_persons.specs.Scan.{has_second, is_two}
use Rattle.snb_complex_persons.proofs.scan.is_third.Given as goal

abbrev pub invariant-loop-friend : goal.invariant-loop-friend
invariant-loop-friend l = list_any (λ f. is_two (get nat_eq l.met f.0)) (rest l.friend-iterator) ≡ has_second l.graph (get nat_eq l.met) l.person
