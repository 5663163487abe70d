use Rattle.std.proofs.Common.{◌≡◌, Some, take, All}
use Rattle.std.specs.BTreeMap.{get}
use Rattle.std.specs.Ordering.{nat_cmp}
use Rattle.snb_input_fields.proofs.lists.agree.Given as goal

-- each pair before this one has the year that its id has
abbrev pub invariant-loop-id : goal.invariant-loop-id
invariant-loop-id l = All (λ p. get nat_cmp l.years p.0 ≡ Some p.1) (take l.id-index l.pairs)
