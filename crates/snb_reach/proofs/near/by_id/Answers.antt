use Rattle.std.proofs.Common.{ℕ, rules}
use Rattle.std.proofs.lemmas.List.Sorted.{IsNonDecreasingBy-from_sort_by_key}
use Rattle.snb_reach.proofs.near.by_id.Goals as goal

pub returns-clause-rises : goal.returns-clause-rises
returns-clause-rises c = rw c.from_vec.ensures (IsNonDecreasingBy-from_sort_by_key (λ (one : ℕ × ℕ). one.0) _ c.sort_unstable_by_key.ensures.sorted (λ a r f' k. search rules))
