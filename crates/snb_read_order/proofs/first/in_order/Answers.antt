use Rattle.std.proofs.Common.{refl}
use Rattle.std.proofs.lemmas.List.Sorted.{ranks_by}
use Rattle.snb_read_order.proofs.first.in_order.Goals as goal

pub returns : goal.returns
returns g c by total answers = record {
  sorted = c.sort_unstable_by.new.self.items;
  same = c.sort_unstable_by.ensures.permutation;
  ordered = c.sort_unstable_by.ensures.sorted _ (ranks_by total (λ x. x)) answers;
  kept = refl;
}
