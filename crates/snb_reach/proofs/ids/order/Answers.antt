use Rattle.std.proofs.Common.{nat_eq}
use Rattle.std.proofs.lemmas.List.Filters.{dedup_is}
use Rattle.std.proofs.lemmas.List.Kept.{AllPairs-from_increasing, Contains-dedup_nat, Contains-from_dedup}
use Rattle.std.proofs.lemmas.List.Sorted.{Contains-permutation, IsPermutation-sym}
use Rattle.std.proofs.lemmas.Map.Keys.{IsStrictlyIncreasing-dedup}
use Rattle.snb_reach.proofs.ids.order.Goals as goal

pub returns-clause-rises : goal.returns-clause-rises
returns-clause-rises c = rw (dedup_is nat_eq _ _ c.dedup.ensures.filtered) (AllPairs-from_increasing _ (IsStrictlyIncreasing-dedup _ c.sort_unstable.ensures.sorted))

pub returns-clause-same : goal.returns-clause-same
returns-clause-same c =
    let old = c.args.ids.now.items in
    let sorted = c.sort_unstable.new.self.items in
    let is = dedup_is nat_eq sorted _ c.dedup.ensures.filtered in
    let same = c.sort_unstable.ensures.permutation in
    λ q. (
      λ h. Contains-permutation sorted old q (IsPermutation-sym old sorted same) (Contains-from_dedup nat_eq sorted q (rw is at h)),
      λ h. rw is (Contains-dedup_nat sorted q (Contains-permutation old sorted q same h)),
    )
