use Rattle.std.proofs.Common.{rules}
use Rattle.std.proofs.lemmas.List.Sorted.{IsNonDecreasingBy-from_sort_by_key}
use Rattle.snb_miscount.specs.declared.tally.Tally.{Tally}
use Rattle.snb_miscount.proofs.TallyFacts.{tallies_moved}
use Rattle.snb_miscount.proofs.tally.tallies_by_front.Goals as goal

pub returns-clause-all : goal.returns-clause-all
returns-clause-all c =
    tallies_moved c.args.plan.now c.args.logged.now c.in_ok-tallies.tallies.items c.sort_unstable_by_key.new.self.items c.sort_unstable_by_key.ensures.permutation c.in_ok-tallies.ensures.all

pub returns-clause-rises : goal.returns-clause-rises
returns-clause-rises c = IsNonDecreasingBy-from_sort_by_key (λ (t : Tally). t.front) _ c.sort_unstable_by_key.ensures.sorted (λ a r f' k. search rules)
