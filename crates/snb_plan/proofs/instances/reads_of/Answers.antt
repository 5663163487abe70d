use Rattle.std.proofs.Common.{◌∙◌, List, ap, length}
use Rattle.std.proofs.lemmas.List.Sorted.{length_permutation}
use Rattle.snb_plan.specs.declared.instances.Instance.{Instance}
use Rattle.snb_plan.proofs.Turns.{instances_counted, reads_sorted}
use Rattle.snb_plan.proofs.instances.reads_of.Goals as goal

pub returns-clause-reads : goal.returns-clause-reads
returns-clause-reads c =
    reads_sorted c.args.frequencies.now c.args.count c.in_ok-instances.instances.items c.sort.new.self.items c.in_ok-instances.ensures c.in_ok-sort.ensures.permutation c.in_ok-sort.ensures.sorted

pub returns-clause-counted : goal.returns-clause-counted
returns-clause-counted c =
    length_permutation c.in_ok-instances.instances.items c.sort.new.self.items c.in_ok-sort.ensures.permutation
    ∙ ap (λ (xs : List Instance). length xs) c.in_ok-instances.ensures ∙ instances_counted c.args.frequencies.now c.args.count
