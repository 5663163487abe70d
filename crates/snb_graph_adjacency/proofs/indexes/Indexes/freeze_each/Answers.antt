use Rattle.std.proofs.Common.{refl}
use Rattle.snb_graph_adjacency.proofs.LinkLemmas.{all_same}
use Rattle.snb_graph_adjacency.proofs.indexes.Indexes.freeze_each.Goals as goal

pub returns-in_err-freeze : goal.returns-in_err-freeze
returns-in_err-freeze c = all_same _ _ c.freeze.ensures.same (λ q. refl) (λ q. refl) (λ q. refl) (λ q. refl) (λ q. refl) (λ q. refl)

pub returns-in_err-freeze-2 : goal.returns-in_err-freeze-2
returns-in_err-freeze-2 c = all_same _ _ c.freeze.ensures.same c.freeze-2.ensures.same (λ q. refl) (λ q. refl) (λ q. refl) (λ q. refl) (λ q. refl)

pub returns-in_err-freeze-3 : goal.returns-in_err-freeze-3
returns-in_err-freeze-3 c = all_same _ _ c.freeze.ensures.same c.freeze-2.ensures.same c.freeze-3.ensures.same (λ q. refl) (λ q. refl) (λ q. refl) (λ q. refl)

pub returns-in_err-freeze-4 : goal.returns-in_err-freeze-4
returns-in_err-freeze-4 c = all_same _ _ c.freeze.ensures.same c.freeze-2.ensures.same c.freeze-3.ensures.same c.freeze-4.ensures.same (λ q. refl) (λ q. refl) (λ q. refl)

pub returns-in_err-freeze-5 : goal.returns-in_err-freeze-5
returns-in_err-freeze-5 c = all_same _ _ c.freeze.ensures.same c.freeze-2.ensures.same c.freeze-3.ensures.same c.freeze-4.ensures.same c.freeze-5.ensures.same (λ q. refl) (λ q. refl)

pub returns-in_err-freeze-6 : goal.returns-in_err-freeze-6
returns-in_err-freeze-6 c = all_same _ _ c.freeze.ensures.same c.freeze-2.ensures.same c.freeze-3.ensures.same c.freeze-4.ensures.same c.freeze-5.ensures.same c.freeze-6.ensures.same (λ q. refl)

pub returns : goal.returns
returns c = all_same _ _ c.freeze.ensures.same c.freeze-2.ensures.same c.freeze-3.ensures.same c.freeze-4.ensures.same c.freeze-5.ensures.same c.freeze-6.ensures.same c.freeze-7.ensures.same
