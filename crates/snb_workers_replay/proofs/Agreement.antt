-- Two graphs that have gained the same rows are one.
use Rattle.std.proofs.Common.{◌≡◌, ◌++◌, List}
use Rattle.std.proofs.lemmas.List.Sorted.{Contains-permutation, IsPermutation-sym, IsPermutation-trans}
use Rattle.snb_schema.specs.declared.row.Row.{Row}
use Rattle.snb_graph_model.specs.Graphs.{HasGained}
use Rattle.snb_graph_model.specs.Laws.{GraphsAreTheirRows}
use Rattle.snb_workers_replay.specs.Laws.{CompleteIsFinal, HistoriesAgree}

pub same_gain : GraphsAreTheirRows → (base more g h : List Row) → HasGained base more g → HasGained base more h → g ≡ h
same_gain rows base more g h a b =
    rows g h a.graph b.graph
    (λ r. (λ c. Contains-permutation g h r (IsPermutation-trans g (base ++ more) h a.rows (IsPermutation-sym h (base ++ more) b.rows)) c, λ c. Contains-permutation h g r (IsPermutation-trans h (base ++ more) g b.rows (IsPermutation-sym g (base ++ more) a.rows)) c))

pub histories_agree : GraphsAreTheirRows → CompleteIsFinal → HistoriesAgree
histories_agree rows last base plan workers others h k graph other legal complete after fine whole behind =
    same_gain rows base _ graph other (last base plan workers h graph legal complete after) (last base plan others k other fine whole behind)
