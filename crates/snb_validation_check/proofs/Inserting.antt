-- The graph after cases, and after one case more.
use Rattle.std.proofs.Common.{◌≡◌, ◌∷◌, ◌++◌, ◌∙◌, List, [], sym, ap, subst, append_assoc, append-nil}
use Rattle.std.specs.List.Sorted.{IsPermutation}
use Rattle.std.proofs.lemmas.List.Concat.{flat_map-append}
use Rattle.std.proofs.lemmas.List.Sorted.{Contains-permutation, IsPermutation-append_left, IsPermutation-sym, IsPermutation-trans}
use Rattle.snb_schema.specs.declared.row.Row.{Row}
use Rattle.snb_graph_model.specs.Graphs.{HasGained}
use Rattle.snb_graph_model.specs.Laws.{GraphsAreTheirRows}
use Rattle.snb_validation_cases.specs.declared.case.CaseAt.{CaseAt}
use Rattle.snb_validation_model.specs.Checks.{IsAfterCases, inserted, rows_of_case}

-- the rows of one case more
inserted_push : (cases : List CaseAt) (x : CaseAt) → inserted (cases ++ x ∷ []) ≡ inserted cases ++ rows_of_case x.case
inserted_push cases x =
    flat_map-append (λ (c : CaseAt). rows_of_case c.case) cases (x ∷ []) ∙ ap (λ (rows : List Row). inserted cases ++ rows) (append-nil (rows_of_case x.case))

module _ (base : List Row) (cases : List CaseAt) (x : CaseAt) (graph : List Row) (after : IsAfterCases base cases graph) where
  -- a graph that gains the rows of the next case is the one after it
  pub after_more : (new : List Row) → HasGained graph (rows_of_case x.case) new → IsAfterCases base (cases ++ x ∷ []) new
  after_more new gained =
      subst (λ (rows : List Row). HasGained base rows new) (sym (inserted_push cases x))
      (record {
        graph = gained.graph;
        rows =
            subst (IsPermutation new) (append_assoc base (inserted cases) (rows_of_case x.case))
            (IsPermutation-trans new (graph ++ rows_of_case x.case) ((base ++ inserted cases) ++ rows_of_case x.case) gained.rows
            (IsPermutation-append_left (rows_of_case x.case) graph (base ++ inserted cases) after.rows));
      })

  -- after a case without rows the graph is as it was
  pub after_same : rows_of_case x.case ≡ [] → IsAfterCases base (cases ++ x ∷ []) graph
  after_same none =
      subst (λ (rows : List Row). HasGained base rows graph)
      (sym (inserted_push cases x ∙ (ap (λ (rows : List Row). inserted cases ++ rows) none ∙ append-nil (inserted cases)))) after

-- there is one graph after cases
pub one_after : GraphsAreTheirRows → (base : List Row) (cases : List CaseAt) (g h : List Row) → IsAfterCases base cases g → IsAfterCases base cases h → g ≡ h
one_after rows base cases g h a b =
    let all = base ++ inserted cases in
    rows g h a.graph b.graph
    (λ r. (
      λ c. Contains-permutation all h r (IsPermutation-sym h all b.rows) (Contains-permutation g all r a.rows c),
      λ c. Contains-permutation all g r (IsPermutation-sym g all a.rows) (Contains-permutation h all r b.rows c),
    ))
