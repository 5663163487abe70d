-- How the insert of a case is refused.
use Rattle.std.proofs.Common.{◌≡◌, ◌∷◌, ◌∙◌, List, sym, ap, subst, inl, inr}
use Rattle.std.specs.List.{All, Contains}
use Rattle.std.proofs.lemmas.List.Elements.{All-contains, Contains-append_right}
use Rattle.snb_schema.specs.declared.file.FileId.{FileId}
use Rattle.snb_schema.specs.declared.refusal.Missing.{Missing}
use Rattle.snb_schema.specs.declared.refusal.Refusal.{Refusal}
use Rattle.snb_schema.specs.declared.refusal.Refusal.TheVariants.{Unmet}
use Rattle.snb_schema.specs.declared.row.Row.{Row}
use Rattle.snb_schema.specs.References.{refs_of}
use Rattle.snb_base.proofs.Laws.{contains_here}
use Rattle.snb_graph_model.specs.Laws.{GraphsAreTheirRows}
use Rattle.snb_inserts.specs.Applying.{IsFirstMissing, IsThere}
use Rattle.snb_validation_cases.specs.declared.case.Case.{Case}
use Rattle.snb_validation_cases.specs.declared.case.Case.TheVariants.{Insert, Ask}
use Rattle.snb_validation_cases.specs.declared.case.CaseAt.{CaseAt}
use Rattle.snb_validation_model.specs.CasesFile.{IsCaseRefused, IsRefusedAfter}
use Rattle.snb_validation_model.specs.Checks.{IsAfterCases}
use Rattle.snb_validation_model.specs.Steps.{CaseRepeats, IsUnmet}
use Rattle.snb_validation_check.proofs.Inserting.{one_after}
use Rattle.snb_inserts.proofs.Laws.{one_first}

-- where all that is referred to is held, nothing is missing
none_missing : (g : List Row) (refs : List Missing) (node : Missing) → All (IsThere g) refs → IsFirstMissing g refs node → ⊥
none_missing g refs node all first =
    first.lacking (All-contains (IsThere g) refs node all
    (subst (λ (rs : List Missing). Contains rs node) first.splits (Contains-append_right first.before (node ∷ first.after) node (contains_here node first.after))))

unmet_one : (g : List Row) (c : Case) (m n : Missing) → IsUnmet g c m → IsUnmet g c n → m ≡ n
unmet_one g (Insert line) m n a b = one_first g (refs_of line.op) m n a b
unmet_one g (Ask query reply) m n a b = absurd a

-- what lacks a node isn't a duplicate
unmet_taken : (g : List Row) (c : Case) (m : Missing) → IsUnmet g c m → CaseRepeats g c → ⊥
unmet_taken g (Insert line) m a b = none_missing g (refs_of line.op) m b.0 a
unmet_taken g (Ask query reply) m a b = a

module _ (g : List Row) (file : FileId) (x : CaseAt) (r q : Refusal) where
  -- a case is refused in one way at most on a graph
  refused_one : IsCaseRefused g file x r → IsCaseRefused g file x q → r ≡ q
  refused_one (inl a) (inl b) = a.2 ∙ (ap (Unmet file x.line) (unmet_one g x.case a.0 b.0 a.1 b.1) ∙ sym b.2)
  refused_one (inl a) (inr b) = absurd (unmet_taken g x.case a.0 a.1 b.0)
  refused_one (inr a) (inl b) = absurd (unmet_taken g x.case b.0 b.1 a.0)
  refused_one (inr a) (inr b) = a.1 ∙ sym b.1

module _ (rows : GraphsAreTheirRows) (base : List Row) (cases : List CaseAt) (file : FileId) (x : CaseAt) where
  -- what is refused after cases is refused on each graph after them
  pub refused_on : (r : Refusal) (g : List Row) → IsAfterCases base cases g → IsRefusedAfter base cases file x r → IsCaseRefused g file x r
  refused_on r g after a = subst (λ (h : List Row). IsCaseRefused h file x r) (one_after rows base cases a.graph g a.after after) a.refused

  -- and in one way at most
  pub own_one : (r q : Refusal) → IsRefusedAfter base cases file x r → IsRefusedAfter base cases file x q → r ≡ q
  own_one r q a b = refused_one a.graph file x r q a.refused (refused_on q a.graph a.after b)
