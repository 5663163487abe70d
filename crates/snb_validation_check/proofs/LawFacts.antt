-- What a file of cases is refused for, and what is told of it, is one.
use Rattle.std.proofs.Common.{◌≡◌, ◌∷◌, ◌∙◌, ℕ, List, [], Option, Some, None, sym, ap, subst, inl, inr}
use Rattle.snb_schema.specs.declared.refusal.Refusal.{Refusal}
use Rattle.snb_schema.specs.declared.refusal.Refusal.TheVariants.{Absent}
use Rattle.snb_schema.specs.declared.row.Row.{Row}
use Rattle.snb_schema.specs.Lines.{lines}
use Rattle.snb_base.specs.FirstOf.{FirstOf}
use Rattle.snb_input_files.specs.Places.{opening}
use Rattle.snb_input_files.proofs.Laws.{file_one, first_some, says_one}
use Rattle.snb_validation_cases.specs.declared.case.CaseAt.{CaseAt}
use Rattle.snb_validation_model.specs.CasesFile.{AreCases, case_format, cases_checks, cases_file}
use Rattle.snb_validation_check.specs.CaseTakers.{CasesAreLawful}
use Rattle.snb_validation_model.specs.Checks.{Finds, count_reads}
use Rattle.snb_validation_check.specs.Laws.{CasesRefuseOnce, CasesRefusedOrNot, FindingIsOne, TallyIsOne}

-- a file that isn't held is refused for that
absent_one : (r q : Refusal) → FirstOf ((λ s. s ≡ Absent cases_file) ∷ []) r → FirstOf ((λ s. s ≡ Absent cases_file) ∷ []) q → r ≡ q
absent_one r q (inl a) (inl b) = a ∙ sym b
absent_one r q (inl a) (inr b) = absurd b.1
absent_one r q (inr a) b = absurd a.1

module _ (lawful : CasesAreLawful) where
  pub refuse_once : CasesRefuseOnce
  refuse_once base None r q a b = absent_one r q a b
  refuse_once base (Some bytes) r q a b = file_one (case_format base) (lawful base) (opening cases_file 0 0 [] bytes) bytes r q a b

  -- a file says one list of cases
  cases_one : (base : List Row) (held : Option (List ℕ)) (xs ys : List CaseAt) → AreCases base held xs → AreCases base held ys → xs ≡ ys
  cases_one base None xs ys a b = absurd a
  cases_one base (Some bytes) xs ys a b = (says_one (case_format base) (lawful base) cases_file (lines bytes) xs ys (Some a.0) (Some b.0) a.1 b.1).0

  pub tally_one : FindingIsOne → TallyIsOne
  tally_one found base held t u a b =
      let cases : b.cases ≡ a.cases = cases_one base held b.cases a.cases b.said a.said in
      let reads : t.reads ≡ u.reads = a.reads ∙ (ap count_reads (sym cases) ∙ sym b.reads) in
      let first : t.first ≡ u.first = found base a.cases t.first u.first a.found (subst (λ (cs : List CaseAt). Finds base cs u.first) cases b.found) in
      λ i. record { reads = reads i; first = first i }

pub refused_or_not : CasesRefusedOrNot
refused_or_not base held r a none = first_some (cases_checks base held) r a none
