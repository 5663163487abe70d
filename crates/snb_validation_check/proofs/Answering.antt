-- What the checking of a file of cases answers, by what its loading does.
use Rattle.std.proofs.Common.{◌≡◌, ℕ, List, [], ◌∷◌, Option, Some, None, Result, Ok, Err, refl, sym, subst, inl}
use Rattle.snb_base.specs.Shelf.{Files}
use Rattle.snb_schema.specs.declared.row.Row.{Row}
use Rattle.snb_graph_model.specs.Graphs.{IsGraph}
use Rattle.snb_graph_model.specs.Soundness.{Sound}
use Rattle.snb_input_files.specs.declared.found.Found.{Found}
use Rattle.snb_input_files.specs.declared.found.Found.TheVariants.{Absent, Whole}
use Rattle.snb_input_files.specs.declared.load.Load.{Load}
use Rattle.snb_input_files.specs.declared.load.Load.TheVariants.{Refused, ReadFault, Memory}
use Rattle.snb_input_files.specs.declared.load.Used.{Used}
use Rattle.snb_input_files.specs.Loading.{IsAnswer}
use Rattle.snb_input_files.specs.Places.{FilesSay, ReadFile}
use Rattle.snb_schema.specs.declared.refusal.Refusal.TheVariants as refusals
use Rattle.snb_validation_cases.specs.declared.case.CaseAt.{CaseAt}
use Rattle.snb_validation_model.specs.CasesFile.{IsCasesAnswer, case_format, cases_file}
use Rattle.snb_validation_check.specs.CaseTakers.{Counted, HasTaken, IsHeard}
use Rattle.snb_validation_check.proofs.Telling.{taken_none}

-- no file before said anything
first_file : (base : List Row) (s : Counted) (done : List (List CaseAt)) (mine : List CaseAt) → FilesSay (case_format base) [] done → IsHeard base s done mine → HasTaken base s mine
first_file base s [] mine said h = h
first_file base s (xs ∷ xss) mine said h = absurd said

-- before the file nothing was read
abbrev pub none_used : Used
none_used = record { bytes = 0; rows = 0 }

module _ (base : List Row) (contents : Option Files) (name : List ℕ) (file_sink : Counted) where
  -- what loading answers where it began with this graph
  pub first_answer : (result : Result (Found Counted) Load) → file_sink ≡ record { checked = record { graph = base; first = None }; reads = 0 } → IsGraph base → Sound base
      → ((begun : Counted) (past : List ReadFile) (done : List (List CaseAt)) → FilesSay (case_format begun.checked.graph) past done → IsHeard begun.checked.graph file_sink done []
      → IsAnswer (case_format begun.checked.graph) (IsHeard begun.checked.graph) contents name cases_file none_used past file_sink result)
      → IsAnswer (case_format base) (IsHeard base) contents name cases_file none_used [] file_sink result
  first_answer result is graph sound answer =
      answer (record { checked = record { graph = base; first = None }; reads = 0 }) [] [] tt (subst (λ (s : Counted). HasTaken base s []) (sym is) (taken_none base graph sound))

  -- a file that was read
  pub whole_answer : (new : Counted) (now : Used) → IsAnswer (case_format base) (IsHeard base) contents name cases_file none_used [] file_sink (Ok (Whole new now))
      → IsCasesAnswer contents name base (Ok (record { reads = new.reads; first = new.checked.first }))
  whole_answer new now a =
      let t : HasTaken base new a.3.mine = first_file base new a.3.done a.3.mine a.3.said a.3.tells in
      (Some a.0, a.1, record { clean = a.3.clean; cases = a.3.mine; said = a.3.says; reads = t.reads; found = t.found })

  -- a file that isn't held
  pub absent_answer : (new : Counted) → IsAnswer (case_format base) (IsHeard base) contents name cases_file none_used [] file_sink (Ok (Absent new))
      → IsCasesAnswer contents name base (Err (Refused (refusals.Absent cases_file)))
  absent_answer new a = (None, a.0, inl refl)

  -- a file that is refused, or not read
  pub err_answer : (load : Load) → IsAnswer (case_format base) (IsHeard base) contents name cases_file none_used [] file_sink (Err load)
      → IsCasesAnswer contents name base (Err load)
  err_answer (Refused r) a = (Some a.0, a.1, a.2)
  err_answer ReadFault a = tt
  err_answer Memory a = tt
