-- What a file_sink of cases was told.
use Rattle.std.proofs.Common.{◌≡◌, ◌∷◌, ◌++◌, ◌+◌, ◌∙◌, ℕ, List, [], None, length, refl, sym, ap, subst, append_assoc, append-nil, length-append}
use Rattle.std.specs.List.{filter, flat_map}
use Rattle.std.specs.List.Sorted.{IsPermutation}
use Rattle.std.proofs.lemmas.List.{flat_map_more}
use Rattle.std.proofs.lemmas.List.Elements.{filter-append}
use Rattle.std.proofs.lemmas.List.Sorted.{IsPermutation-refl}
use Rattle.serde_json.specs.Data.{Data}
use Rattle.snb_schema.specs.declared.file.FileId.{FileId}
use Rattle.snb_schema.specs.declared.row.Row.{Row}
use Rattle.snb_graph_model.specs.Graphs.{IsGraph}
use Rattle.snb_graph_model.specs.Laws.{GraphsAreTheirRows}
use Rattle.snb_graph_model.specs.Soundness.{Sound}
use Rattle.snb_input_lines.specs.Language.{Fits}
use Rattle.snb_input_lines.specs.Sinks.{Hears}
use Rattle.snb_validation_cases.specs.declared.case.Case.{Case}
use Rattle.snb_validation_cases.specs.declared.case.Case.TheVariants.{Insert, Ask}
use Rattle.snb_validation_cases.specs.declared.case.CaseAt.{CaseAt}
use Rattle.snb_validation_cases.specs.CaseFile.{case_language}
use Rattle.snb_validation_cases.specs.Cases.{IsCase}
use Rattle.snb_validation_cases.specs.Laws.{OneCaseColumn, OneCaseLine, OneHeaderColumn}
use Rattle.snb_validation_model.specs.CasesFile.{IsCaseAmiss, said_cases}
use Rattle.snb_validation_check.specs.CaseTakers.{AreCaseTakers, CasesAreLawful, Counted, HasTaken, IsHeard, RefusesCase, TakesCase}
use Rattle.snb_validation_model.specs.Checks.{Finds, IsAfterCases, count_reads, is_read}
use Rattle.snb_validation_model.specs.Steps.{HasText, Steps}
use Rattle.snb_validation_check.proofs.CasesFacts.{finds_insert, finds_read, right_none}
use Rattle.snb_validation_check.proofs.Inserting.{after_more, after_same}
use Rattle.snb_validation_check.proofs.Refusing.{own_one, refused_on}

-- the format is lawful over each base
pub cases_lawful : GraphsAreTheirRows → OneCaseLine → OneHeaderColumn → OneCaseColumn → CasesAreLawful
cases_lawful rows exact header column = λ base. record {
  exact = λ file. exact;
  one_header_column = λ file line a b p q. header line a b p q;
  one_column = λ file k line a b p q. column line a b p q;
  one_own = λ file done mine x r q a b. own_one rows base (said_cases done mine) file x r q a b;
}

-- a case that a value is has a line where it inserts
pub has_text : (d : Data) (c : Case) → IsCase d c → HasText c
has_text d (Insert line) is = (is.is_line.0, line.t, line.t_d, is.is_line.2)
has_text d (Ask query reply) is = tt

cases_fit : Fits case_language (λ (x : CaseAt). HasText x.case)
cases_fit = λ known number line x text one_line says. has_text says.0.1 x.case says.0.3

-- one case more is counted where it is a read
count_push : (cases : List CaseAt) (x : CaseAt) → count_reads (cases ++ x ∷ []) ≡ count_reads cases + count_reads (x ∷ [])
count_push cases x =
    let p = λ (c : CaseAt). is_read c.case in
    ap (λ (cs : List CaseAt). length cs) (filter-append p cases (x ∷ [])) ∙ length-append (filter p cases) (filter p (x ∷ []))

module _ (rows : GraphsAreTheirRows) (base : List Row) where
  module _ (cases : List CaseAt) (old new : Counted) (h : HasTaken base old cases) where
    -- what a step makes of the graph, and of what is found
    stepped : (c : Case) (n : ℕ) → Steps old.checked c n new.checked
        → IsAfterCases base (cases ++ record { line = n; case = c } ∷ []) new.checked.graph × Finds base (cases ++ record { line = n; case = c } ∷ []) new.checked.first
    stepped (Insert line) n steps = (
      after_more base cases (record { line = n; case = Insert line }) old.checked.graph h.after new.checked.graph steps.0,
      subst (Finds base (cases ++ record { line = n; case = Insert line } ∷ [])) (sym steps.1)
          (finds_insert rows base cases line n old.checked.graph old.checked.first h.after h.found),
    )
    stepped (Ask query due) n steps = (
      subst (IsAfterCases base (cases ++ record { line = n; case = Ask query due } ∷ [])) (sym steps.0)
          (after_same base cases (record { line = n; case = Ask query due }) old.checked.graph h.after refl),
      finds_read rows base cases n query due old.checked.graph h.after h.sound old.checked.first new.checked.first steps.1 h.found,
    )

    -- one case more is taken
    taken_more : (file : FileId) (x : CaseAt) → TakesCase old file x new → HasTaken base new (cases ++ x ∷ [])
    taken_more file x t =
        let s = stepped x.case x.line t.steps in
        record {
          after = s.0;
          sound = t.sound;
          reads = t.counted ∙ (ap (λ (n : ℕ). n + count_reads (x ∷ [])) h.reads ∙ sym (count_push cases x));
          found = s.1;
        }

  -- what a file_sink takes it was told, and what it refuses is refused by all that it was told before
  cases_hear : Hears TakesCase RefusesCase (IsHeard base) (IsCaseAmiss base)
  cases_hear = record {
    more = λ old new file x done mine h t.
        subst (HasTaken base new) (append_assoc (flat_map (λ (cs : List CaseAt). cs) done) mine (x ∷ [])) (taken_more (said_cases done mine) old new h file x t);
    passes = λ old new file x done mine r h t a. t.fine r (refused_on rows base (said_cases done mine) file x r old.checked.graph h.after a);
    bad = λ old file x done mine r h wrong. record { graph = old.checked.graph; after = h.after; refused = wrong };
  }

  -- the cases of a file that has ended are those of a file before
  said_next : (done : List (List CaseAt)) (mine : List CaseAt) → said_cases (done ++ mine ∷ []) [] ≡ said_cases done mine
  said_next done mine =
      append-nil (flat_map (λ (cs : List CaseAt). cs) (done ++ mine ∷ [])) ∙ sym (flat_map_more (λ (cs : List CaseAt). cs) [] done mine)

  cases_turned : (old new : Counted) (done : List (List CaseAt)) (mine : List CaseAt) → IsHeard base old done mine → new ≡ old → IsHeard base new (done ++ mine ∷ []) []
  cases_turned old new done mine h e = subst (λ (s : Counted). HasTaken base s (said_cases (done ++ mine ∷ []) [])) (sym e) (subst (HasTaken base old) (sym (said_next done mine)) h)

-- what takes cases is a file_sink of their files
pub cases_right : GraphsAreTheirRows → CasesAreLawful → AreCaseTakers
cases_right rows lawful = λ begun. record {
  lawful = lawful begun.checked.graph;
  fits = λ file. cases_fit;
  hears = cases_hear rows begun.checked.graph;
  turned = cases_turned rows begun.checked.graph;
  ended = λ s file done mine h. refl;
}

-- before the first case
pub taken_none : (base : List Row) → IsGraph base → Sound base → HasTaken base (record { checked = record { graph = base; first = None }; reads = 0 }) []
taken_none base graph sound = record {
  after = record { graph = graph; rows = subst (IsPermutation base) (sym (append-nil base)) (IsPermutation-refl base) };
  sound = sound;
  reads = refl;
  found = right_none base;
}
