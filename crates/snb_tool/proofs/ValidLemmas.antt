-- What `expect` wrote is valid.
use Rattle.std.proofs.Common.{◌≡◌, ◌≤◌, ◌∙◌, ℕ, ◌++◌, List, [], ◌∷◌, length, Option, Some, None, inl, inr, sym, ap, subst, arith}
use Rattle.snb_base.specs.Moments.{Moments}
use Rattle.snb_base.specs.Outbox.{Written}
use Rattle.snb_base.specs.Shelf.{Files}
use Rattle.snb_schema.specs.declared.limits.TheConstants.{MAX_BYTES}
use Rattle.snb_schema.specs.declared.row.Row.{Row}
use Rattle.snb_schema.specs.Frequencies.{FrequencyTable}
use Rattle.snb_input_files.specs.Files.{held_in}
use Rattle.snb_base.specs.FirstOf.{NoneOf}
use Rattle.snb_input_files.specs.Walk.{Held}
use Rattle.snb_input_files.proofs.Laws.{none_append}
use Rattle.snb_loader.specs.Dataset.{IsDataset, dataset_checks}
use Rattle.snb_loader.specs.Laws.{DatasetIsOne}
use Rattle.snb_validation_model.specs.CasesFile.{IsTally}
use Rattle.snb_validation_model.specs.CheckTexts.{tally_status}
use Rattle.snb_validation_check.specs.Laws.{CasesRefusedOrNot, TallyIsOne}
use Rattle.snb_validation_model.specs.CaseTexts.{cases_text}
use Rattle.snb_validation_expect.specs.Laws.{ExpectedAreRight}
use Rattle.snb_plan.specs.Plans.{queries_in}
use Rattle.snb_tool_words.specs.declared.command.Command.{Command}
use Rattle.snb_tool_words.specs.declared.command.Command.TheVariants.{Expect, Validate}
use Rattle.snb_tool_words.specs.declared.options.Via.TheVariants.{Graph}
use Rattle.snb_tool_words.specs.Commands.{IsLineOf}
use Rattle.snb_tool_words.specs.Laws.{WordsAreOne}
use Rattle.snb_tool_outcome.specs.Inputs.{AreBadCases, IsSurelyFine, at_first, checks_of}
use Rattle.snb_tool_outcome.specs.Found.{Found, Given, IsFoundTold}
use Rattle.snb_tool.specs.Laws.{RefusedOrNot}
use Rattle.snb_tool.specs.CaseLaws.{ExpectInShort, ExpectedIsValid}
use Rattle.snb_tool_outcome.specs.Outcome.{Asked, IsCallAnswer}
use Rattle.snb_tool_outcome.specs.Done.{IsDone, IsExpected, IsValidated}
use Rattle.snb_tool.proofs.CompleteLemmas.{added, told_files}
use Rattle.snb_tool_dataset.proofs.Laws.{not_bad}

-- the tables of a folder have this graph, and over it nothing is wrong with this file of cases and no reply differs
record IsRight (held : Held) (text : List ℕ) : Type 0 where
  graph : List Row
  dataset : IsDataset at_first held graph
  reads : ℕ
  right : IsTally graph (Some text) (record { reads = reads; first = None })

-- so is what `expect` wrote over these tables
expected_right : ExpectedAreRight → (held : Held) (table : FrequencyTable) (texts : Written) → IsExpected held table texts → length texts.cases ≤ MAX_BYTES → IsRight held texts.cases
expected_right law held table texts e short =
    let same : texts.cases ≡ cases_text e.cases = ap (λ (w : Written). w.cases) e.shown in
    record {
      graph = e.graph;
      dataset = e.input.dataset;
      reads = length (queries_in e.plan);
      right = subst (λ (text : List ℕ). IsTally e.graph (Some text) (record { reads = length (queries_in e.plan); first = None })) (sym same)
          (law e.graph e.plan e.cases (record { of_streams = e.streams; closed = e.input.closed }) e.are e.read_back (subst (λ (text : List ℕ). length text ≤ MAX_BYTES) same short));
    }

module _ (one : DatasetIsOne) (or_not : CasesRefusedOrNot) (tally_one : TallyIsOne) (held : Held) (text : List ℕ) (r : IsRight held text) where
  -- then nothing is wrong with the tables and the cases
  fine : NoneOf (dataset_checks at_first held ++ AreBadCases held (Some text) ∷ [])
  fine = none_append (dataset_checks at_first held) (AreBadCases held (Some text) ∷ []) r.dataset.clean (not_bad one or_not held (Some text) r.graph r.dataset r.right.clean, tt)

  -- and what is found over them has the status 0
  zero_status : (status : ℕ) (shown : Written) → IsValidated held (Some text) status shown → status ≡ 0
  zero_status status shown v =
      let found : IsTally r.graph (Some text) v.tally = subst (λ (g : List Row). IsTally g (Some text) v.tally) (one at_first held v.graph r.graph v.dataset r.dataset) v.found in
      v.status_is ∙ ap tally_status (tally_one r.graph (Some text) v.tally (record { reads = r.reads; first = None }) found r.right)

-- what `expect` answered with status 0 are the cases of the files
done_expected : WordsAreOne → (asked : Asked) (files : Files) (moments : Moments) (folder : List ℕ) (table : FrequencyTable) (texts : Written) → IsLineOf asked.words (Expect folder table)
    → IsCallAnswer asked (Some files) moments 0 texts → IsExpected (held_in folder files) table texts
done_expected one asked files moments folder table texts line (inl usage) = (let e = usage.0 in absurd (omega (arith, e)))
done_expected one asked files moments folder table texts line (inr (c, l, (found, told, inr bad))) = (let e = bad.2.0 in absurd (omega (arith, e)))
done_expected one asked files moments folder table texts line (inr (c, l, (found, told, inl done))) =
    let same = one asked.words c (Expect folder table) l.line line in
    let told_here = subst (λ (d : Command). IsFoundTold (Some files) asked.given d found) same told in
    subst (λ (h : Held). IsExpected h table texts) (told_files folder files found.held told_here.0) (subst (λ (d : Command). IsDone d found moments 0 texts) same done.1).1

-- and they were added to the channels
pub expect_in_short : WordsAreOne → ExpectInShort
expect_in_short one asked files moments folder table old new line (texts, answered, w) =
    let e = done_expected one asked files moments folder table texts line answered in
    let now = added old new texts w in
    record {
      graph = e.graph;
      plan = e.plan;
      input = e.input;
      cases = e.cases;
      are = e.are;
      read_back = e.read_back;
      text = ap (λ (x : Written). x.cases) now ∙ ap (λ (x : Written). old.cases ++ x.cases) e.shown;
      screen = ap (λ (x : Written). x.screen) now ∙ ap (λ (x : Written). old.screen ++ x.screen) e.shown;
    }

module _ (one : DatasetIsOne) (or_not : CasesRefusedOrNot) (tally_one : TallyIsOne) (given : Given) (after : Files) (folder name text : List ℕ) (r : IsRight (held_in folder after) text) (there : after name ≡ Some text) where
  -- what `validate` finds are these tables and this file
  as_found : (P : Held → Option (List ℕ) → Type 0) (found : Found) → IsFoundTold (Some after) given (Validate folder name Graph) found → P (held_in folder after) (Some text) → P found.held found.beside
  as_found P found told p =
      subst (λ (h : Held). P h found.beside) (sym (told_files folder after found.held told.0)) (subst (P (held_in folder after)) (sym (told.1 ∙ there)) p)

  found_as : (P : Held → Option (List ℕ) → Type 0) (found : Found) → IsFoundTold (Some after) given (Validate folder name Graph) found → P found.held found.beside → P (held_in folder after) (Some text)
  found_as P found told p =
      subst (P (held_in folder after)) (told.1 ∙ there) (subst (λ (h : Held). P h found.beside) (told_files folder after found.held told.0) p)

  fine_found : IsSurelyFine (Some after) given (Validate folder name Graph)
  fine_found found told =
      as_found (λ held beside. NoneOf (dataset_checks at_first held ++ AreBadCases held beside ∷ [])) found told (fine one or_not tally_one (held_in folder after) text r)

  module _ (words_one : WordsAreOne) (law : RefusedOrNot) (words : List (List ℕ)) (later : Moments) (line : IsLineOf words (Validate folder name Graph)) where
    abbrev others : Asked
    others = record { words = words; given = given }

    zero_answer : (status : ℕ) (shown : Written) → IsCallAnswer others (Some after) later status shown → status ≡ 0
    zero_answer status shown (inl usage) = absurd (usage.1 (Validate folder name Graph) (record { line = line; given = λ e. absurd cc }))
    zero_answer status shown (inr (c, l, (found, told, inr bad))) =
        let same = words_one words c (Validate folder name Graph) l.line line in
        absurd (law c found bad.0 bad.1 (subst (λ (d : Command). NoneOf (checks_of d found)) (sym same) (fine_found found (subst (λ (d : Command). IsFoundTold (Some after) given d found) same told))))
    zero_answer status shown (inr (c, l, (found, told, inl done))) =
        let same = words_one words c (Validate folder name Graph) l.line line in
        let told_here = subst (λ (d : Command). IsFoundTold (Some after) given d found) same told in
        zero_status one or_not tally_one (held_in folder after) text r status shown
        (found_as (λ held beside. IsValidated held beside status shown) found told_here (subst (λ (d : Command). IsDone d found later status shown) same done.1))

pub expected_is_valid : WordsAreOne → RefusedOrNot → DatasetIsOne → CasesRefusedOrNot → TallyIsOne → ExpectedAreRight → ExpectedIsValid
expected_is_valid words_one law one or_not tally_one right asked others files after moments later folder name table texts line answered short other_line there kept =
    let e = done_expected words_one asked files moments folder table texts line answered in
    let same : held_in folder after ≡ held_in folder files = (λ i file. kept file i) in
    let r : IsRight (held_in folder after) texts.cases = subst (λ (h : Held). IsRight h texts.cases) (sym same) (expected_right right (held_in folder files) table texts e short) in (
      fine_found one or_not tally_one others.given after folder name texts.cases r there,
      zero_answer one or_not tally_one others.given after folder name texts.cases r there words_one law others.words later other_line,
    )
