-- What is known of cases that are expected and of cases that are validated.
use Rattle.std.specs.Prelude.{◌≡◌, ◌≤◌, ℕ, ◌⊎◌, ◌↔◌, ◌++◌, List, length, Some}
use Rattle.snb_base.specs.Moments.{Moments}
use Rattle.std.specs.Option.{IsSomeAnd}
use Rattle.snb_base.specs.Outbox.{Written}
use Rattle.snb_handlers.specs.Table.{HasAll}
use Rattle.snb_validation_cases.specs.declared.case.Case.{Case}
use Rattle.snb_validation_cases.specs.declared.case.CaseAt.{CaseAt}
use Rattle.snb_validation_model.specs.declared.tally.Tally.{Tally}
use Rattle.snb_validation_model.specs.CasesFile.{AreCases, IsTally}
use Rattle.snb_validation_model.specs.CheckTexts.{tally_text}
use Rattle.snb_validation_model.specs.Checks.{AreRight}
use Rattle.snb_validation_model.specs.CaseTexts.{cases_text, case_count_text}
use Rattle.snb_validation_model.specs.Expected.{AreExpected, AreReadBack}
use Rattle.snb_loader.specs.Dataset.{IsDataset}
use Rattle.snb_base.specs.Shelf.{Files}
use Rattle.snb_input_files.specs.Files.{held_in}
use Rattle.snb_plan.specs.Plans.{Plan}
use Rattle.snb_schema.specs.declared.file.FileId.{FileId}
use Rattle.snb_schema.specs.declared.limits.TheConstants.{MAX_BYTES}
use Rattle.snb_schema.specs.declared.row.Row.{Row}
use Rattle.snb_schema.specs.Frequencies.{FrequencyTable}
use Rattle.snb_tool_words.specs.declared.command.Command.TheVariants.{Expect, Validate}
use Rattle.snb_tool_words.specs.declared.options.Via.{Via}
use Rattle.snb_tool_words.specs.declared.options.Via.TheVariants.{Graph, Table}
use Rattle.snb_tool_words.specs.Commands.{IsLineOf}
use Rattle.snb_tool_outcome.specs.Inputs.{IsSurelyFine, IsInput, at_first}
use Rattle.snb_tool_outcome.specs.Outcome.{Asked, IsCallAnswer}
use Rattle.snb_tool_outcome.specs.Output.{HasWritten}
use Rattle.snb_ratio.specs.Ratios.{real_time}

-- what a validation that is done says, where the files and the channels are told: the file of this
-- name says these cases; the status is 0 exactly where each reply that they have is the one on the
-- graph of the tables with the inserts before it; and the text of what is found was added to the
-- screen
pub record IsValidateInShort (files : Files) (folder name : List ℕ) (status : ℕ) (old new : Written)
    : Type 0 where
  pub graph : List Row
  pub dataset : IsDataset at_first (held_in folder files) graph
  pub cases : List CaseAt
  pub said : AreCases graph (files name) cases
  pub exactly : (status ≡ 0) ↔ AreRight graph cases
  pub tally : Tally
  pub found : IsTally graph (files name) tally
  pub screen : new.screen ≡ old.screen ++ tally_text tally

-- status 0 or 1 of `validate` says that
abbrev pub ValidateInShort : Type 0
ValidateInShort =
    (asked : Asked) (files : Files) (moments : Moments) (folder name : List ℕ) (via : Via)
    (status : ℕ) (old new : Written)
    → IsLineOf asked.words (Validate folder name via) → (status ≡ 0) ⊎ (status ≡ 1)
    → HasWritten (Some old) (Some new) (IsCallAnswer asked (Some files) moments status)
    → IsValidateInShort files folder name status old new

-- what `expect` that is done has added to the channels, where the files and the channels are told:
-- the cases of the plan of the files, each insert and each query with its reply on the dataset with
-- the inserts of smaller number, and how many operations there are; and each case is read from its
-- line
pub record IsExpectInShort (files : Files) (folder : List ℕ) (frequencies : FrequencyTable)
    (old new : Written) : Type 0 where
  pub graph : List Row
  pub plan : Plan
  pub input : IsInput (held_in folder files) real_time frequencies graph plan
  pub cases : List Case
  pub are : AreExpected graph plan cases
  pub read_back : AreReadBack cases
  pub text : new.cases ≡ old.cases ++ cases_text cases
  pub screen : new.screen ≡ old.screen ++ case_count_text (length plan.operations)

-- status 0 of `expect` says that
abbrev pub ExpectInShort : Type 0
ExpectInShort =
    (asked : Asked) (files : Files) (moments : Moments) (folder : List ℕ)
    (frequencies : FrequencyTable) (old new : Written)
    → IsLineOf asked.words (Expect folder frequencies)
    → HasWritten (Some old) (Some new) (IsCallAnswer asked (Some files) moments 0)
    → IsExpectInShort files folder frequencies old new

-- the cases that `expect` wrote of a folder are right for `validate`: where the file of a name has
-- them, at most `MAX_BYTES` bytes, and the folder's files are what they were, nothing is wrong with
-- what `validate` finds, and it is done with status 0
abbrev pub ExpectedIsValid : Type 0
ExpectedIsValid =
    (asked others : Asked) (files after : Files) (moments later : Moments) (folder name : List ℕ)
    (frequencies : FrequencyTable) (texts : Written)
    → IsLineOf asked.words (Expect folder frequencies)
    → IsCallAnswer asked (Some files) moments 0 texts → length texts.cases ≤ MAX_BYTES
    → IsLineOf others.words (Validate folder name Graph) → after name ≡ Some texts.cases
    → ((file : FileId) → held_in folder after file ≡ held_in folder files file)
    → IsSurelyFine (Some after) others.given (Validate folder name Graph)
    × ((status : ℕ) (shown : Written) → IsCallAnswer others (Some after) later status shown
    → status ≡ 0)

-- a validation by a table in which each kind of read has a handler answers what one by the graph's
-- own reads answers over the same files: the same status, and the same texts
abbrev pub ViaTableIsTheSame : Type 0
ViaTableIsTheSame =
    (asked others : Asked) (files : Files) (moments later : Moments) (folder name : List ℕ)
    (status other : ℕ) (texts shown : Written)
    → IsLineOf asked.words (Validate folder name Graph)
    → IsCallAnswer asked (Some files) moments status texts
    → IsLineOf others.words (Validate folder name Table)
    → IsSomeAnd others.given (λ c. HasAll c.kinds)
    → IsCallAnswer others (Some files) later other shown
    → (other ≡ status) × (shown ≡ texts)
