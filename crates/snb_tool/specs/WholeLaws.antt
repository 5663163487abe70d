-- What a run wrote is whole for an audit and for latencies.
use Rattle.std.specs.Prelude.{◌≡◌, ℕ, true, List, Some}
use Rattle.snb_base.specs.Moments.{Moments}
use Rattle.snb_audit_model.specs.declared.verdict.AuditVerdict.{AuditVerdict}
use Rattle.snb_audit_model.specs.AuditVerdicts.{is_whole}
use Rattle.snb_audit_model.specs.VerdictTexts.{audit_status, audit_text}
use Rattle.snb_base.specs.Outbox.{Written}
use Rattle.snb_base.specs.Shelf.{Files}
use Rattle.snb_input_files.specs.Files.{held_in}
use Rattle.snb_schema.specs.declared.file.FileId.{FileId}
use Rattle.snb_schema.specs.Frequencies.{FrequencyTable}
use Rattle.snb_tool_words.specs.declared.command.Command.TheVariants.{Audit, Latency, Run}
use Rattle.snb_tool_words.specs.Commands.{IsLineOf}
use Rattle.snb_tool_outcome.specs.Inputs.{IsSurelyFine}
use Rattle.snb_tool_outcome.specs.Found.{Given}
use Rattle.snb_tool_outcome.specs.Outcome.{Asked, IsCallAnswer}
use Rattle.snb_tool_outcome.specs.Output.{on_screen}

-- a log is one of a whole run for `audit` and `latency`, by the files of a folder: nothing is wrong
-- with what either finds; the verdict that `audit` shows is that the run is accepted or late; and
-- `latency` is done with status 0
pub record IsWholeRun (files : Files) (folder log : List ℕ) (ratio : ℕ)
    (frequencies : FrequencyTable) : Type 0 where
  pub audit_fine : (given : Given)
      → IsSurelyFine (Some files) given (Audit folder log ratio frequencies)
  pub audited :
      (asked : Asked) (moments : Moments) (status : ℕ) (texts : Written)
      → IsLineOf asked.words (Audit folder log ratio frequencies)
      → IsCallAnswer asked (Some files) moments status texts
      → (verdict : AuditVerdict) × (is_whole verdict ≡ true) × (status ≡ audit_status verdict)
      × (texts ≡ on_screen (audit_text verdict))
  pub latency_fine : (given : Given)
      → IsSurelyFine (Some files) given (Latency folder log ratio frequencies)
  pub measured :
      (asked : Asked) (moments : Moments) (status : ℕ) (texts : Written)
      → IsLineOf asked.words (Latency folder log ratio frequencies)
      → IsCallAnswer asked (Some files) moments status texts
      → status ≡ 0

-- so is the log that `run` wrote of the folder, under the same ratio and frequencies: where the
-- file of a name has it, and the folder's files are what they were
abbrev pub RunIsWhole : Type 0
RunIsWhole =
    (asked : Asked) (files after : Files) (moments : Moments) (folder name : List ℕ)
    (workers ratio : ℕ) (frequencies : FrequencyTable) (texts : Written)
    → IsLineOf asked.words (Run folder workers ratio frequencies)
    → IsCallAnswer asked (Some files) moments 0 texts
    → after name ≡ Some texts.log →
    ((file : FileId) → held_in folder after file ≡ held_in folder files file)
    → IsWholeRun after folder name ratio frequencies
