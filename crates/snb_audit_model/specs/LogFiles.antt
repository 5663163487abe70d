-- What the file of a log says, what it is refused for, and what its reading answers.
use Rattle.std.specs.Prelude.{◌≡◌, ◌++◌, ℕ, ◌≤◌, List, [], ◌∷◌, All, Option, None, Some, Result, Ok, Err}
use Rattle.snb_base.specs.Shelf.{Files}
use Rattle.snb_history.specs.declared.logged.Header.{Header}
use Rattle.snb_history.specs.declared.logged.Logged.{Logged}
use Rattle.snb_schema.specs.declared.limits.TheConstants.{MAX_AT, MAX_WORKERS}
use Rattle.snb_schema.specs.declared.refusal.Refusal.{Refusal}
use Rattle.snb_schema.specs.declared.refusal.Refusal.TheVariants.{Absent}
use Rattle.snb_history.specs.History.{moment}
use Rattle.snb_schema.specs.Lines.{lines}
use Rattle.snb_input_lines.specs.Sinks.{Refuses, SinkMeaning, Takes}
use Rattle.snb_input_files.specs.declared.load.Load.{Load}
use Rattle.snb_input_files.specs.declared.load.Load.TheVariants.{Refused, ReadFault, Memory}
use Rattle.snb_base.specs.FirstOf.{FirstOf, NoneOf}
use Rattle.snb_input_files.specs.Format.{Format, IsFileSink, Rules}
use Rattle.snb_input_files.specs.Loading.{IsTold}
use Rattle.snb_input_files.specs.Places.{LinesSay, opening}
use Rattle.snb_input_files.specs.PlaceChecks.{file_checks}
use Rattle.snb_runlog.specs.Columns.{HasCount, HasOperations}
use Rattle.snb_runlog.specs.Lines.{log_file, log_language}
use Rattle.snb_audit_model.specs.declared.log.Log.{Log}

-- events are refused for nothing but their lines: there may be any number of them, and none
abbrev pub log_rules : Rules Logged
log_rules = record { limit = None; own = λ file done mine x r. ⊥; bare = λ file items. None }

-- what a log says, and what it is refused for
abbrev pub log_format : Format Header Logged
log_format = record { language = λ file. log_language; rules = log_rules }

-- what is tried of a log, in order: whether it is held, then its lines, then whether it has a
-- header
abbrev pub log_checks : Option (List ℕ) → List {1} (Refusal → Type 0)
log_checks None = (λ r. r ≡ Absent log_file) ∷ []
log_checks (Some bytes) = file_checks log_format (opening log_file 0 0 [] bytes) bytes

-- a log of either version is held, and its lines say this header, and what is logged
abbrev pub IsLogOf : Option (List ℕ) → Header → List Logged → Type 0
IsLogOf None header logged = ⊥
IsLogOf (Some bytes) header logged = LinesSay log_format log_file (lines bytes) logged (Some header)

-- what the reading of a log answers: this is held under the name, where the shelf tells what it
-- holds, of which nothing is wrong and this is what it says, or which is refused so
abbrev pub IsLogAnswer : Option Files → List ℕ → Result Log Load → Type 0
IsLogAnswer contents name (Ok log) =
    (held : Option (List ℕ)) × IsTold contents name held × NoneOf (log_checks held)
    × IsLogOf held log.header log.logged.items
IsLogAnswer contents name (Err (Refused r)) =
    (held : Option (List ℕ)) × IsTold contents name held × FirstOf (log_checks held) r
IsLogAnswer contents name (Err ReadFault) = Unit {0}
IsLogAnswer contents name (Err Memory) = Unit {0}

-- a log of one to `MAX_WORKERS` workers, in which no moment is after `MAX_AT`; there is a count of
-- operations exactly in version 2, and of rows exactly at each Finish of version 2
pub record IsAuditable (log : Log) : Type 0 where
  pub some_worker : 1 ≤ log.header.workers
  pub few_workers : log.header.workers ≤ MAX_WORKERS
  pub timed : All (λ l. moment l.event ≤ MAX_AT) log.logged.items
  pub operations : HasOperations log.header
  pub counted : All (HasCount log.header.version) log.logged.items

-- what is logged so far is what the file said so far
abbrev pub HasHeard : List Logged → List (List Logged) → List Logged → Type 0
HasHeard s done mine = s ≡ mine

-- an event comes after those before, with its count
abbrev pub TakesEvent : Takes (List Logged) Logged
TakesEvent old file x new = new ≡ old ++ x ∷ []

-- none is refused
abbrev pub RefusesEvent : Refuses (List Logged) Logged
RefusesEvent old file x r = ⊥

-- what takes the events of a log
abbrev pub log_sink : SinkMeaning (List Logged) Logged
log_sink = record {
  fits = λ x. Unit {0};
  takes = TakesEvent;
  refuses = RefusesEvent;
  same = λ old new. new ≡ old;
  ends = λ s file. None;
  turns = λ old new. new ≡ [];
}

-- what takes the events of a log is a file_sink of its file
abbrev pub IsLogFileSink : Type 0
IsLogFileSink = IsFileSink log_format HasHeard log_sink
