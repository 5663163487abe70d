-- The text of a log.
use Rattle.std.specs.Prelude.{ℕ, List, [], ◌++◌, codes, map, Option, None, Some}
use Rattle.std.specs.Fmt.{decimal}
use Rattle.std.specs.List.{flat_map}
use Rattle.snb_history.specs.declared.event.Event.{Event}
use Rattle.snb_history.specs.declared.event.Event.TheVariants.{Start, Finish, Halt}
use Rattle.snb_history.specs.declared.logged.Header.{Header}
use Rattle.snb_history.specs.declared.logged.Logged.{Logged}

-- what the line of an event begins with, whatever the version of the log
abbrev pub event_text : Event → List ℕ
event_text (Start op worker at) =
    codes "S|" ++ decimal op ++ codes "|" ++ decimal worker ++ codes "|" ++ decimal at
event_text (Finish op worker at front) =
    codes "F|" ++ decimal op ++ codes "|" ++ decimal worker ++ codes "|" ++ decimal at ++ codes "|"
    ++ decimal front
event_text (Halt worker) = codes "H|" ++ decimal worker

-- the column of a count, where there is one
abbrev pub count_text : Option ℕ → List ℕ
count_text None = []
count_text (Some n) = codes "|" ++ decimal n

-- the line of a header
abbrev pub header_line : Header → List ℕ
header_line head =
    codes "snblog|" ++ decimal head.version ++ codes "|" ++ decimal head.workers
    ++ count_text head.operations ++ codes "\n"

-- the line of an event, with its count of rows where it has one
abbrev pub logged_line : Logged → List ℕ
logged_line l = event_text l.event ++ count_text l.rows ++ codes "\n"

-- a log with this header, in either version
abbrev pub text_of_log : Header → List Logged → List ℕ
text_of_log head logged = header_line head ++ flat_map logged_line logged

-- the header of a log of version 2: so many workers, and so many operations
abbrev pub header_of : ℕ → ℕ → Header
header_of workers operations =
    record { version = 2; workers = workers; operations = Some operations }

-- the log of a run with so many workers, of a plan with so many operations
abbrev pub log_text : ℕ → ℕ → List Logged → List ℕ
log_text workers operations logged = text_of_log (header_of workers operations) logged

-- the header of a log of version 1: so many workers
abbrev pub first_header : ℕ → Header
first_header workers = record { version = 1; workers = workers; operations = None }

-- an event without a count
abbrev pub without_count : Event → Logged
without_count e = record { event = e; rows = None }

-- the log of version 1 of a history with so many workers
abbrev pub first_log_text : ℕ → List Event → List ℕ
first_log_text workers h = text_of_log (first_header workers) (map without_count h)
