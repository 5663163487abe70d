-- How the parts of a call end. Cited by contracts of its parts alone.
use Rattle.std.specs.Prelude.{◌≡◌, ℕ, ◌⊎◌, List, Option, IfSome, Result, Ok, Err}
use Rattle.snb_base.specs.Moments.{Moments}
use Rattle.std.specs.Borrow.{Bor}
use Rattle.snb_base.specs.declared.outbox.Outbox.{Ghosts as Outboxes}
use Rattle.snb_base.specs.Outbox.{Written}
use Rattle.snb_base.specs.Shelf.{Files, Rose}
use Rattle.snb_base.specs.FirstOf.{FirstOf, NoneOf}
use Rattle.snb_handlers.specs.Table.{HasAll}
use Rattle.snb_input_files.specs.declared.load.Load.{Load}
use Rattle.snb_input_files.specs.declared.load.Load.TheVariants.{Refused, ReadFault, Memory}
use Rattle.snb_schema.specs.ScreenTexts.{refusal_text}
use Rattle.snb_tool_texts.specs.Answers.{bytes_in}
use Rattle.snb_tool_words.specs.declared.command.Command.{Command}
use Rattle.snb_tool_words.specs.Words.{texts_of}
use Rattle.snb_tool_outcome.specs.declared.delivery.Finished.{Finished}
use Rattle.snb_tool_outcome.specs.declared.delivery.Output.{Output}
use Rattle.snb_tool_outcome.specs.Inputs.{checks_of}
use Rattle.snb_tool_outcome.specs.Found.{Found, Given, IsFoundTold}
use Rattle.snb_tool_outcome.specs.Outcome.{Asked}
use Rattle.snb_tool_outcome.specs.Done.{IsDone}
use Rattle.snb_tool_outcome.specs.Output.{HasBegun, Wrote, on_screen}

-- the bytes of each channel
abbrev pub bytes_of : Output → Written
bytes_of o =
    record {
      screen = o.screen.items;
      log = o.log.items;
      answers = bytes_in o.answers.items;
      finals = o.finals.items;
      cases = o.cases.items;
    }

-- texts are written whole on an outbox, with this status; or a front of them, where it failed,
-- which wasn't sure of all of them
abbrev pub Delivers : {O : Type 0} → Outboxes O → O → O → ℕ → Written → ℕ → Type 0
Delivers outboxes old new status texts result =
    ((result ≡ status) × Wrote (outboxes.written old) (outboxes.written new) texts)
    ⊎ ((result ≡ 5)
    × Rose (outboxes.faults old) (outboxes.faults new)
    × HasBegun (outboxes.ready old) (outboxes.written old) (outboxes.written new)
    (λ all. all ≡ texts))

-- how what a command answers is delivered: the texts of one that is done with its status; what is
-- wrong first with 3, where memory suffices; and nothing after a failed read, with 4, and for want
-- of memory, with 6
abbrev pub Finishes : {O : Type 0} → Outboxes O → O → O → Result Finished Load → ℕ → Type 0
Finishes outboxes old new (Ok f) result =
    Delivers outboxes old new f.status (bytes_of f.output) result
Finishes outboxes old new (Err (Refused r)) result =
    Delivers outboxes old new 3 (on_screen (refusal_text r)) result
    ⊎ ((result ≡ 6) × (outboxes.written new ≡ outboxes.written old))
Finishes outboxes old new (Err ReadFault) result =
    (result ≡ 4) × (outboxes.written new ≡ outboxes.written old)
Finishes outboxes old new (Err Memory) result =
    (result ≡ 6) × (outboxes.written new ≡ outboxes.written old)

-- a kind of read has no handler in the table
abbrev pub LacksKind : Given → Type 0
LacksKind given = IfSome given (λ c. ¬ HasAll c.kinds)

-- what a call is asked, which is given these, or nothing
abbrev pub asked_by : List (Bor (List ℕ)) → Given → Asked
asked_by words given = record { words = texts_of words; given = given }

-- there are files, which are those that the shelf tells where it tells any, and a table where the
-- command asks one, of which nothing is wrong, and the command is done with this status and these
-- texts
abbrev pub IsDoneWith : Command → Option Files → Given → Moments → ℕ → Written → Type 0
IsDoneWith command contents given moments status texts =
    (found : Found) × IsFoundTold contents given command found × NoneOf (checks_of command found)
    × IsDone command found moments status texts

-- what a command answers: its status and texts, where it is done; or what is wrong first with
-- files, which are those that the shelf tells where it tells any, and with the table that it asks
abbrev pub IsFinished : Command → Option Files → Given → Moments → Result Finished Load → Type 0
IsFinished command contents given moments (Ok f) =
    IsDoneWith command contents given moments f.status (bytes_of f.output)
IsFinished command contents given moments (Err (Refused r)) =
    (found : Found) × IsFoundTold contents given command found × FirstOf (checks_of command found) r
IsFinished command contents given moments (Err ReadFault) = Unit {0}
IsFinished command contents given moments (Err Memory) = Unit {0}
