-- What a call of the program does, by what it is asked and how it ends.
use Rattle.std.specs.Prelude.{◌≡◌, ℕ, Bool, true, List, nat_eq, None, IfSome, ◌⊎◌}
use Rattle.snb_base.specs.Moments.{Moments}
use Rattle.snb_base.specs.declared.outbox.Outbox.{Ghosts as Outboxes}
use Rattle.snb_base.specs.declared.shelf.Shelf.{Ghosts as Shelves}
use Rattle.snb_base.specs.Reads.{IsShelfRead}
use Rattle.snb_base.specs.Shelf.{HasCounted}
use Rattle.snb_handlers.specs.Table.{HasAll}
use Rattle.snb_schema.specs.declared.refusal.Refusal.{Refusal}
use Rattle.snb_tool_words.specs.declared.command.Command.{Command}
use Rattle.snb_tool_words.specs.Commands.{IsLineOf}
use Rattle.snb_tool_words.specs.CommandFacts.{folder_of, needs_table, command_waits}
use Rattle.snb_tool_outcome.specs.Inputs.{IsSurelyFine, IsSurelyRefused}
use Rattle.snb_tool_outcome.specs.Output.{HasBegun, HasWritten}
use Rattle.snb_tool_outcome.specs.Outside.{Call, EndsAs, seen}
use Rattle.snb_tool_outcome.specs.Outcome.{Asked, IsAsked, IsCallAnswer, IsDoneAnswer, IsOther, IsRefused}

-- texts that belong to the words and the status of the call were added to the channels, unless the
-- status is 4, 5 or 6
abbrev pub IsAnswered : Asked → Call → ℕ → Type 0
IsAnswered asked call status =
    HasWritten call.before.written call.after.written
    (IsCallAnswer asked call.before.contents call.before.moments status)
    ⊎ ((status ≡ 4) ⊎ ((status ≡ 5) ⊎ (status ≡ 6)))

-- a front of texts that belong to the words and some status was added to them
abbrev pub IsCut : Asked → Call → Type 0
IsCut asked call =
    (status : ℕ) × HasBegun call.before.ready call.before.written call.after.written
    (IsCallAnswer asked call.before.contents call.before.moments status)

-- where the words are a command's line, and nothing is wrong with what the command finds, the call
-- ends with the command done
abbrev pub Completes : Asked → Call → ℕ → Type 0
Completes asked call status =
    (command : Command)
    → IsAsked asked command
    → IsSurelyFine call.before.contents asked.given command
    → EndsAs (IsDoneAnswer asked.given command) call status

-- where they are, and something is wrong with it, the call ends with what is wrong first
abbrev pub Refuses : Asked → Call → ℕ → Type 0
Refuses asked call status =
    (command : Command)
    → IsAsked asked command
    → (r : Refusal)
    → IsSurelyRefused call.before.contents asked.given command r
    → EndsAs (λ contents moments. IsRefused r) call status

-- the words are that of a command that reads nothing: it reads no folder, or asks a table in which
-- a kind of read has no handler
abbrev pub ReadsNothing : Asked → Type 0
ReadsNothing asked =
    (command : Command) × IsAsked asked command
    × ((folder_of command ≡ None) ⊎
    ((needs_table command ≡ true) × IfSome asked.given (λ c. ¬ HasAll c.kinds)))

-- whatever command the words are the line of, it waits, or it doesn't
abbrev pub AreWaiting : Bool → List (List ℕ) → Type 0
AreWaiting waiting words =
    (command : Command) → IsLineOf words command → command_waits command ≡ waiting

-- what follows of how a call ends, and what each is for
pub record Follows (asked : Asked) (call : Call) (status : ℕ) : Type 0 where
  -- who sees a status of 0 to 3 has all texts
  pub answered : IsAnswered asked call status
  -- who sees 4 or 6 can call again, and has nothing to remove
  pub unwritten : ((status ≡ 4) ⊎ (status ≡ 6)) → call.after.written ≡ call.before.written
  -- who sees 5 knows which files to distrust
  pub cut : status ≡ 5 → IsCut asked call
  -- no good input is refused
  pub complete : Completes asked call status
  -- no bad one is accepted, and its first fault is the one that is shown
  pub refuses : Refuses asked call status

-- what a call of the program does that is asked this and ends with this status, where its clock can
-- answer these moments: by the shelf and the outbox before it and after it
pub record HasServed {S O : Type 0} (shelves : Shelves S) (outboxes : Outboxes O)
    (moments : Moments) (asked : Asked) (shelf shelf_after : S) (out out_after : O) (status : ℕ)
    : Type 0 where
  -- it ends with the texts that belong to the words, the files and the status; with a failed read,
  -- 4; with a failed write, 5, after a front of such texts; or for want of memory, 6
  pub ends : EndsAs (IsCallAnswer asked)
      (seen shelves outboxes moments shelf shelf_after out out_after) status
  -- words that are no line of a command are answered with the usage, and nothing is read
  pub other_line : IsOther asked → ((status ≡ 2) ⊎ (status ≡ 5)) × (shelf_after ≡ shelf)
  -- nothing is read for a command that reads nothing
  pub unread : ReadsNothing asked → shelf_after ≡ shelf
  -- the status is 4 only where a read failed, and nothing but the count of these faults is another
  -- afterwards
  pub read : IsShelfRead (nat_eq status 4) shelves shelf shelf_after
  -- the status is 5 only where a write failed
  pub counted : HasCounted (nat_eq status 5) (outboxes.faults out) (outboxes.faults out_after)
  -- and what follows of these
  pub follows : Follows asked (seen shelves outboxes moments shelf shelf_after out out_after) status
